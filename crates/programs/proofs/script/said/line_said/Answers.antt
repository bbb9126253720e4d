use Rattle.std.proofs.Common.{Err, None, Some, refl, sym, ap, ◌∙◌, subst}
use Rattle.std.specs.Prelude.{option_map}
use Rattle.std.proofs.lemmas.Result.{err_from_is_err_and}
use Rattle.text.specs.Turns.{piece_of, words_left}
use Rattle.programs.specs.ScriptSaid.{item_of, LineGives}
use Rattle.programs.specs.ScriptLines.{item_said, first_of}
use Rattle.programs.proofs.ScriptSaying.{says_nothing, says_by, line_ok, line_err, words_at}
use Rattle.programs.proofs.script.said.line_said.Goals as goal

pub returns-in_default : goal.returns-in_default
returns-in_default g c =
    let line = c.args.line in
    let all = words_at c.words-words.result line.text.now line.from c.words-words.ensures.text c.words-words.ensures.from in
    says_nothing g.A.Spelled.spelling line.text.now line.from (all ∙ c.in_default.ensures.steps.0)

pub returns-in_default-first_of : goal.returns-in_default-first_of
returns-in_default-first_of g c =
    let line = c.args.line in
    let all = words_at c.words-words.result line.text.now line.from c.words-words.ensures.text c.words-words.ensures.from in
    let word = c.in-Some.word in (
      refl,
      says_by g.A.Spelled.spelling line.text.now line.from (piece_of word) (words_left c.next.new.self) None (all ∙ c.in-Some.ensures.steps) (c.in_default-first_of.ensures ∙ ap (λ n. first_of n word.bytes.now) c.name.ensures),
    )

pub returns-in_err-item : goal.returns-in_err-item
returns-in_err-item g c =
    let line = c.args.line in
    let all = words_at c.words-words.result line.text.now line.from c.words-words.ensures.text c.words-words.ensures.from in
    let word = c.in-Some.word in
    let rest = words_left c.next.new.self in
    let first = c.in-Some-first_of.first in
    let by = says_by g.A.Spelled.spelling line.text.now line.from (piece_of word) rest (Some first) (all ∙ c.in-Some.ensures.steps) (c.in-Some-first_of.ensures ∙ ap (λ n. first_of n word.bytes.now) c.name.ensures) in
    let p = err_from_is_err_and c.from_residual.result c.from_residual.ensures.1 in
    rw (p.1, p.2) (subst (λ r. LineGives c.args.number (option_map item_of) (Err c.in_err-item.field-0.0) r) (sym by)
    (line_err c.args.number item_of (item_said g.A.Spelled.spelling first line.text.now rest) c.in_err-item.field-0.0 c.in_err-item.ensures))

pub returns : goal.returns
returns g c =
    let line = c.args.line in
    let all = words_at c.words-words.result line.text.now line.from c.words-words.ensures.text c.words-words.ensures.from in
    let word = c.in-Some.word in
    let rest = words_left c.next.new.self in
    let first = c.in-Some-first_of.first in
    says_by g.A.Spelled.spelling line.text.now line.from (piece_of word) rest (Some first) (all ∙ c.in-Some.ensures.steps) (c.in-Some-first_of.ensures ∙ ap (λ n. first_of n word.bytes.now) c.name.ensures)
    ∙ line_ok c.args.number item_of (item_said g.A.Spelled.spelling first line.text.now rest) c.in_ok-item.field-0 c.in_ok-item.ensures
