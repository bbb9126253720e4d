use Rattle.std.proofs.Common.{◌≡◌, true, false, subst, sym, ap, ◌∙◌, string_bytes}
use Rattle.grammar.specs.Lists.{same_numbers}
use Rattle.programs.specs.Output.{line_texts}
use Rattle.programs.specs.Spelling.{bytes_spelling, cards_spelling}
use Rattle.programs.specs.ScriptOutput.{part}
use Rattle.programs.specs.ScriptSaid.{TextGives}
use Rattle.programs.proofs.ScriptParts.{named_bytes, named_cards, named_none}
use Rattle.programs.proofs.script.part_text.Goals as goal

pub returns-then-same : goal.returns-then-same
returns-then-same c =
    let p = part c.args.script.first (line_texts c.args.script.text.now) in
    let w = c.first_word-number.result.1.now in
    let b : same_numbers w bytes_spelling.name ≡ true = ap (same_numbers w) (sym c.name.ensures) ∙ sym c.same.ensures ∙ c.if-same.true in
    subst (TextGives string_bytes c.read_text.result) (named_bytes p c.first_word-number.result.0 w c.first_word-number.ensures b) c.read_text.ensures

pub returns-then-same-2 : goal.returns-then-same-2
returns-then-same-2 c =
    let p = part c.args.script.first (line_texts c.args.script.text.now) in
    let w = c.first_word-number.result.1.now in
    let b : same_numbers w bytes_spelling.name ≡ false = ap (same_numbers w) (sym c.name.ensures) ∙ sym c.same.ensures ∙ c.if-same.false in
    let d : same_numbers w cards_spelling.name ≡ true = ap (same_numbers w) (sym c.name-2.ensures) ∙ sym c.same-2.ensures ∙ c.if-same-2.true in
    subst (TextGives string_bytes c.read_text-then-same-2.result) (named_cards p c.first_word-number.result.0 w c.first_word-number.ensures b d) c.read_text-then-same-2.ensures

pub returns : goal.returns
returns c =
    let p = part c.args.script.first (line_texts c.args.script.text.now) in
    let w = c.first_word-number.result.1.now in
    let b : same_numbers w bytes_spelling.name ≡ false = ap (same_numbers w) (sym c.name.ensures) ∙ sym c.same.ensures ∙ c.if-same.false in
    let d : same_numbers w cards_spelling.name ≡ false = ap (same_numbers w) (sym c.name-2.ensures) ∙ sym c.same-2.ensures ∙ c.if-same-2.false in
    named_none p c.first_word-number.result.0 w c.first_word-number.ensures b d
