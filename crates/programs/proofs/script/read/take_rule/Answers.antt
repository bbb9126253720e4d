use Rattle.std.proofs.Common.{◌≡◌, ◌++◌, [], ◌∷◌, true, false, map, take, drop, None, Some, sym, ap, ◌∙◌}
use Rattle.std.specs.Prelude.{option_map}
use Rattle.std.proofs.lemmas.Bool.{cond-true, cond-false}
use Rattle.std.proofs.lemmas.List.{map-append}
use Rattle.book.specs.Runs.{a_load}
use Rattle.programs.specs.Said.{book_line, script_said}
use Rattle.programs.specs.ScriptLines.{so_far, with_item, a_book_call, is_end}
use Rattle.programs.proofs.ScriptReading.{rules_more, rules_whole}
use Rattle.programs.proofs.script.read.take_rule.Goals as goal

pub returns-in_ok-push-clause-gives : goal.returns-in_ok-push-clause-gives
returns-in_ok-push-clause-gives g c =
    let s = c.args.reader.now.script in
    let text = c.args.line.text.now in
    let at = c.args.line.from in
    let w = drop at text in
    let rules = drop c.args.from (take at text) in
    let ends : is_end w ≡ true = cc (c.same.ensures, c.bytes.ensures, c.if-same.true) in
    let called : map book_line c.push.new.self.items ≡ map book_line s.book.items ++ (a_load rules ∷ []) = ap (map book_line) c.in_ok-push.ensures.items
    ∙ map-append book_line s.book.items _
    ∙ ap (λ t. map book_line s.book.items ++ (a_load t ∷ [])) (rules_whole text c.args.from at c.requires.before) in
    ap (λ b. so_far (record (script_said s) { book = b }) None) called
    ∙ sym (cond-true (is_end w) (so_far (with_item (script_said s) (a_book_call (a_load rules))) None) (so_far (script_said s) (Some (rules ++ (w ++ (10 ∷ []))))) ends)

pub returns-else-same-clause-gives : goal.returns-else-same-clause-gives
returns-else-same-clause-gives g c =
    let s = c.args.reader.now.script in
    let text = c.args.line.text.now in
    let at = c.args.line.from in
    let w = drop at text in
    let rules = drop c.args.from (take at text) in
    let others : is_end w ≡ false = cc (c.same.ensures, c.bytes.ensures, c.if-same.false) in
    ap (λ r. so_far (script_said s) (option_map (λ f. drop f (text ++ (10 ∷ []))) r)) c.requires.begun
    ∙ ap (λ t. so_far (script_said s) (Some t)) (rules_more text c.args.from at c.requires.before c.args.line.inside)
    ∙ sym (cond-false (is_end w) (so_far (with_item (script_said s) (a_book_call (a_load rules))) None) (so_far (script_said s) (Some (rules ++ (w ++ (10 ∷ []))))) others)
