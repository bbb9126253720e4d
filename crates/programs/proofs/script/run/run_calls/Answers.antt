use Rattle.std.proofs.Common.{◌≤◌, length, map, sym, ap, ◌∙◌, subst}
use Rattle.std.proofs.lemmas.Result.{IfOk-weaker}
use Rattle.replay.specs.Calls.{call_of}
use Rattle.programs.specs.Printed.{AllCheap}
use Rattle.programs.specs.Said.{book_line, chart_line, script_said}
use Rattle.programs.proofs.Admitting.{held_admitted}
use Rattle.programs.proofs.ScriptMeaning.{table_taken}
use Rattle.programs.proofs.script.run.run_calls.Goals as goal

pub calls_text-requires-clause-sound : goal.calls_text-requires-clause-sound
calls_text-requires-clause-sound g c =
    let few : length c.deref-3.result.now ≤ 32 = subst (λ ps. length ps ≤ 32) (sym c.deref-3.ensures.value) c.requires in
    let cheap = subst (λ l. AllCheap (map call_of l)) (sym c.deref-4.ensures.value) c.in_ok-book.ensures.cheap in
    (held_admitted (length c.deref-3.result.now) (map call_of c.deref-4.result.now) few cheap).sound

pub returns : goal.returns
returns g c =
    let said = ap (map call_of) c.deref-4.ensures.value ∙ c.in_ok-book.ensures.says ∙ ap (map book_line) c.deref.ensures.value in
    let text = table_taken g.A.Alphabet.test (script_said c.args.script.now) c.deref-3.result.now (map call_of c.deref-4.result.now) (map chart_line c.deref-6.result.now) c.requires
    c.deref-3.ensures.value said (ap (map chart_line) c.deref-6.ensures.value) in
    IfOk-weaker c.calls_text.result _ _ (λ s e. e ∙ text) c.calls_text.ensures
