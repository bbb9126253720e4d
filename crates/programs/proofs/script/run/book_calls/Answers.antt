use Rattle.std.proofs.Common.{◌∷◌, [], map, sym, ap, ◌∙◌, subst}
use Rattle.std.proofs.lemmas.List.{map-append}
use Rattle.replay.specs.Calls.{call_of}
use Rattle.programs.specs.Said.{book_line}
use Rattle.programs.specs.Printed.{AllCheap}
use Rattle.programs.proofs.ScriptLines.{seen_more, cheap_more}
use Rattle.programs.proofs.script.run.book_calls.Goals as goal

pub loop-line-preserved : goal.loop-line-preserved
loop-line-preserved c =
    let i = c.loop-line.invariant in
    let calls = c.loop-line.calls.items in
    let call = c.call.result in
    let more = c.in_ok-push.ensures.items in
    record {
      says = ap (map call_of) more ∙ seen_more call_of book_line calls call c.args.lines.now c.loop-line.line-index c.line-item.result c.loop-line-test.true i.says (c.call.ensures.says ∙ ap book_line c.line-item.is);
      cheap = subst AllCheap (sym (ap (map call_of) more ∙ map-append call_of calls (call ∷ []))) (cheap_more (map call_of calls) _ i.cheap c.call.ensures.cheap);
    }
