use Rattle.std.proofs.Common.{map, sym, ap, ◌∙◌}
use Rattle.replay.specs.Calls.{chart_call_of}
use Rattle.programs.proofs.ScriptLines.{call_seen, ask_seen}
use Rattle.programs.proofs.script.run.chart_calls.Goals as goal
use Rattle.programs.proofs.script.run.chart_calls.Goals.{in-Call+in_ok-push-in-Call, in-Ask}

pub loop-line-preserved : goal.loop-line-preserved
loop-line-preserved g c =
    let seen = c.loop-line.invariant in
    elim c.match-line.branch [
      | in-Call+in_ok-push-in-Call w ↦
          ap (λ v. map chart_call_of v.items) w.calls-is ∙ ap (map chart_call_of) w.in_ok-push-in-Call.ensures.items
          ∙ call_seen c.args.lines.now c.loop-line.line-index c.line-item.result c.loop-line.calls.items w.in-Call.call c.loop-line-test.true seen (sym c.line-item.is ∙ w.in-Call.is)
      | in-Ask w ↦
          ap (λ v. map chart_call_of v.items) w.calls-is
          ∙ ask_seen c.args.lines.now c.loop-line.line-index c.line-item.result c.loop-line.calls.items _ c.loop-line-test.true seen (sym c.line-item.is ∙ w.in-Ask.is)
    ]
