use Rattle.std.proofs.Common.{◌≡◌, map, take}
use Rattle.replay.specs.Calls.{chart_call_of}
use Rattle.programs.specs.Said.{chart_line}
use Rattle.programs.specs.Printed.{calls_in}
use Rattle.programs.proofs.script.run.chart_calls.Given as goal

-- the calls so far
abbrev pub invariant-loop-line : goal.invariant-loop-line
invariant-loop-line g l = map chart_call_of l.calls.items ≡ calls_in (map chart_line (take l.line-index l.lines))
