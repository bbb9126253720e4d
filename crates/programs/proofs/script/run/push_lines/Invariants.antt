use Rattle.std.proofs.Common.{map, string_bytes}
use Rattle.replay.specs.Calls.{chart_call_of}
use Rattle.replay.specs.Answers.{said}
use Rattle.programs.specs.Calls.{calls_book, calls_fits}
use Rattle.programs.specs.Said.{chart_line}
use Rattle.programs.proofs.ScriptLines.{Sofar}
use Rattle.programs.proofs.script.run.push_lines.Given as goal

-- the lines so far were printed, with the answers of the first calls among them
abbrev pub invariant-loop-line : goal.invariant-loop-line
invariant-loop-line g l =
    Sofar (calls_book l.calls) (calls_fits g.A.Alphabet.test l.calls) l.sizes.weights l.sizes.nodes (map chart_call_of l.calls.chart.now) (map chart_line l.lines) (map said l.answers)
    l.line-index l.made (string_bytes l.fn.out) (string_bytes l.out)
