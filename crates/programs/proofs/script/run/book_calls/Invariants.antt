use Rattle.std.proofs.Common.{◌≡◌, map, take}
use Rattle.replay.specs.Calls.{call_of}
use Rattle.programs.specs.Said.{book_line}
use Rattle.programs.specs.Printed.{AllCheap}
use Rattle.programs.proofs.script.run.book_calls.Given as goal

-- the calls so far
abbrev pub invariant-loop-line : goal.invariant-loop-line
invariant-loop-line l = record {
  says : map call_of l.calls.items ≡ map book_line (take l.line-index l.lines);
  cheap : AllCheap (map call_of l.calls.items);
}
