use Rattle.std.proofs.Common.{◌≡◌, ◌++◌, drop, nat_eq, string_bytes}
use Rattle.grammar.specs.Lists.{each}
use Rattle.book.specs.Books.{closed_book, closed_fits}
use Rattle.programs.specs.Output.{HaveWeights, line_texts, trace_line}
use Rattle.programs.proofs.line.trace_lines.Given as goal

-- what is printed so far, and the lines of the traces still to come, are all the lines
abbrev pub invariant-loop-line : goal.invariant-loop-line
invariant-loop-line l = record {
  text : l.line-iterator.text.now ≡ l.traces;
  weights : HaveWeights l.tables;
  whole : each (trace_line (closed_book l.book) (closed_fits nat_eq l.book)) (line_texts l.traces)
      ≡ string_bytes l.out ++ each (trace_line (closed_book l.book) (closed_fits nat_eq l.book)) (line_texts (drop l.line-iterator.from l.traces));
}
