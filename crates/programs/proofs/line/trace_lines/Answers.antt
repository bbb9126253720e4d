use Rattle.std.proofs.Common.{◌++◌, length, nat_eq, string_bytes, sym, ap, ◌∙◌, append-nil, arith}
use Rattle.book.specs.Books.{closed_book, closed_fits}
use Rattle.programs.specs.Output.{trace_line}
use Rattle.programs.proofs.Texts.{each_next, no_more}
use Rattle.programs.proofs.line.trace_lines.Goals as goal

pub loop-line-preserved : goal.loop-line-preserved
loop-line-preserved c =
    let i = c.loop-line.invariant in
    let g = c.in-Some.ensures.steps in
    let f = trace_line (closed_book c.args.book.now) (closed_fits nat_eq c.args.book.now) in
    record {
      text = g.same ∙ i.text;
      weights = c.push_line.ensures.tables;
      whole = i.whole ∙ each_next f c.args.traces.now c.loop-line.line-iterator c.next.new.self c.in-Some.line c.bytes.result.now (string_bytes c.loop-line.out) (string_bytes c.push_line.new.out) i.text g c.bytes.ensures
          c.in_ok-push_line.ensures.line;
    }

pub returns : goal.returns
returns c =
    let i = c.loop-line.invariant in
    let f = trace_line (closed_book c.args.book.now) (closed_fits nat_eq c.args.book.now) in
    sym (i.whole ∙ ap (λ l. string_bytes c.loop-line.out ++ l) (no_more f c.args.traces.now c.loop-line.line-iterator.from (omega (arith, c.in-None.ensures.steps.0, ap length i.text))) ∙ append-nil (string_bytes c.loop-line.out))
