use Rattle.std.proofs.Common.{◌+◌}
use Rattle.book.specs.Books.{closed_book, closed_fits}
use Rattle.chart.specs.Table.{SameOutside}
use Rattle.chart.specs.Inner.{SameColumn}
use Rattle.chart.proofs.EventSums.{Events}
use Rattle.chart.proofs.column.Column.one_event.Given as goal

abbrev pub invariant-loop-weighed : goal.invariant-loop-weighed
invariant-loop-weighed g l =
    let was = l.initial.self in
    record {
      outside : SameOutside g.W.Weighing.ops.zero l.cell (l.cell + was.symbols) was.weights.now l.self.weights.now;
      events : Events (closed_book was.book.now) g.W.Weighing.ops g.met.W.Weighing.semiring (closed_fits g.A.Alphabet.test was.book.now) l.event was.symbols l.cell
          l.weighed-index was.weights.now l.self.weights.now;
      same : SameColumn was l.self;
    }
