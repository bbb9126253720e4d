use Rattle.std.proofs.Common.{◌+◌}
use Rattle.book.specs.Books.{closed_book, closed_fits}
use Rattle.chart.specs.Table.{column_place, SameOutside}
use Rattle.chart.specs.Inner.{SameColumn}
use Rattle.chart.proofs.OfBook.{book_sound}
use Rattle.chart.proofs.Filling.{Middles}
use Rattle.chart.proofs.column.Column.fill.Given as goal

abbrev pub invariant-loop-middle : goal.invariant-loop-middle
invariant-loop-middle g l =
    let k = l.fn.self in
    record {
      outside : SameOutside g.W.Weighing.ops.zero (column_place k.symbols k.end) (column_place k.symbols (k.end + 1)) l.initial.self.weights.now l.self.weights.now;
      middles : Middles (closed_book k.book.now) (book_sound k.book.now) g.W.Weighing.ops g.met.W.Weighing.semiring (closed_fits g.A.Alphabet.test k.book.now)
          k.symbols k.end l.middle l.initial.self.weights.now l.self.weights.now;
      same : SameColumn k l.self;
    }
