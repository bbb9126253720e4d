use Rattle.book.specs.Books.{closed_book}
use Rattle.chart.specs.Table.{cell_at}
use Rattle.chart.proofs.Gathering.{Gathered}
use Rattle.chart.proofs.column.Column.gather.Given as goal

abbrev pub invariant-loop-weighed : goal.invariant-loop-weighed
invariant-loop-weighed g l = Gathered (closed_book l.self.book.now) g.W.Weighing.ops (cell_at g.W.Weighing.ops l.self.weights.now l.right) l.weighed-index l.pairs.items
