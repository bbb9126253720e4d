use Rattle.chart.proofs.PairAdding.{SomePairs}
use Rattle.chart.proofs.column.Column.add_pairs.Given as goal

abbrev pub invariant-loop-pair : goal.invariant-loop-pair
invariant-loop-pair g l =
    SomePairs g.W.Weighing.ops g.met.W.Weighing.semiring l.symbols l.cell l.left l.pairs l.pair-index l.symbol l.sum l.initial.weights l.weights
