use Rattle.chart.specs.Table.{cell_place, cell_at}
use Rattle.chart.specs.Inner.{SameColumn, AddedStarts, pairs_sum}
use Rattle.chart.proofs.column.Column.add_starts.Given as goal

abbrev pub invariant-loop-start : goal.invariant-loop-start
invariant-loop-start g l =
    let M = g.W.Weighing.ops in
    let was = l.initial.self in
    record {
      starts : AddedStarts M was.symbols was.end l.start (λ i x. pairs_sum M (cell_at M was.weights.now (cell_place was.symbols l.middle i)) x l.pairs) was.weights.now l.self.weights.now;
      same : SameColumn was l.self;
    }
