use Rattle.chart.specs.Inner.{SameColumn, Cleared}
use Rattle.chart.proofs.column.Column.clear.Given as goal

abbrev pub invariant-loop-place : goal.invariant-loop-place
invariant-loop-place g l = record {
  cleared : Cleared g.W.Weighing.ops l.from l.place l.initial.self.weights.now l.self.weights.now;
  same : SameColumn l.initial.self l.self;
}
