use Rattle.chart.specs.Weights.{rules_book}
use Rattle.chart.specs.Inner.{WeightsAfter}
use Rattle.chart.proofs.nullable.nullable_weights.Given as goal

abbrev pub invariant-loop-at : goal.invariant-loop-at
invariant-loop-at g l = WeightsAfter g.W.Weighing.ops (rules_book l.converted.rules) l.at (g.W.Values.Bank.item l.bank)
