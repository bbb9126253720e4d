use Rattle.chart.specs.Weights.{rules_book}
use Rattle.chart.proofs.NullableWeights.{AmidRound}
use Rattle.chart.proofs.nullable.round.Given as goal

abbrev pub invariant-loop-symbol : goal.invariant-loop-symbol
invariant-loop-symbol g l = AmidRound g.W.Weighing.ops (rules_book l.converted.rules) l.round l.symbol (g.W.Values.Bank.item l.bank)
