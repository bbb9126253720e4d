use Rattle.std.proofs.Common.{length}
use Rattle.grammar.specs.Chains.{chosen_chain}
use Rattle.grammar.specs.Binarise.{binarised}
use Rattle.chart.specs.Weights.{rules_book}
use Rattle.chart.proofs.StrictWeights.{OnTheWay}
use Rattle.chart.proofs.blanks.Blanks.chain_weight.Given as goal

abbrev pub invariant-loop-step : goal.invariant-loop-step
invariant-loop-step g l = OnTheWay g.W.Weighing.ops (rules_book l.self.converted.now.rules) l.from l.to l.at l.product

abbrev pub decreases-loop-step : goal.decreases-loop-step
decreases-loop-step g l = length (chosen_chain (binarised (rules_book l.self.converted.now.rules)) l.at l.to)
