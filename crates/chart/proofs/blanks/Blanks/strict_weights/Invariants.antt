use Rattle.chart.specs.Weights.{rules_book}
use Rattle.chart.proofs.StrictWeights.{WeighsFirst}
use Rattle.chart.proofs.blanks.Blanks.strict_weights.Given as goal

abbrev pub invariant-loop-rule : goal.invariant-loop-rule
invariant-loop-rule g l = WeighsFirst g.W.Weighing.ops (rules_book l.self.converted.now.rules) l.rule-index l.rules.items
