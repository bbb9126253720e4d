use Rattle.std.proofs.Common.{◌∙◌}
use Rattle.chart.specs.Weights.{rules_book}
use Rattle.chart.proofs.NullableWeights.{rounds_none}
use Rattle.chart.proofs.nullable.nullable_weights.Goals as goal

pub loop-at-init : goal.loop-at-init
loop-at-init g c = rounds_none g.W.Weighing.ops (rules_book c.args.converted.now.rules) (g.W.Values.Bank.item c.all-bank.result) (λ x. c.all-bank.ensures x ∙ c.zero.ensures)
