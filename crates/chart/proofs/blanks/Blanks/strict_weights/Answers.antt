use Rattle.std.proofs.Common.{length, ap, arith}
use denote.Param.{layout}
use Rattle.std.proofs.lemmas.List.{length-map}
use Rattle.conversion.specs.Views.{strict_rule_of}
use Rattle.chart.specs.Weights.{rules_book}
use Rattle.chart.proofs.Sizes.{rules_small}
use Rattle.chart.proofs.OfBook.{rules_few}
use Rattle.chart.proofs.StrictWeights.{weighs_none, strict_in, weighs_more, weighs_all}
use Rattle.chart.proofs.blanks.Blanks.strict_weights.Goals as goal

pub loop-rule-init : goal.loop-rule-init
loop-rule-init g c = weighs_none g.W.Weighing.ops (rules_book c.args.self.now.converted.now.rules) c.new_in-rules.result.items c.new_in-rules.ensures

pub strict_weight-weight-requires : goal.strict_weight-weight-requires
strict_weight-weight-requires g c =
    let W = rules_book c.args.self.now.converted.now.rules in
    strict_in g.W.Weighing.ops W c.strict-rule-items.result.now c.strict-rule-items.ensures c.loop-rule.rule-index _ c.loop-rule-test.true

pub push-requires : goal.push-requires
push-requires g c =
    let l = c.strict-rule-items.result.now in
    (rules_small (layout g.row.W-Value) g.met.W.Weighing.small, omega (arith, c.loop-rule.invariant.few, c.loop-rule-test.true, ap length c.strict-rule-items.ensures, length-map l strict_rule_of, rules_few c.args.self.now.converted.now.rules))

pub loop-rule-preserved : goal.loop-rule-preserved
loop-rule-preserved g c =
    let W = rules_book c.args.self.now.converted.now.rules in
    weighs_more g.W.Weighing.ops W c.strict-rule-items.result.now c.strict-rule-items.ensures c.loop-rule.rule-index _ c.strict_weight-weight.result c.loop-rule.rules.items _
    c.loop-rule-test.true c.strict_weight-weight.ensures c.push.ensures.items c.loop-rule.invariant

pub returns : goal.returns
returns g c =
    let W = rules_book c.args.self.now.converted.now.rules in
    weighs_all g.W.Weighing.ops W c.strict-rule-items.result.now c.strict-rule-items.ensures c.loop-rule.rule-index _ (omega arith) c.loop-rule.invariant
