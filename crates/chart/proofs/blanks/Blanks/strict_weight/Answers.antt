use Rattle.grammar.specs.Binarise.{binarised}
use Rattle.grammar.proofs.StrictForm.{strict_mem, strict_rule_of as rule_there}
use Rattle.conversion.specs.Views.{strict_rule_of}
use Rattle.chart.specs.Weights.{rules_book}
use Rattle.chart.proofs.blanks.Blanks.strict_weight.Goals as goal

pub chain_weight-requires : goal.chain_weight-requires
chain_weight-requires g c =
    let B = binarised (rules_book c.args.self.now.converted.now.rules) in
    let r = strict_rule_of c.args.rule in
    (rule_there B r.symbol r (strict_mem B r c.requires).1).1
