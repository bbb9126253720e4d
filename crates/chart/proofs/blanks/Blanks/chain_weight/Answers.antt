use Rattle.std.proofs.Common.{Some}
use Rattle.conversion.specs.declared.chain.Chain.TheVariants.{Steps}
use Rattle.chart.specs.Weights.{rules_book}
use Rattle.chart.proofs.OfBook.{rules_sound, nullable_of}
use Rattle.chart.proofs.StrictWeights.{chosen_there, way_end, way_more, way_less}
use Rattle.chart.proofs.blanks.Blanks.chain_weight.Goals as goal

pub loop-step-preserved : goal.loop-step-preserved
loop-step-preserved g c =
    let M = g.W.Weighing.ops in
    let L = g.met.W.Weighing.semiring in
    let blanks = c.args.self.now in
    let W = rules_book blanks.converted.now.rules in
    let S = rules_sound blanks.converted.now.rules in
    let f = g.W.Values.Bank.item blanks.bank.now in
    let z = c.loop-step.at in
    let y = c.args.to in
    let told = rw c.in-Some-Steps.field-0-is at c.in-Some-Steps.ensures.means in
    let there = chosen_there W S z y c.loop-step.invariant.0 (Some (Steps c.in-Some-Steps.field-0-0 c.in-Some-Steps.step)) told in
    way_more M L W S f (nullable_of g.row.W-Value.coded M W f blanks.weights) y z c.in-Some-Steps.field-0-0 c.in-Some-Steps.step there c.step_weight.result c.step_weight.ensures
    c.args.from c.loop-step.product c.times-product.result c.times-product.ensures c.loop-step.invariant

pub loop-step-smaller : goal.loop-step-smaller
loop-step-smaller g c =
    let W = rules_book c.args.self.now.converted.now.rules in
    let S = rules_sound c.args.self.now.converted.now.rules in
    let z = c.loop-step.at in
    let y = c.args.to in
    let told = rw c.in-Some-Steps.field-0-is at c.in-Some-Steps.ensures.means in
    let there = chosen_there W S z y c.loop-step.invariant.0 (Some (Steps c.in-Some-Steps.field-0-0 c.in-Some-Steps.step)) told in
    way_less W S y z c.in-Some-Steps.field-0-0 c.in-Some-Steps.step there c.loop-step.invariant.0

pub returns-in_default : goal.returns-in_default
returns-in_default g c =
    let W = rules_book c.args.self.now.converted.now.rules in
    let S = rules_sound c.args.self.now.converted.now.rules in
    let there = chosen_there W S c.loop-step.at c.args.to c.loop-step.invariant.0 c.chain.result c.chain.ensures.means in
    way_end g.W.Weighing.ops g.met.W.Weighing.semiring W S c.args.from c.args.to c.loop-step.at c.loop-step.product c.chain.result (λ k s e. cc) there c.loop-step.invariant

pub returns-in_default-2 : goal.returns-in_default-2
returns-in_default-2 g c =
    let W = rules_book c.args.self.now.converted.now.rules in
    let S = rules_sound c.args.self.now.converted.now.rules in
    let there = chosen_there W S c.loop-step.at c.args.to c.loop-step.invariant.0 c.chain.result c.chain.ensures.means in
    way_end g.W.Weighing.ops g.met.W.Weighing.semiring W S c.args.from c.args.to c.loop-step.at c.loop-step.product c.chain.result (λ k s e. cc) there c.loop-step.invariant
