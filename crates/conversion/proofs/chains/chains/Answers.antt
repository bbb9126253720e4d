use Rattle.std.proofs.Common.{◌≡◌, suc, ◌-◌, map, ap, ◌∙◌, subst, arith}
use Rattle.conversion.specs.Binarised.{grammar_of}
use Rattle.conversion.specs.Views.{step_of}
use Rattle.conversion.specs.Linked.{ChainsWithin}
use Rattle.conversion.specs.Rounds.{all_steps}
use Rattle.conversion.proofs.Linking.{start_links}
use Rattle.conversion.proofs.Reaching.{chains_all, chains_rest}
use Rattle.conversion.proofs.chains.chains.Goals as goal

pub loop-steps-init : goal.loop-steps-init
loop-steps-init c j e =
    let z : 0 ≡ j = omega arith in
    subst (λ n. ChainsWithin (grammar_of c.args.binarised.now) n c.start-out.result) z (start_links (grammar_of c.args.binarised.now) c.start-out.result c.start-out.ensures)

pub loop-steps-preserved : goal.loop-steps-preserved
loop-steps-preserved c j e =
    let b = c.args.binarised.now in
    let k = c.loop-steps.steps in
    let h : k ≡ suc (k - 1) = omega (arith, c.loop-steps.auto.steps) in
    let i : k ≡ j = omega arith in
    let is : map step_of c.deref.result.now ≡ all_steps (grammar_of b) = ap (map step_of) c.deref.ensures.0 ∙ c.unit_steps-list.ensures in
    subst (λ n. ChainsWithin (grammar_of b) n c.round.new.self) i (c.round.ensures.more (grammar_of b) (k - 1) h b.most c.requires.ends is (c.loop-steps.invariant (k - 1) h))

pub returns-after-loop-steps : goal.returns-after-loop-steps
returns-after-loop-steps c =
    let b = c.args.binarised.now in
    let k = c.loop-steps.steps in
    let h : k ≡ suc (k - 1) = omega (arith, c.loop-steps.auto.steps) in
    chains_all (grammar_of b) b.bounded c.requires.ends (k - 1) c.loop-steps.out (omega (arith, c.loop-steps-test.false, b.most)) (c.loop-steps.invariant (k - 1) h)

pub returns-then-not-round : goal.returns-then-not-round
returns-then-not-round c =
    let b = c.args.binarised.now in
    let k = c.loop-steps.steps in
    let h : k ≡ suc (k - 1) = omega (arith, c.loop-steps.auto.steps) in
    let before = c.loop-steps.invariant (k - 1) h in
    let is : map step_of c.deref.result.now ≡ all_steps (grammar_of b) = ap (map step_of) c.deref.ensures.0 ∙ c.unit_steps-list.ensures in
    chains_rest (grammar_of b) b.bounded c.requires.ends (k - 1) c.loop-steps.out c.round.new.self b.most (c.round.ensures.rest c.if-not-round.true) before
    (subst (λ n. ChainsWithin (grammar_of b) n c.round.new.self) h (c.round.ensures.more (grammar_of b) (k - 1) h b.most c.requires.ends is before))
