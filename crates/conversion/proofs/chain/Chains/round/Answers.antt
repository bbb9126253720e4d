use Rattle.std.proofs.Common.{map, get_or, None, refl, sym, ap, ◌∙◌, subst}
use Rattle.std.proofs.lemmas.Bool.{or_parts}
use Rattle.std.proofs.lemmas.List.{take_all}
use Rattle.conversion.specs.Views.{step_of}
use Rattle.conversion.specs.Linked.{ChainsWithin}
use Rattle.conversion.proofs.Linking.{extended}
use Rattle.conversion.specs.declared.chain.UnitStep.{UnitStep}
use Rattle.conversion.proofs.Reaching.{TableBetween, chains_start, chains_end, round_turn}
use Rattle.conversion.proofs.chain.Chains.round.Goals as goal

pub loop-step-init : goal.loop-step-init
loop-step-init c = (λ B j e l ends is h. chains_start B j c.args.self.now h, λ e. refl)

pub loop-step-preserved : goal.loop-step-preserved
loop-step-preserved c =
    let d : UnitStep = record { from = 0; number = 0; dropped = None; to = 0 } in (
      (λ B j e l ends is h. round_turn B j c.args.list.now c.loop-step.step-index d c.loop-step.self c.extend-grew.new.self l ends is c.loop-step-test.true
          (c.loop-step.invariant.0 B j e l ends is h)
          (λ x y a b. c.extend-grew.ensures.more x y a b ∙ ap (λ k. extended k (get_or c.args.list.now c.loop-step.step-index d) c.loop-step.self x y) e)),
      λ e. let neither = or_parts c.loop-step.grew c.extend-grew.result e in c.extend-grew.ensures.rest neither.1 ∙ c.loop-step.invariant.1 neither.0,
    )

pub returns : goal.returns
returns c =
    let list = c.args.list.now in
    record {
      more = λ B j e l ends is h. subst (λ k. ChainsWithin B k c.loop-step.self) (sym e) (chains_end B j c.loop-step.self
          (subst (λ ss. TableBetween B j ss c.loop-step.self) (ap (map step_of) (take_all c.loop-step.step-index list c.loop-step-test.false) ∙ is)
          (c.loop-step.invariant.0 B j e l ends is h)));
      rest = c.loop-step.invariant.1;
    }
