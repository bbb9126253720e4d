use Rattle.std.proofs.Common.{◌≡◌, true, false, not, ◌&&◌, is_some, sym, ap, ◌∙◌, ap₂, true≢false}
use Rattle.conversion.specs.Linked.{link}
use Rattle.conversion.specs.Rounds.{shorter}
use Rattle.conversion.proofs.Linking.{extend_turn}
use Rattle.conversion.proofs.chain.Chains.extend.Goals as goal
use Rattle.conversion.proofs.chain.Chains.extend.Goals.{then-reaches-within, else-reaches-within}

pub loop-y-preserved : goal.loop-y-preserved
loop-y-preserved c =
    let k = c.args.steps in
    let s = c.args.step in
    let m = c.loop-y.self in
    let y = c.loop-y.y in
    let n = c.if-reaches-within.self in
    let is : (not c.reaches.result && c.within.result) ≡ (not (is_some (link m s.from y)) && shorter k (link m s.to y))
    = ap₂ (λ a b. not a && b) c.reaches.ensures c.within.ensures in
    elim c.if-reaches-within.branch [
      | then-reaches-within w ↦ (
        extend_turn k s c.args.self.now m n y c.loop-y-test.true true (sym w.if-reaches-within.true ∙ is) c.loop-y.invariant.0
            (λ x z a b. ap (λ t. link t x z) w.self-is ∙ w.put.ensures x z a b),
        λ e. absurd (true≢false (sym w.grew-is ∙ e)),
      )
      | else-reaches-within w ↦ (
        extend_turn k s c.args.self.now m n y c.loop-y-test.true false (sym w.if-reaches-within.false ∙ is) c.loop-y.invariant.0
            (λ x z a b. ap (λ t. link t x z) w.self-is),
        λ e. ap (λ t. t.links) w.self-is ∙ c.loop-y.invariant.1 (sym w.grew-is ∙ e),
      )
    ]
