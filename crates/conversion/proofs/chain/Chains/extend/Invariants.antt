use Rattle.std.proofs.Common.{◌≡◌, ℕ, ◌<◌, false, cond, ltb}
use Rattle.conversion.specs.Linked.{link}
use Rattle.conversion.proofs.Linking.{extended}
use Rattle.conversion.proofs.chain.Chains.extend.Given as goal

abbrev pub invariant-loop-y : goal.invariant-loop-y
invariant-loop-y l =
    ((x z : ℕ) → x < 128 → z < 128 → link l.self x z ≡ cond (ltb z l.y) (extended l.steps l.step l.initial.self x z) (link l.initial.self x z))
    × (l.grew ≡ false → l.self.links ≡ l.initial.self.links)
