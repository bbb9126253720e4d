use Rattle.std.proofs.Common.{◌≡◌, ℕ, ◌<◌, cond, ◌&&◌, eqb, ltb, Some, None}
use Rattle.conversion.specs.Linked.{link}
use Rattle.conversion.specs.declared.chain.Chain.TheVariants.{Empty}
use Rattle.conversion.proofs.chain.Chains.start.Given as goal

abbrev pub invariant-loop-x : goal.invariant-loop-x
invariant-loop-x l = (a b : ℕ) → a < 128 → b < 128 → link l.out a b ≡ cond (eqb a b && ltb a l.x) (Some Empty) None
