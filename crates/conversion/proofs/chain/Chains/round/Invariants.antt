use Rattle.std.proofs.Common.{◌≡◌, ℕ, suc, ◌≤◌, false, map, take}
use Rattle.grammar.specs.Binarised.{Binarised}
use Rattle.conversion.specs.Views.{step_of}
use Rattle.conversion.specs.Linked.{ChainsWithin}
use Rattle.conversion.specs.Rounds.{all_steps, EndsBelow}
use Rattle.conversion.proofs.Reaching.{TableBetween}
use Rattle.conversion.proofs.chain.Chains.round.Given as goal

abbrev pub invariant-loop-step : goal.invariant-loop-step
invariant-loop-step l =
    ((B : Binarised) (j : ℕ) → l.steps ≡ suc j → B.symbols ≤ 128 → EndsBelow B → map step_of l.list ≡ all_steps B → ChainsWithin B j l.initial.self
    → TableBetween B j (map step_of (take l.step-index l.list)) l.self)
    × (l.grew ≡ false → l.self.links ≡ l.initial.self.links)
