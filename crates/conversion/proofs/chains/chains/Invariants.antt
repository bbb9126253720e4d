use Rattle.std.proofs.Common.{◌≡◌, ℕ, suc}
use Rattle.conversion.specs.Binarised.{grammar_of}
use Rattle.conversion.specs.Linked.{ChainsWithin}
use Rattle.conversion.proofs.chains.chains.Given as goal

abbrev pub invariant-loop-steps : goal.invariant-loop-steps
invariant-loop-steps l = (j : ℕ) → l.steps ≡ suc j → ChainsWithin (grammar_of l.binarised) j l.out
