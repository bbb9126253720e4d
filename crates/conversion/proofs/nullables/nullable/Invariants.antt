use Rattle.conversion.specs.Binarised.{grammar_of}
use Rattle.conversion.specs.Rounds.{NullablesAfter}
use Rattle.conversion.proofs.nullables.nullable.Given as goal

abbrev pub invariant-loop-round : goal.invariant-loop-round
invariant-loop-round l = NullablesAfter (grammar_of l.binarised) l.round l.out
