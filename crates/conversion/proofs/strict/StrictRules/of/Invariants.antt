use Rattle.conversion.proofs.Found.{Appends, by_ends}
use Rattle.conversion.proofs.strict.StrictRules.of.Given as goal

abbrev pub invariant-loop-end : goal.invariant-loop-end
invariant-loop-end l = Appends l.initial.self l.self (by_ends l.binarised.rules.items l.chains l.symbol l.end)
