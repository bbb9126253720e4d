use Rattle.std.proofs.Common.{take}
use Rattle.conversion.proofs.Found.{Appends, by_end}
use Rattle.conversion.proofs.strict.StrictRules.through.Given as goal

abbrev pub invariant-loop-rule : goal.invariant-loop-rule
invariant-loop-rule l = Appends l.initial.self l.self (by_end (take l.rule-index l.rules) l.symbol l.end)
