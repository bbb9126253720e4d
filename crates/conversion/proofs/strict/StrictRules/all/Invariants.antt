use Rattle.grammar.specs.Lists.{each, below}
use Rattle.grammar.specs.Strict.{strict_rules_of}
use Rattle.conversion.specs.Binarised.{grammar_of}
use Rattle.conversion.specs.Forms.{Holds}
use Rattle.conversion.proofs.strict.StrictRules.all.Given as goal

abbrev pub invariant-loop-symbol : goal.invariant-loop-symbol
invariant-loop-symbol l = Holds (each (strict_rules_of (grammar_of l.binarised)) (below l.symbol)) l.out
