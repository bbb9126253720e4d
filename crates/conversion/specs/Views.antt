-- What the parts of a conversion stand for: right sides, binarised rules and lists of them, what a unit step drops, unit steps, strict rules.
use Rattle.std.specs.Prelude.{ℕ, List, map, Some, None, Option}
use Rattle.grammar.specs.Binarised.{Right as RightSide, empty, unit, binary, terminal, Rule, rule, Binarised}
use Rattle.grammar.specs.Chains.{ChainStep, Dropped as Drop, nothing, the_right, the_left}
use Rattle.grammar.specs.Strict.{StrictFormRule}
use Rattle.conversion.specs.declared.{right.Right.Right, right.BinarisedRule.BinarisedRule, chain.Dropped.Dropped}
use Rattle.conversion.specs.declared.right.Right.TheVariants.{Empty, Unit, Binary, Terminal}
use Rattle.conversion.specs.declared.chain.Dropped.TheVariants.{Right as OnTheRight, Left as OnTheLeft}
use Rattle.conversion.specs.declared.{chain.UnitStep.UnitStep, strict.StrictRule.StrictRule}

abbrev pub right_side_of : Right → RightSide
right_side_of Empty = empty
right_side_of (Unit y) = unit y
right_side_of (Binary y z) = binary y z
right_side_of (Terminal t) = terminal t

abbrev pub rule_of : BinarisedRule → Rule
rule_of r = rule r.left r.number (right_side_of r.right)

-- a list of binarised rules over S symbols
abbrev pub binarised_of : List BinarisedRule → ℕ → Binarised
binarised_of rules S = record { rules = map rule_of rules; symbols = S }

abbrev pub drop_of : Option Dropped → Drop
drop_of None = nothing
drop_of (Some (OnTheRight z)) = the_right z
drop_of (Some (OnTheLeft y)) = the_left y

abbrev pub step_of : UnitStep → ChainStep
step_of s = record { from = s.from; number = s.number; dropped = drop_of s.dropped; to = s.to }

abbrev pub strict_rule_of : StrictRule → StrictFormRule
strict_rule_of r = record { symbol = r.symbol; end = r.end; number = r.number; right = right_side_of r.right }
