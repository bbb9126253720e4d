use Rattle.std.proofs.Common.{◌≡◌, false, map, take}
use Rattle.conversion.specs.Views.{rule_of}
use Rattle.conversion.specs.Binarised.{grammar_of}
use Rattle.conversion.proofs.Bringing.{TableAmid}
use Rattle.conversion.proofs.nullable.Nullable.round.Given as goal

abbrev pub invariant-loop-rule : goal.invariant-loop-rule
invariant-loop-rule l =
    TableAmid (grammar_of l.binarised) l.round (map rule_of (take l.rule-index l.binarised.rules.items)) l.self.brought
    × (l.grew ≡ false → l.self.brought ≡ l.initial.self.brought)
