use Rattle.std.proofs.Common.{◌≡◌, ◌*◌, ◌≤◌, map, get_or, take, is_some, None}
use Rattle.arrayvec.specs.ArrayVec.{array_vec_len}
use Rattle.grammar.specs.Lists.{each}
use Rattle.grammar.specs.Binarised.{Rule}
use Rattle.grammar.specs.Chains.{steps_by}
use Rattle.conversion.specs.Views.{rule_of, step_of}
use Rattle.conversion.proofs.steps.unit_steps.Given as goal

abbrev pub invariant-loop-rule : goal.invariant-loop-rule
invariant-loop-rule l =
    (map step_of l.out.items ≡ each (λ (r : Rule). steps_by (λ x. is_some (get_or l.nullable.brought x None)) r.left r.number r.right) (map rule_of (take l.rule-index l.binarised.rules.items)))
    × (array_vec_len l.out ≤ 2 * l.rule-index)
