use Rattle.std.proofs.Common.{◌≡◌, ◌≤◌, true, drop}
use Rattle.text.proofs.Short.{decimal_after, all_digits}
use Rattle.text.proofs.digits.number.Given as goal

abbrev pub invariant-loop-d : goal.invariant-loop-d
invariant-loop-d l = (l.n ≤ l.limit) × (decimal_after l.n (drop l.d-index l.digits) ≡ decimal_after 0 l.digits) × (all_digits (drop l.d-index l.digits) ≡ true)
