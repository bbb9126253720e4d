-- Proofs, not definitions: the laws of the three weighings, by those of the numbers that are held at a limit.
use Rattle.std.specs.Prelude.{◌≡◌, ℕ, ◌*◌, ◌≤◌, min, refl}
use Rattle.std.proofs.Common.{sym, ap, ◌∙◌, mul_assoc, mul_comm, lit≤}
use Rattle.std.proofs.Math.Bool.{or_assoc, or_comm, and_assoc, and_comm, and-or_distrib_left}
use Rattle.std.proofs.Math.Nat.{min_comm}
use Rattle.std.proofs.Math.Bridge.{le_prop}
use mathlib.Core.HLevel.{is_prop→PathP}
use Rattle.grammar.specs.{Semiring.Semiring, Weighings.yes_no}
use Rattle.grammar.proofs.HeldNumbers.{sum_assoc, sum_comm, sum_none, sum_all, held_factor, held_factor_right, product_one, product_zero, product_sum, smaller_assoc, smaller_none, sum_smaller}
use Rattle.weighing.specs.Values.{counts, least_costs}
use Rattle.weighing.specs.declared.capped.Capped.{Capped}

-- two capped numbers are equal if their numbers are
pub same : (x y : Capped) → x.n ≡ y.n → x ≡ y
same x y p = λ i. record { n = p i; top = is_prop→PathP (λ i. p i ≤ 4294967295) (λ i. le_prop) x.top y.top i }

abbrev cap : ℕ → ℕ
cap m = min m 4294967295

pub counts_laws : Semiring counts
counts_laws = record {
  plus_assoc = λ x y z. same _ _ (sum_assoc 4294967295 x.n y.n z.n);
  plus_comm = λ x y. same _ _ (sum_comm 4294967295 x.n y.n);
  plus_zero = λ x. same _ _ (sum_none 4294967295 x.n x.top);
  times_assoc = λ x y z. same _ _ (held_factor 4294967295 (x.n * y.n) z.n ∙ ap cap (mul_assoc x.n y.n z.n) ∙ sym (held_factor_right 4294967295 x.n (y.n * z.n)));
  times_comm = λ x y. same _ _ (ap cap (mul_comm x.n y.n));
  times_one = λ x. same _ _ (product_one 4294967295 x.n (lit≤ tt) x.top);
  times_zero = λ x. same _ _ (product_zero 4294967295 x.n);
  distrib = λ x y z. same _ _ (product_sum 4294967295 x.n y.n z.n);
}

pub least_costs_laws : Semiring least_costs
least_costs_laws = record {
  plus_assoc = λ x y z. same _ _ (smaller_assoc 4294967295 x.n y.n z.n);
  plus_comm = λ x y. same _ _ (min_comm x.n y.n);
  plus_zero = λ x. same _ _ (smaller_none 4294967295 x.n x.top);
  times_assoc = λ x y z. same _ _ (sum_assoc 4294967295 x.n y.n z.n);
  times_comm = λ x y. same _ _ (sum_comm 4294967295 x.n y.n);
  times_one = λ x. same _ _ (sum_none 4294967295 x.n x.top);
  times_zero = λ x. same _ _ (sum_all 4294967295 x.n);
  distrib = λ x y z. same _ _ (sum_smaller 4294967295 x.n y.n z.n);
}

pub yes_no_laws : Semiring yes_no
yes_no_laws = record {
  plus_assoc = or_assoc;
  plus_comm = or_comm;
  plus_zero = λ x. refl;
  times_assoc = and_assoc;
  times_comm = and_comm;
  times_one = λ x. refl;
  times_zero = λ x. refl;
  distrib = and-or_distrib_left;
}
