-- The values and operations of the two weighings by numbers; yes and no are those of the grammar's weighings.
use Rattle.std.specs.Prelude.{ℕ, ◌+◌, ◌*◌, min}
use Rattle.std.proofs.Math.Nat.{le_trans, min-le_left, min-le_right}
use Rattle.grammar.specs.Semiring.{Ops}
use Rattle.weighing.specs.declared.capped.Capped.{Capped}

-- a number, held at the largest of 32 bits
abbrev pub held : ℕ → Capped
held m = record { n = min m 4294967295; top = min-le_right m 4294967295 }

-- how many derivations there are: sums and products, each held; each cost weighs 1
abbrev pub counts : Ops Capped
counts = record {
  zero = held 0;
  one = held 1;
  plus = λ x y. held (x.n + y.n);
  times = λ x y. held (x.n * y.n);
  weight = λ cost. held 1;
}

-- the cost of the cheapest: alternatives by the smaller, parts by the sum, held; a cost weighs itself
abbrev pub least_costs : Ops Capped
least_costs = record {
  zero = held 4294967295;
  one = held 0;
  plus = λ x y. record { n = min x.n y.n; top = le_trans (min-le_left x.n y.n) x.top };
  times = λ x y. held (x.n + y.n);
  weight = λ cost. held cost;
}
