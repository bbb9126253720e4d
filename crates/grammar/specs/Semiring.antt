-- What every weighing obeys, and sums and products over lists.
use Rattle.std.specs.Prelude.{◌≡◌, ℕ, List, [], ◌∷◌}

-- zero weighs no derivation, one a derivation without parts, plus alternatives, times parts together, weight a rule's cost
pub record Ops (V : Type 0) : Type 0 where
  pub zero : V
  pub one : V
  pub plus : V → V → V
  pub times : V → V → V
  pub weight : ℕ → V

-- the operations form a commutative semiring, whose zero absorbs
pub record Semiring {V : Type 0} (w : Ops V) : Type 0 where
  pub plus_assoc : (x y z : V) → w.plus (w.plus x y) z ≡ w.plus x (w.plus y z)
  pub plus_comm : (x y : V) → w.plus x y ≡ w.plus y x
  pub plus_zero : (x : V) → w.plus w.zero x ≡ x
  pub times_assoc : (x y z : V) → w.times (w.times x y) z ≡ w.times x (w.times y z)
  pub times_comm : (x y : V) → w.times x y ≡ w.times y x
  pub times_one : (x : V) → w.times w.one x ≡ x
  pub times_zero : (x : V) → w.times w.zero x ≡ w.zero
  pub distrib : (x y z : V) → w.times x (w.plus y z) ≡ w.plus (w.times x y) (w.times x z)

abbrev pub sum : {A V : Type 0} (M : Ops V) → (A → V) → List A → V
sum M f [] = M.zero
sum M f (x ∷ xs) = M.plus (f x) (sum M f xs)

abbrev pub product : {A V : Type 0} (M : Ops V) → (A → V) → List A → V
product M f [] = M.one
product M f (x ∷ xs) = M.times (f x) (product M f xs)
