-- How many of some cases agree.
use Rattle.std.specs.Prelude.{ℕ, ◌+◌, Bool, true, false, List, [], ◌∷◌, ◌++◌}

-- n of these cases agree, where `told c b` says that of the case c it was told whether it agrees
pub data Agreeing {C : Type 0} (told : C → Bool → Type 0) : List C → ℕ → Type 0 where
  none : Agreeing told [] 0
  agrees : {cs : List C} {n : ℕ} (c : C) → told c true → Agreeing told cs n → Agreeing told (cs ++ (c ∷ [])) (n + 1)
  differs : {cs : List C} {n : ℕ} (c : C) → told c false → Agreeing told cs n → Agreeing told (cs ++ (c ∷ [])) n
