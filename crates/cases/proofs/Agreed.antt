-- One case more, told of.
use Rattle.std.proofs.Common.{◌≡◌, ℕ, ◌+◌, ◌<◌, ◌≤◌, Bool, true, false, List, ◌∷◌, [], ◌++◌, length, take, sym, ap, ◌∙◌, subst}
use Rattle.std.proofs.lemmas.List.{take_more, take_all}
use Rattle.std.proofs.Math.ListN.{get_or}
use Rattle.cases.specs.Agreement.{Agreeing, agrees, differs}

module _ {C : Type 0} (told : C → Bool → Type 0) (cs : List C) (i n m : ℕ) (d y : C) (h : i < length cs) (e : y ≡ get_or cs i d) where
  longer : take i cs ++ (y ∷ []) ≡ take (i + 1) cs
  longer = ap (λ z. take i cs ++ (z ∷ [])) e ∙ sym (take_more cs i d h)

  pub agrees_more : m ≡ n + 1 → told y true → Agreeing told (take i cs) n → Agreeing told (take (i + 1) cs) m
  agrees_more k t a = subst (Agreeing told (take (i + 1) cs)) (sym k) (subst (λ l. Agreeing told l (n + 1)) longer (agrees y t a))

  pub differs_more : m ≡ n → told y false → Agreeing told (take i cs) n → Agreeing told (take (i + 1) cs) m
  differs_more k t a = subst (Agreeing told (take (i + 1) cs)) (sym k) (subst (λ l. Agreeing told l n) longer (differs y t a))

pub all_told : {C : Type 0} (told : C → Bool → Type 0) (cs : List C) (i n : ℕ) → length cs ≤ i → Agreeing told (take i cs) n → Agreeing told cs n
all_told told cs i n h a = subst (λ l. Agreeing told l n) (take_all i cs h) a
