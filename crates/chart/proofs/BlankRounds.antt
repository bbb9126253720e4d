-- How many rounds it takes to find nullable symbols: the items of a chosen rule take fewer than its head.
use Rattle.std.proofs.Common.{◌≡◌, ℕ, zero, suc, ◌<◌, ◌≤◌, max, true, false, cond, List, [], ◌∷◌, refl, inl, inr, arith}
use Rattle.std.proofs.lemmas.Bool.{both_ways, cases_lt}
use Rattle.grammar.specs.Lists.{Mem}
use Rattle.grammar.specs.Binarised.{Binarised, Bounded}
use Rattle.grammar.specs.Nullable.{nullable_after}
use Rattle.conversion.proofs.Bringing.{held_on}

-- of the first k rounds, those up to the one that finds x
unfoldable pub rounds_in : Binarised → ℕ → ℕ → ℕ
rounds_in B zero x = zero
rounds_in B (suc k) x = cond (nullable_after B k x) (rounds_in B k x) (suc k)

-- the most that one of the symbols takes
abbrev pub most_rounds : Binarised → List ℕ → ℕ
most_rounds B [] = 0
most_rounds B (y ∷ ys) = max (rounds_in B B.symbols y) (most_rounds B ys)

rounds_few : (B : Binarised) (k x : ℕ) → rounds_in B k x ≤ k
unfolding rounds_in
rounds_few B zero x = omega arith
rounds_few B (suc k) x = (elim (nullable_after B k x) as (λ c. cond c (rounds_in B k x) (suc k) ≤ suc k)
    [ true ↦ (let h = rounds_few B k x in omega arith) | false ↦ omega arith ])

module _ (B : Binarised) (bounded : Bounded B) where
  -- what k rounds find takes at most k
  pub rounds_low : (m k x : ℕ) → nullable_after B k x ≡ true → rounds_in B m x ≤ k
  unfolding rounds_in
  rounds_low zero k x t = omega arith
  rounds_low (suc m) k x t = (elim (nullable_after B m x) as (λ c. nullable_after B m x ≡ c → cond c (rounds_in B m x) (suc m) ≤ k) [
    | true ↦ λ e. rounds_low m k x t
    | false ↦ λ e. elim (cases_lt m k) [ inl l ↦ omega arith | inr g ↦ absurd (both_ways _ e (held_on B bounded k m x g t)) ]
  ]) refl

  -- what k rounds don't find takes more
  pub rounds_high : (m k x : ℕ) → k < m → nullable_after B k x ≡ false → k < rounds_in B m x
  unfolding rounds_in
  rounds_high zero k x l f = absurd (omega arith)
  rounds_high (suc m) k x l f = (elim (nullable_after B m x) as (λ c. nullable_after B m x ≡ c → k < cond c (rounds_in B m x) (suc m)) [
    | true ↦ λ e. elim (cases_lt k m) [
      | inl h ↦ rounds_high m k x h f
      | inr h ↦ absurd (let q : k ≡ m = omega arith in both_ways _ f (held_on B bounded m k x (omega arith) e))
    ]
    | false ↦ λ e. l
  ]) refl

-- one of the symbols takes no more than the most
pub rounds_most : (B : Binarised) (y : ℕ) (ys : List ℕ) → Mem y ys → rounds_in B B.symbols y ≤ most_rounds B ys
rounds_most B y [] m = absurd m
rounds_most B y (z ∷ ys) (inl e) = let h : rounds_in B B.symbols y ≡ rounds_in B B.symbols z = (λ i. rounds_in B B.symbols (e i)) in omega arith
rounds_most B y (z ∷ ys) (inr m) = let h = rounds_most B y ys m in omega arith

-- the most is below what is above each
pub rounds_under : (B : Binarised) (k : ℕ) (ys : List ℕ) → ((y : ℕ) → Mem y ys → rounds_in B B.symbols y ≤ k) → most_rounds B ys ≤ k
rounds_under B k [] h = omega arith
rounds_under B k (y ∷ ys) h = let a = h y (inl refl) in let b = rounds_under B k ys (λ z m. h z (inr m)) in omega arith
