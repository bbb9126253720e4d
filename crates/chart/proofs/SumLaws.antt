-- Sums over lists, with more at the end, of those that pass a test, and in the other order.
use Rattle.std.proofs.Common.{◌≡◌, ℕ, ◌+◌, ◌<◌, Bool, true, false, cond, List, [], ◌∷◌, ◌++◌, length, get_or, take, sym, refl, ap, ◌∙◌}
use Rattle.std.proofs.lemmas.List.{take_more}
use Rattle.grammar.specs.Lists.{those}
use Rattle.grammar.specs.Semiring.{Ops, Semiring, sum}
use Rattle.grammar.proofs.Sums.{sum_append}

module _ {V : Type 0} (M : Ops V) (L : Semiring M) where
  pub plus_none : (a : V) → M.plus a M.zero ≡ a
  plus_none a = L.plus_comm a M.zero ∙ L.plus_zero a

  pub sum_push : {A : Type 0} (f : A → V) (xs : List A) (a : A) → sum M f (xs ++ (a ∷ [])) ≡ M.plus (sum M f xs) (f a)
  sum_push f xs a = sum_append M L f xs (a ∷ []) ∙ ap (M.plus (sum M f xs)) (plus_none (f a))

  -- one more of a list
  pub sum_more : {A : Type 0} (f : A → V) (xs : List A) (i : ℕ) (a : A) → i < length xs → get_or xs i a ≡ a
      → sum M f (take (i + 1) xs) ≡ M.plus (sum M f (take i xs)) (f a)
  sum_more f xs i a h e = ap (sum M f) (take_more xs i a h) ∙ sum_push f (take i xs) (get_or xs i a) ∙ ap (λ b. M.plus (sum M f (take i xs)) (f b)) e

  -- those that pass a test: zero for the others
  pub sum_cond : {A : Type 0} (p : A → Bool) (f : A → V) (xs : List A) → sum M f (those p xs) ≡ sum M (λ a. cond (p a) (f a) M.zero) xs
  sum_cond p f [] = refl
  sum_cond p f (x ∷ xs) =
      elim (p x) as (λ b. sum M f (cond b (x ∷ those p xs) (those p xs)) ≡ M.plus (cond b (f x) M.zero) (sum M (λ a. cond (p a) (f a) M.zero) xs)) [
        | true ↦ ap (M.plus (f x)) (sum_cond p f xs)
        | false ↦ sum_cond p f xs ∙ sym (L.plus_zero _)
      ]

  sum_none : {A : Type 0} (xs : List A) → sum M (λ (a : A). M.zero) xs ≡ M.zero
  sum_none [] = refl
  sum_none (x ∷ xs) = L.plus_zero _ ∙ sum_none xs

  sum_plus : {A : Type 0} (f g : A → V) (xs : List A) → sum M (λ a. M.plus (f a) (g a)) xs ≡ M.plus (sum M f xs) (sum M g xs)
  sum_plus f g [] = sym (L.plus_zero M.zero)
  sum_plus f g (x ∷ xs) =
      ap (M.plus (M.plus (f x) (g x))) (sum_plus f g xs)
      ∙ L.plus_assoc (f x) (g x) (M.plus (sum M f xs) (sum M g xs))
      ∙ ap (M.plus (f x)) (sym (L.plus_assoc (g x) (sum M f xs) (sum M g xs)) ∙ ap (λ a. M.plus a (sum M g xs)) (L.plus_comm (g x) (sum M f xs)) ∙ L.plus_assoc (sum M f xs) (g x) (sum M g xs))
      ∙ sym (L.plus_assoc (f x) (sum M f xs) (M.plus (g x) (sum M g xs)))

  -- a sum of sums, in the other order
  pub sum_exchange : {A B : Type 0} (f : A → B → V) (xs : List A) (ys : List B)
      → sum M (λ a. sum M (λ b. f a b) ys) xs ≡ sum M (λ b. sum M (λ a. f a b) xs) ys
  sum_exchange f [] ys = sym (sum_none ys)
  sum_exchange f (x ∷ xs) ys = ap (M.plus (sum M (f x) ys)) (sum_exchange f xs ys) ∙ sym (sum_plus (f x) (λ b. sum M (λ a. f a b) xs) ys)
