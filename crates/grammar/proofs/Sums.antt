-- Sums over lists in a commutative semiring.
use Rattle.std.proofs.Common.{◌≡◌, Bool, true, false, cond, List, [], ◌∷◌, ◌++◌, map, sym, refl, ap, ◌∙◌, subst, ap₂, inl, inr}
use Rattle.grammar.specs.Lists.{Mem, Distinct, those, each}
use Rattle.grammar.specs.Semiring.{Ops, Semiring, sum}

module _ {V : Type 0} (M : Ops V) (L : Semiring M) where
  pub times_zero_right : (a : V) → M.times a M.zero ≡ M.zero
  times_zero_right a = L.times_comm a M.zero ∙ L.times_zero a

  pub times_one_right : (a : V) → M.times a M.one ≡ a
  times_one_right a = L.times_comm a M.one ∙ L.times_one a

  pub plus_swap : (a b c : V) → M.plus a (M.plus b c) ≡ M.plus b (M.plus a c)
  plus_swap a b c = sym (L.plus_assoc a b c) ∙ ap (λ d. M.plus d c) (L.plus_comm a b) ∙ L.plus_assoc b a c

  pub sum_cong : {A : Type 0} (f g : A → V) (xs : List A) → ((a : A) → Mem a xs → f a ≡ g a) → sum M f xs ≡ sum M g xs
  sum_cong f g [] h = refl
  sum_cong f g (x ∷ xs) h = ap₂ M.plus (h x (inl refl)) (sum_cong f g xs (λ a m. h a (inr m)))

  pub sum_append : {A : Type 0} (f : A → V) (xs ys : List A) → sum M f (xs ++ ys) ≡ M.plus (sum M f xs) (sum M f ys)
  sum_append f [] ys = sym (L.plus_zero (sum M f ys))
  sum_append f (x ∷ xs) ys = ap (M.plus (f x)) (sum_append f xs ys) ∙ sym (L.plus_assoc (f x) (sum M f xs) (sum M f ys))

  pub sum_map : {A B : Type 0} (g : B → V) (f : A → B) (xs : List A) → sum M g (map f xs) ≡ sum M (λ a. g (f a)) xs
  sum_map g f [] = refl
  sum_map g f (x ∷ xs) = ap (M.plus (g (f x))) (sum_map g f xs)

  pub sum_each : {A B : Type 0} (g : B → V) (f : A → List B) (xs : List A) → sum M g (each f xs) ≡ sum M (λ a. sum M g (f a)) xs
  sum_each g f [] = refl
  sum_each g f (x ∷ xs) = sum_append g (f x) (each f xs) ∙ ap (M.plus (sum M g (f x))) (sum_each g f xs)

  pub sum_times : {A : Type 0} (c : V) (f : A → V) (xs : List A) → sum M (λ a. M.times c (f a)) xs ≡ M.times c (sum M f xs)
  sum_times c f [] = sym (times_zero_right c)
  sum_times c f (x ∷ xs) = ap (M.plus (M.times c (f x))) (sum_times c f xs) ∙ sym (L.distrib c (f x) (sum M f xs))

  pub sum_times_right : {A : Type 0} (c : V) (f : A → V) (xs : List A) → sum M (λ a. M.times (f a) c) xs ≡ M.times (sum M f xs) c
  sum_times_right c f xs = sum_cong (λ a. M.times (f a) c) (λ a. M.times c (f a)) xs (λ a m. L.times_comm (f a) c)
      ∙ sum_times c f xs ∙ L.times_comm c (sum M f xs)

  -- what adds nothing may be left out
  pub sum_those : {A : Type 0} (p : A → Bool) (f : A → V) (xs : List A) → ((a : A) → p a ≡ false → f a ≡ M.zero)
      → sum M f (those p xs) ≡ sum M f xs
  sum_those p f [] h = refl
  sum_those p f (x ∷ xs) h = (elim (p x) as (λ b. p x ≡ b → sum M f (cond b (x ∷ those p xs) (those p xs)) ≡ M.plus (f x) (sum M f xs)) [
    | true ↦ λ e. ap (M.plus (f x)) (sum_those p f xs h)
    | false ↦ λ e. sum_those p f xs h ∙ sym (ap (λ v. M.plus v (sum M f xs)) (h x e) ∙ L.plus_zero (sum M f xs))
  ]) refl

-- a list without repeats is some of its elements and the rest
pub without : {A : Type 0} (a : A) (xs : List A) → Mem a xs → List A
without a [] m = []
without a (x ∷ xs) (inl e) = xs
without a (x ∷ xs) (inr m) = x ∷ without a xs m

pub without_mem : {A : Type 0} (a b : A) (xs : List A) (m : Mem a xs) → Mem b (without a xs m) → Mem b xs
unfolding without
without_mem a b [] m k = elim m [ ]
without_mem a b (x ∷ xs) (inl e) k = inr k
without_mem a b (x ∷ xs) (inr m) (inl e) = inl e
without_mem a b (x ∷ xs) (inr m) (inr k) = inr (without_mem a b xs m k)

pub mem_without : {A : Type 0} (a b : A) (xs : List A) (m : Mem a xs) → Mem b xs → (b ≡ a → ⊥) → Mem b (without a xs m)
unfolding without
mem_without a b [] m k n = elim m [ ]
mem_without a b (x ∷ xs) (inl e) (inl i) n = absurd (n (i ∙ sym e))
mem_without a b (x ∷ xs) (inl e) (inr k) n = k
mem_without a b (x ∷ xs) (inr m) (inl i) n = inl i
mem_without a b (x ∷ xs) (inr m) (inr k) n = inr (mem_without a b xs m k n)

pub not_without : {A : Type 0} (a : A) (xs : List A) (m : Mem a xs) → Distinct xs → Mem a (without a xs m) → ⊥
unfolding without
not_without a [] m d k = elim m [ ]
not_without a (x ∷ xs) (inl e) d k = d.0 (subst (λ z. Mem z xs) e k)
not_without a (x ∷ xs) (inr m) d (inl e) = d.0 (subst (λ z. Mem z xs) e m)
not_without a (x ∷ xs) (inr m) d (inr k) = not_without a xs m d.1 k

pub distinct_without : {A : Type 0} (a : A) (xs : List A) (m : Mem a xs) → Distinct xs → Distinct (without a xs m)
unfolding without
distinct_without a [] m d = elim m [ ]
distinct_without a (x ∷ xs) (inl e) d = d.1
distinct_without a (x ∷ xs) (inr m) d = (λ k. d.0 (without_mem a x xs m k), distinct_without a xs m d.1)

module _ {V : Type 0} (M : Ops V) (L : Semiring M) where
  pub sum_without : {A : Type 0} (f : A → V) (a : A) (xs : List A) (m : Mem a xs) → sum M f xs ≡ M.plus (f a) (sum M f (without a xs m))
  unfolding without
  sum_without f a [] m = elim m [ ]
  sum_without f a (x ∷ xs) (inl e) = ap (λ z. M.plus (f z) (sum M f xs)) (sym e)
  sum_without f a (x ∷ xs) (inr m) = ap (M.plus (f x)) (sum_without f a xs m) ∙ plus_swap M L (f x) (f a) (sum M f (without a xs m))

  -- two lists without repeats that hold the same have the same sum
  pub sum_same : {A : Type 0} (f : A → V) (xs ys : List A) → Distinct xs → Distinct ys
      → ((a : A) → Mem a xs → Mem a ys) → ((a : A) → Mem a ys → Mem a xs) → sum M f xs ≡ sum M f ys
  sum_same f [] [] d e g h = refl
  sum_same f [] (y ∷ ys) d e g h = absurd (h y (inl refl))
  sum_same f (x ∷ xs) ys d e g h =
      let m = g x (inl refl) in
      ap (M.plus (f x)) (sum_same f xs (without x ys m) d.1 (distinct_without x ys m e)
      (λ a k. mem_without x a ys m (g a (inr k)) (λ q. d.0 (subst (λ z. Mem z xs) q k)))
      (λ a k. other a k (h a (without_mem x a ys m k))))
      ∙ sym (sum_without f x ys m)
    where
      other : (a : _) → Mem a (without x ys (g x (inl refl))) → Mem a (x ∷ xs) → Mem a xs
      other a k (inl q) = absurd (not_without x ys (g x (inl refl)) e (subst (λ z. Mem z (without x ys (g x (inl refl)))) q k))
      other a k (inr m) = m
