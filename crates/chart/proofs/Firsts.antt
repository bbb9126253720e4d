-- The first of a list that passes a test, by place, and among those of a list.
use Rattle.std.proofs.Common.{◌≡◌, ℕ, zero, suc, ◌+◌, ◌-◌, ◌<◌, Bool, true, false, cond, ◌&&◌, ◌||◌, ◌⊎◌, List, [], ◌∷◌, ◌++◌, map, length, get_or, take, sym, refl, ap, ◌∙◌, subst, ap₂, inl, inr, true≢false, arith}
use Rattle.std.proofs.lemmas.Bool.{both_ways}
use Rattle.std.proofs.lemmas.List.{take_more}
use Rattle.grammar.specs.Lists.{First, some_of, those, count_up}
use Rattle.grammar.proofs.Taken.{first_right}

pub first_one : {A : Type 0} (p : A → Bool) (xs : List A) (a b : A) → First p xs a → First p xs b → a ≡ b
first_one p [] a b f g = absurd f
first_one p (x ∷ xs) a b (inl f) (inl g) = f.1 ∙ sym g.1
first_one p (x ∷ xs) a b (inl f) (inr g) = absurd (both_ways (p x) g.0 f.0)
first_one p (x ∷ xs) a b (inr f) (inl g) = absurd (both_ways (p x) f.0 g.0)
first_one p (x ∷ xs) a b (inr f) (inr g) = first_one p xs a b f.1 g.1

pub some_append : {A : Type 0} (p : A → Bool) (xs ys : List A) → some_of p xs ≡ false → some_of p ys ≡ false → some_of p (xs ++ ys) ≡ false
some_append p [] ys e f = f
some_append p (x ∷ xs) ys e f =
    let r = Rattle.std.proofs.lemmas.Bool.or_parts (p x) (some_of p xs) e in
    rw r.0 (some_append p xs ys r.1 f)

-- none of the first i passes, and what stands there does
pub first_at : {A : Type 0} (p : A → Bool) (xs : List A) (i : ℕ) (d : A) → i < length xs → some_of p (take i xs) ≡ false → p (get_or xs i d) ≡ true → First p xs (get_or xs i d)
first_at p [] i d h n t = absurd (omega arith)
first_at p (x ∷ xs) zero d h n t = inl (t, refl)
first_at p (x ∷ xs) (suc i) d h n t =
    let r = Rattle.std.proofs.lemmas.Bool.or_parts (p x) (some_of p (take i xs)) n in
    inr (r.0, first_at p xs i d (omega arith) r.1 t)

-- nor does that
pub none_more : {A : Type 0} (p : A → Bool) (xs : List A) (i : ℕ) (d : A) → i < length xs → some_of p (take i xs) ≡ false → p (get_or xs i d) ≡ false → some_of p (take (i + 1) xs) ≡ false
none_more p xs i d h n t = ap (some_of p) (take_more xs i d h) ∙ some_append p (take i xs) (get_or xs i d ∷ []) n (rw t refl)

module _ {A : Type 0} (q p : A → Bool) where
  pub some_those : (xs : List A) → some_of p (those q xs) ≡ some_of (λ a. q a && p a) xs
  some_those [] = refl
  some_those (x ∷ xs) = (elim (q x) as (λ b. some_of p (cond b (x ∷ those q xs) (those q xs)) ≡ ((b && p x) || some_of (λ a. q a && p a) xs))
      [ true ↦ ap (λ b. p x || b) (some_those xs) | false ↦ some_those xs ])

  pub first_those : (xs : List A) (a : A) → First (λ a. q a && p a) xs a → First p (those q xs) a
  first_those [] a f = f
  first_those (x ∷ xs) a f = (elim (q x) as (λ b. (((b && p x) ≡ true) × (a ≡ x)) ⊎ (((b && p x) ≡ false) × First (λ a. q a && p a) xs a) → First p (cond b (x ∷ those q xs) (those q xs)) a) [
    | true ↦ λ f. elim f [ inl g ↦ inl g | inr g ↦ inr (g.0, first_those xs a g.1) ]
    | false ↦ λ f. elim f [ inl g ↦ absurd (true≢false (sym g.0)) | inr g ↦ first_those xs a g.1 ]
  ]) f

module _ {A B : Type 0} (f : A → B) (p : B → Bool) where
  pub some_map : (xs : List A) → some_of p (map f xs) ≡ some_of (λ a. p (f a)) xs
  some_map [] = refl
  some_map (x ∷ xs) = ap (λ b. p (f x) || b) (some_map xs)

  pub first_map : (xs : List A) (a : A) → First (λ a. p (f a)) xs a → First p (map f xs) (f a)
  first_map [] a g = g
  first_map (x ∷ xs) a (inl g) = inl (g.0, ap f g.1)
  first_map (x ∷ xs) a (inr g) = inr (g.0, first_map xs a g.1)

pub count_up_append : (a n k : ℕ) → count_up a (n + k) ≡ count_up a n ++ count_up (a + n) k
count_up_append a zero k = ap₂ count_up (let e : a ≡ a + 0 = omega arith in e) (let e : 0 + k ≡ k = omega arith in e)
count_up_append a (suc n) k =
    let e : suc n + k ≡ suc (n + k) = omega arith in
    let m : suc a + n ≡ a + suc n = omega arith in
    ap (count_up a) e ∙ ap (λ l. a ∷ l) (count_up_append (suc a) n k ∙ ap (λ j. count_up (suc a) n ++ count_up j k) m)

-- of the numbers from 1 on
module _ (p : ℕ → Bool) where
  pub count_more : (m : ℕ) → 0 < m → some_of p (count_up 1 (m - 1)) ≡ false → p m ≡ false → some_of p (count_up 1 (m + 1 - 1)) ≡ false
  count_more m h n t =
      let e : m + 1 - 1 ≡ m - 1 + 1 = omega arith in
      let k : 1 + (m - 1) ≡ m = omega arith in
      ap (λ j. some_of p (count_up 1 j)) e ∙ ap (some_of p) (count_up_append 1 (m - 1) 1)
      ∙ some_append p (count_up 1 (m - 1)) (count_up (1 + (m - 1)) 1) n (ap (λ j. p j || false) k ∙ ap (λ b. b || false) t)

  pub count_first : (m n : ℕ) → 0 < m → m < n → some_of p (count_up 1 (m - 1)) ≡ false → p m ≡ true → First p (count_up 1 (n - 1)) m
  count_first m n h l none t =
      let e : n - 1 ≡ m - 1 + suc (n - m - 1) = omega arith in
      let k : 1 + (m - 1) ≡ m = omega arith in
      subst (λ (xs : List ℕ). First p xs m) (sym (ap (count_up 1) e ∙ count_up_append 1 (m - 1) (suc (n - m - 1))))
      (first_right p (count_up 1 (m - 1)) (count_up (1 + (m - 1)) (suc (n - m - 1))) m none (inl (ap p k ∙ t, sym k)))

-- a test that asks a second one only where the first says yes

pub both_asked : (p q a b : Bool) → p ≡ a → p ≡ true → q ≡ b → q ≡ (a && b)
both_asked p q a b e t f = f ∙ sym (ap (λ c. c && b) (sym e ∙ t))

pub first_asked : (p a b : Bool) → p ≡ a → p ≡ false → p ≡ (a && b)
first_asked p a b e t = t ∙ sym (ap (λ c. c && b) (sym e ∙ t))
