-- Sums, products and the smaller of numbers that are held at a limit.
use Rattle.std.proofs.Common.{◌≡◌, ℕ, ◌+◌, ◌*◌, ◌<◌, ◌≤◌, min, sym, ap, ◌∙◌, inl, inr, mul_assoc, mul_comm, mul-zero, mul-add, one-mul, zero-mul, le-mul_of_pos_right, arith}
use Rattle.std.proofs.lemmas.Bool.{cases_lt, cases_eq}

module _ (C : ℕ) where
  -- holding a factor first changes no held product
  pub held_factor : (a b : ℕ) → min (min a C * b) C ≡ min (a * b) C
  held_factor a b = elim (cases_lt C a) [
    | inr l ↦ ap (λ n. min (n * b) C) (let e : min a C ≡ a = omega arith in e)
    | inl g ↦ elim (cases_eq b 0) [
      | inl z ↦ rw (z, mul-zero (min a C), mul-zero a)
      | inr n ↦ let m : min a C ≡ C = omega arith in
          rw m (omega (arith, le-mul_of_pos_right C (let h : 0 < b = omega arith in h), le-mul_of_pos_right a (let h : 0 < b = omega arith in h)))
    ]
  ]

  pub held_factor_right : (a b : ℕ) → min (a * min b C) C ≡ min (a * b) C
  held_factor_right a b = ap (λ n. min n C) (mul_comm a (min b C)) ∙ held_factor b a ∙ ap (λ n. min n C) (mul_comm b a)

  -- held sums
  pub sum_assoc : (a b c : ℕ) → min (min (a + b) C + c) C ≡ min (a + min (b + c) C) C
  sum_assoc a b c = omega arith

  pub sum_comm : (a b : ℕ) → min (a + b) C ≡ min (b + a) C
  sum_comm a b = omega arith

  pub sum_none : (a : ℕ) → a ≤ C → min (min 0 C + a) C ≡ a
  sum_none a h = omega arith

  pub sum_all : (a : ℕ) → min (min C C + a) C ≡ min C C
  sum_all a = omega arith

  -- held products
  pub product_assoc : (a b c : ℕ) → min (min (a * b) C * c) C ≡ min (a * min (b * c) C) C
  product_assoc a b c = held_factor (a * b) c ∙ ap (λ n. min n C) (mul_assoc a b c) ∙ sym (held_factor_right a (b * c))

  pub product_comm : (a b : ℕ) → min (a * b) C ≡ min (b * a) C
  product_comm a b = ap (λ n. min n C) (mul_comm a b)

  pub product_one : (a : ℕ) → 1 ≤ C → a ≤ C → min (min 1 C * a) C ≡ a
  product_one a h l = let e : min 1 C ≡ 1 = omega arith in rw (e, one-mul a) (omega arith)

  pub product_zero : (a : ℕ) → min (min 0 C * a) C ≡ min 0 C
  product_zero a = let e : min 0 C ≡ 0 = omega arith in rw (e, zero-mul a) e

  pub product_sum : (a b c : ℕ) → min (a * min (b + c) C) C ≡ min (min (a * b) C + min (a * c) C) C
  product_sum a b c = held_factor_right a (b + c) ∙ omega (arith, mul-add a b c)

  -- the smaller
  pub smaller_assoc : (a b c : ℕ) → min (min a b) c ≡ min a (min b c)
  smaller_assoc a b c = omega arith

  pub smaller_none : (a : ℕ) → a ≤ C → min (min C C) a ≡ a
  smaller_none a h = omega arith

  pub sum_smaller : (a b c : ℕ) → min (a + min b c) C ≡ min (min (a + b) C) (min (a + c) C)
  sum_smaller a b c = omega arith
