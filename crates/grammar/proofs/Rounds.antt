-- Sets of numbers below a bound that grow round by round come to rest within as many rounds as there are numbers.
use Rattle.std.proofs.Common.{◌≡◌, ℕ, zero, suc, ◌<◌, ◌≤◌, Bool, true, false, cond, ◌⊎◌, List, [], ◌∷◌, length, sym, refl, ap, ◌∙◌, subst, inl, inr, arith}
use mathlib.Core.Path.{fun_ext}
use Rattle.std.proofs.lemmas.Bool.{cases_Bool, cases_eq, cases_lt}
use Rattle.grammar.specs.Lists.{Mem, those, below}
use Rattle.grammar.proofs.Lists.{mem_below, count_up_mem, length_those, length_count_up}

-- a wider test passes more of a list, or the same
pub wider : (p q : ℕ → Bool) (xs : List ℕ) → ((x : ℕ) → p x ≡ true → q x ≡ true)
    → (((x : ℕ) → Mem x xs → q x ≡ p x) × (length (those p xs) ≤ length (those q xs))) ⊎ (length (those p xs) < length (those q xs))
wider p q [] h = inl (λ x m. elim m [ ], omega arith)
wider p q (x ∷ xs) h = (elim (p x) as (λ b. p x ≡ b → Goal b (q x)) [
  | true ↦ λ e. rw (h x e) (elim (wider p q xs h) [
    | inl r ↦ inl (λ y m. elim m [ inl i ↦ ap q i ∙ h x e ∙ sym e ∙ ap p (sym i) | inr m' ↦ r.0 y m' ], omega (arith, r.1))
    | inr r ↦ inr (omega arith)
  ])
  | false ↦ λ e. (elim (q x) as (λ b. q x ≡ b → Goal false b) [
    | true ↦ λ e'. elim (wider p q xs h) [ inl r ↦ inr (omega (arith, r.1)) | inr r ↦ inr (omega arith) ]
    | false ↦ λ e'. elim (wider p q xs h) [
      | inl r ↦ inl (λ y m. elim m [ inl i ↦ ap q i ∙ e' ∙ sym e ∙ ap p (sym i) | inr m' ↦ r.0 y m' ], r.1)
      | inr r ↦ inr r
    ]
  ]) refl
]) refl
  where
    Goal : Bool → Bool → Type 0
    Goal b c = (((y : ℕ) → Mem y (x ∷ xs) → q y ≡ p y) × (length (cond b (x ∷ those p xs) (those p xs)) ≤ length (cond c (x ∷ those q xs) (those q xs))))
        ⊎ (length (cond b (x ∷ those p xs) (those p xs)) < length (cond c (x ∷ those q xs) (those q xs)))

module _ (F : (ℕ → Bool) → ℕ → Bool) (f : ℕ → ℕ → Bool) (S : ℕ) (next : (k : ℕ) → f (suc k) ≡ F (f k))
    (grows : (k x : ℕ) → f k x ≡ true → f (suc k) x ≡ true) (small : (k x : ℕ) → f k x ≡ true → x < S) where
  same : (k : ℕ) → ((x : ℕ) → Mem x (below S) → f (suc k) x ≡ f k x) → f (suc k) ≡ f k
  same k h = fun_ext (λ x. elim (cases_lt x S) [
    | inl l ↦ h x (mem_below S x l)
    | inr g ↦ none (suc k) x g ∙ sym (none k x g)
  ])
    where
      none : (j x : ℕ) → S ≤ x → f j x ≡ false
      none j x g = elim (cases_Bool (f j x)) [ inl e ↦ absurd (let l = small j x e in omega arith) | inr e ↦ e ]

  rest_or_more : (k : ℕ) → (f (suc k) ≡ f k) ⊎ (suc k ≤ length (those (f (suc k)) (below S)))
  rest_or_more zero = elim (wider (f zero) (f 1) (below S) (grows zero)) [ inl r ↦ inl (same zero r.0) | inr r ↦ inr (omega arith) ]
  rest_or_more (suc k) = elim (rest_or_more k) [
    | inl e ↦ inl (next (suc k) ∙ ap F e ∙ sym (next k))
    | inr l ↦ elim (wider (f (suc k)) (f (suc (suc k))) (below S) (grows (suc k)))
        [ inl r ↦ inl (same (suc k) r.0) | inr r ↦ inr (omega arith) ]
  ]

  pub at_rest : f (suc S) ≡ f S
  at_rest = elim (rest_or_more S) [
    | inl e ↦ e
    | inr l ↦ absurd (omega (arith, length_those (f (suc S)) (below S), length_count_up zero S))
  ]

  pub holds_on : (k m x : ℕ) → k ≤ m → f k x ≡ true → f m x ≡ true
  holds_on k zero x h t = subst (λ i. f i x ≡ true) (let e : k ≡ 0 = omega arith in e) t
  holds_on k (suc m) x h t = elim (cases_eq k (suc m))
      [ inl e ↦ subst (λ i. f i x ≡ true) e t | inr n ↦ grows m x (holds_on k m x (omega arith) t) ]

  stays : (m : ℕ) → S ≤ m → f m ≡ f S
  stays zero h = ap f (omega arith)
  stays (suc m) h = elim (cases_eq (suc m) S) [
    | inl e ↦ ap f e
    | inr n ↦ next m ∙ ap F (stays m (omega arith)) ∙ sym (next S) ∙ at_rest
  ]

  -- what any round holds, round S holds
  pub in_the_end : (k x : ℕ) → f k x ≡ true → f S x ≡ true
  in_the_end k x t = elim (cases_lt k S)
      [ inl l ↦ holds_on k S x (omega arith) t | inr g ↦ ap (λ h. h x) (sym (stays k g)) ∙ t ]

  -- a round that adds nothing is the last
  pub settled : (k : ℕ) → k ≤ S → ((x : ℕ) → x < S → f (suc k) x ≡ f k x) → f S ≡ f k
  settled k l h = go S l
    where
      rest : f (suc k) ≡ f k
      rest = same k (λ x m. h x (let j = count_up_mem zero S x m in omega arith))

      go : (m : ℕ) → k ≤ m → f m ≡ f k
      go zero g = ap f (omega arith)
      go (suc m) g = elim (cases_eq k (suc m))
          [ inl e ↦ ap f (sym e) | inr n ↦ next m ∙ ap F (go m (omega arith)) ∙ sym (next k) ∙ rest ]
