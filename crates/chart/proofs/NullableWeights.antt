-- The weights of the chosen trees without events, as the rounds find them.
use Rattle.std.proofs.Common.{◌≡◌, ℕ, suc, ◌+◌, ◌<◌, ◌≤◌, Bool, true, false, cond, eqb, ltb, [], Some, None, sym, ap, ◌∙◌, subst, ap₂, inl, inr, arith}
use Rattle.std.proofs.lemmas.Bool.{both_ways, false≢true, cases_lt, cases_eq, cases_Bool, lt-ltb, le-ltb, eq-eqb, ne_eqb, and_parts, cond-true, cond-false}
use Rattle.grammar.specs.Semiring.{Ops, Semiring}
use Rattle.grammar.specs.Productions.{Book, Sound}
use Rattle.grammar.specs.Binarised.{Right, empty, unit, binary, terminal}
use Rattle.grammar.specs.Binarise.{binarised}
use Rattle.grammar.specs.Nullable.{ready, nullable_after, nullable, nullable_tree, rule_tree}
use Rattle.grammar.specs.Cells.{tree_weight}
use Rattle.grammar.specs.Weights.{binarised_weight, total_of}
use Rattle.grammar.proofs.Sums.{times_one_right}
use Rattle.grammar.proofs.Nullable.{rounds_grow, rounds_small}
use Rattle.grammar.proofs.BinarisedRules.{binarised_bounded, binarised_size}
use Rattle.conversion.specs.declared.nullable.Brought.{Brought}
use Rattle.conversion.specs.Views.{right_side_of}
use Rattle.conversion.specs.Held.{Brings, BroughtIn}
use Rattle.conversion.proofs.Bringing.{held_on, held_last}
use Rattle.conversion.proofs.Walking.{brings_ready, brings_tree}
use Rattle.chart.specs.Weights.{blank_weight, NullableWeights}
use Rattle.chart.specs.Inner.{WeightsAfter, right_weight}

-- the weight that k rounds leave x with
abbrev after : {V : Type 0} → Ops V → Book → ℕ → ℕ → V
after M W k x = cond (nullable_after (binarised W) k x) (blank_weight M W x) M.zero

-- amid round k: it has come to the symbols below s, and not yet to the others
abbrev pub AmidRound : {V : Type 0} → Ops V → Book → ℕ → ℕ → (ℕ → V) → Type 0
AmidRound M W k s f = (x : ℕ) → x < 128 → f x ≡ after M W (cond (ltb x s) (suc k) k) x

-- whether a symbol comes before the next one, unless it is this one
next_same : (x s : ℕ) → (x ≡ s → ⊥) → ltb x s ≡ ltb x (s + 1)
next_same x s ne = elim (cases_lt x s) [
  | inl l ↦ lt-ltb x s l ∙ sym (lt-ltb x (s + 1) (omega arith))
  | inr g ↦ le-ltb x s g ∙ sym (le-ltb x (s + 1) (elim (cases_eq x s) [ inl e ↦ absurd (ne e) | inr n ↦ omega (arith, n) ]))
]

module _ {V : Type 0} (M : Ops V) (W : Book) where
  -- before the first round all weigh zero
  pub rounds_none : (f : ℕ → V) → ((x : ℕ) → f x ≡ M.zero) → WeightsAfter M W 0 f
  unfolding nullable_after
  rounds_none f h x l = h x

  -- the weight of head 0 is the total over no events
  pub empty_weight : {E : Type 0} (fits : E → ℕ → Bool) (f : ℕ → V) → NullableWeights M W f → (x : ℕ) (v : V) → v ≡ f x → x ≡ 0 → v ≡ total_of W M fits []
  empty_weight fits f h x v e z = e ∙ ap f z ∙ h 0 (omega arith)

module _ (W : Book) (S : Sound W) where
  -- a symbol that is not nullable comes in in no round
  none_brings : (k x : ℕ) → nullable (binarised W) x ≡ false → nullable_after (binarised W) k x ≡ false
  unfolding nullable
  none_brings k x never = elim (cases_Bool (nullable_after (binarised W) k x)) [ inl t ↦ absurd (both_ways _ never (held_last (binarised W) (binarised_bounded W S) k x t)) | inr f ↦ f ]

  -- what is so of a symbol after some rounds is so after more
  pub settled_on : (k m x : ℕ) → k ≤ m → nullable_after (binarised W) k x ≡ nullable (binarised W) x → nullable_after (binarised W) m x ≡ nullable (binarised W) x
  settled_on k m x l e = elim (cases_Bool (nullable (binarised W) x)) [
    | inl t ↦ held_on (binarised W) (binarised_bounded W S) k m x l (e ∙ t) ∙ sym t
    | inr f ↦ none_brings m x f ∙ sym f
  ]

  -- a symbol that nothing brings in is settled at once, another after the round that brings it in
  pub settled_none : (k x : ℕ) → BroughtIn (binarised W) x None → nullable_after (binarised W) k x ≡ nullable (binarised W) x
  settled_none k x never = none_brings k x never ∙ sym never

  pub settled_some : (k x : ℕ) (b : Brought) → BroughtIn (binarised W) x (Some b) → b.round < k → nullable_after (binarised W) k x ≡ nullable (binarised W) x
  settled_some k x b h l = held_on (binarised W) (binarised_bounded W S) (suc b.round) k x l h.1.1 ∙ sym h.0

module _ {V : Type 0} (M : Ops V) (L : Semiring M) (W : Book) (S : Sound W) where
  -- the round passes a symbol that it does not bring in
  round_past : (k s : ℕ) (f : ℕ → V) → nullable_after (binarised W) (suc k) s ≡ nullable_after (binarised W) k s → AmidRound M W k s f → AmidRound M W k (s + 1) f
  round_past k s f same h x l = elim (cases_eq x s) [
    | inl e ↦ h x l ∙ ap (λ b. after M W (cond b (suc k) k) x) (le-ltb x s (omega arith))
        ∙ subst (λ y. after M W k y ≡ after M W (suc k) y) (sym e) (ap (λ b. cond b (blank_weight M W s) M.zero) (sym same))
        ∙ ap (λ b. after M W (cond b (suc k) k) x) (sym (lt-ltb x (s + 1) (omega arith)))
    | inr n ↦ h x l ∙ ap (λ b. after M W (cond b (suc k) k) x) (next_same x s n)
  ]

  -- which symbols a round does not bring in, but for those that none brings in: those that another brings in
  other_brings : (k x : ℕ) (b : Brought) → Brings (binarised W) x b → (b.round ≡ k → ⊥) → nullable_after (binarised W) (suc k) x ≡ nullable_after (binarised W) k x
  other_brings k x b h ne = elim (cases_lt b.round k) [
    | inl l ↦ on (suc k) (omega arith) ∙ sym (on k l)
    | inr g ↦ off (suc k) (elim (cases_eq b.round k) [ inl e ↦ absurd (ne e) | inr n ↦ omega (arith, n) ]) ∙ sym (off k g)
  ]
    where
      on : (m : ℕ) → b.round < m → nullable_after (binarised W) m x ≡ true
      on m l = held_on (binarised W) (binarised_bounded W S) (suc b.round) m x l h.1

      off : (m : ℕ) → m ≤ b.round → nullable_after (binarised W) m x ≡ false
      off m g = elim (cases_Bool (nullable_after (binarised W) m x)) [ inl t ↦ absurd (both_ways _ h.0 (held_on (binarised W) (binarised_bounded W S) m b.round x g t)) | inr f ↦ f ]

  round_none : (k s : ℕ) (f : ℕ → V) → BroughtIn (binarised W) s None → AmidRound M W k s f → AmidRound M W k (s + 1) f
  round_none k s f never = round_past k s f (none_brings W S (suc k) s never ∙ sym (none_brings W S k s never))

  round_other : (k s : ℕ) (f : ℕ → V) (b : Brought) → BroughtIn (binarised W) s (Some b) → (b.round ≡ k → ⊥) → AmidRound M W k s f → AmidRound M W k (s + 1) f
  round_other k s f b h ne = round_past k s f (other_brings k s b h.1 ne)

  -- amid a round the symbols of the rounds before weigh what their chosen trees weigh
  held_weight : (k s : ℕ) (f : ℕ → V) → AmidRound M W k s f → (y : ℕ) → nullable_after (binarised W) k y ≡ true → f y ≡ blank_weight M W y
  held_weight k s f h y t =
      let small = rounds_small (binarised W) (binarised_bounded W S) k y t in
      h y (omega (arith, binarised_size W S))
      ∙ (elim (ltb y s) as (λ b. after M W (cond b (suc k) k) y ≡ blank_weight M W y)
      [ true ↦ cond-true _ _ _ (rounds_grow (binarised W) (binarised_bounded W S) k y t) | false ↦ cond-true _ _ _ t ])

  -- a rule over chosen trees, by the weights of its symbols
  rule_weighed : (k x n : ℕ) (f : ℕ → V) → ((y : ℕ) → nullable_after (binarised W) k y ≡ true → f y ≡ blank_weight M W y) → (b : Right) → ready (nullable_after (binarised W) k) b ≡ true
      → M.times (binarised_weight W M x n) (right_weight M f b) ≡ tree_weight M (binarised_weight W M) (rule_tree (nullable_tree (binarised W)) x n b)
  rule_weighed k x n f h empty t = times_one_right M L (binarised_weight W M x n)
  rule_weighed k x n f h (unit y) t = ap (M.times (binarised_weight W M x n)) (h y t)
  rule_weighed k x n f h (binary y z) t =
      let r = and_parts (nullable_after (binarised W) k y) (nullable_after (binarised W) k z) t in
      ap (M.times (binarised_weight W M x n)) (ap₂ M.times (h y r.0) (h z r.1))
  rule_weighed k x n f h (terminal p) t = absurd (false≢true t)

  -- the round brings a symbol in: it weighs what the rule that brought it in weighs over the symbols of the rounds before
  round_more : (k s size : ℕ) (was is : ℕ → V) (b : Brought) (v : V) → BroughtIn (binarised W) s (Some b) → b.round ≡ k → 128 ≤ size
      → v ≡ M.times (binarised_weight W M s b.number) (right_weight M was (right_side_of b.right))
      → ((j : ℕ) → j < size → is j ≡ cond (eqb j s) v (was j)) → AmidRound M W k s was → AmidRound M W k (s + 1) is
  round_more k s size was is b v h e wide weighs put amid x l = elim (cases_eq x s) [
    | inl q ↦ put x (omega arith) ∙ cond-true _ v (was x) (eq-eqb x s q) ∙ subst (λ y. v ≡ after M W (suc k) y) (sym q) new
        ∙ ap (λ c. after M W (cond c (suc k) k) x) (sym (lt-ltb x (s + 1) (omega arith)))
    | inr n ↦ put x (omega arith) ∙ cond-false _ v (was x) (ne_eqb x s n) ∙ amid x l ∙ ap (λ c. after M W (cond c (suc k) k) x) (next_same x s n)
  ]
    where
      made : M.times (binarised_weight W M s b.number) (right_weight M was (right_side_of b.right)) ≡ blank_weight M W s
      made = rule_weighed k s b.number was (held_weight k s was amid) (right_side_of b.right) (subst (λ m. ready (nullable_after (binarised W) m) (right_side_of b.right) ≡ true) e (brings_ready (binarised W) (binarised_bounded W S) s b h.1))
          ∙ ap (tree_weight M (binarised_weight W M)) (sym (brings_tree (binarised W) (binarised_bounded W S) s b h.1))

      new : v ≡ after M W (suc k) s
      new = weighs ∙ made ∙ sym (cond-true _ (blank_weight M W s) M.zero (subst (λ m. nullable_after (binarised W) (suc m) s ≡ true) e h.1.1))

  -- rounds after which all symbols are settled find all
  pub rounds_all : (k : ℕ) (f : ℕ → V) → ((x : ℕ) → x < 128 → nullable_after (binarised W) k x ≡ nullable (binarised W) x) → WeightsAfter M W k f → NullableWeights M W f
  rounds_all k f settled h x l = h x l ∙ ap (λ b. cond b (blank_weight M W x) M.zero) (settled x l)

-- a turn of round k, at the symbol s, by what the table says of it
module _ {V T : Type 0} (M : Ops V) (L : Semiring M) (W : Book) (S : Sound W) (item : T → ℕ → V) (k s : ℕ) (was is : T) (amid : AmidRound M W k s (item was)) where
  pub turn_none : BroughtIn (binarised W) s None → is ≡ was → AmidRound M W k (s + 1) (item is)
  turn_none never same = subst (λ b. AmidRound M W k (s + 1) (item b)) (sym same) (round_none M L W S k s (item was) never amid)

  pub turn_other : (b : Brought) → BroughtIn (binarised W) s (Some b) → (b.round ≡ k → ⊥) → is ≡ was → AmidRound M W k (s + 1) (item is)
  turn_other b brought ne same = subst (λ b. AmidRound M W k (s + 1) (item b)) (sym same) (round_other M L W S k s (item was) b brought ne amid)

  pub turn_more : (b : Brought) → BroughtIn (binarised W) s (Some b) → b.round ≡ k → (size : ℕ) → 128 ≤ size
      → (v : V) → v ≡ M.times (binarised_weight W M s b.number) (right_weight M (item was) (right_side_of b.right))
      → (put : T) → ((j : ℕ) → j < size → item put j ≡ cond (eqb j s) v (item was j)) → is ≡ put → AmidRound M W k (s + 1) (item is)
  turn_more b brought now size wide v weighs put puts same =
      subst (λ b. AmidRound M W k (s + 1) (item b)) (sym same) (round_more M L W S k s size (item was) (item put) b v brought now wide weighs puts amid)
