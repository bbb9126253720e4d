-- A round of nullable symbols, rule by rule.
use Rattle.std.proofs.Common.{◌≡◌, ℕ, zero, suc, ◌+◌, ◌<◌, ◌≤◌, Bool, true, false, cond, not, ◌&&◌, eqb, ◌⊎◌, List, [], ◌∷◌, ◌++◌, map, length, get_or, take, set, replicate, is_some, Some, None, Option, sym, refl, ap, ◌∙◌, subst, inl, inr, arith, get_or-set_other, get_or-set_same}
use mathlib.Core.Path.{fun_ext}
use Rattle.std.proofs.lemmas.List.{append-nil, get_or_past, map_more, get_or-replicate, length-replicate}
use Rattle.std.proofs.lemmas.Bool.{true≢false, both_ways, cases_Bool, cases_eq, cases_lt, lt-ltb, le-ltb, eqb-true, eq-eqb, ne_eqb, or_left, or_right, or_from, and_parts, not-true}
use Rattle.grammar.specs.Lists.{some_of, first_of}
use Rattle.grammar.specs.Binarised.{empty, Rule, Binarised, OwnRule, rules_in, rules_of, Bounded}
use Rattle.grammar.specs.Nullable.{ready, next_round, nullable_after, nullable, first_ready}
use Rattle.grammar.proofs.Lists.{mem_map}
use Rattle.grammar.proofs.Rounds.{holds_on, in_the_end, settled}
use Rattle.grammar.proofs.Nullable.{rounds_next, rounds_grow, rounds_small}
use Rattle.conversion.specs.Views.{right_side_of, rule_of, binarised_of}
use Rattle.conversion.specs.Held.{Brings, BroughtWhere, Nullables}
use Rattle.conversion.specs.Rounds.{sooner, NullablesAfter}
use Rattle.conversion.specs.declared.right.BinarisedRule.{BinarisedRule}
use Rattle.conversion.specs.declared.nullable.Brought.{Brought}
use Rattle.conversion.specs.declared.nullable.Nullable.{Nullable}
use Rattle.conversion.proofs.Firsts.{some_append, first_append, own_append}
use Rattle.grammar.proofs.BinarisedRules.{get_d_mem}

-- the right side is made of symbols held after k rounds
abbrev pub ripe : Binarised → ℕ → OwnRule → Bool
ripe B k o = ready (nullable_after B k) o.1

-- what is said of x within round k, after some of its rules
abbrev pub Amid : Binarised → ℕ → ℕ → List OwnRule → Option Brought → Type 0
Amid B k x os None = (nullable_after B k x ≡ false) × (some_of (ripe B k) os ≡ false)
Amid B k x os (Some b) = ((b.round < k) × Brings B x b)
    ⊎ ((b.round ≡ k) × (nullable_after B k x ≡ false) × (some_of (ripe B k) os ≡ true) × ((b.number, right_side_of b.right) ≡ first_of (ripe B k) (zero, empty) os))

-- the table within round k, after some rules
abbrev pub TableAmid : Binarised → ℕ → List Rule → List (Option Brought) → Type 0
TableAmid B k rs t = (x : ℕ) → Amid B k x (rules_in x rs) (get_or t x None)

brought_now : (B : Binarised) (k x : ℕ) (b : Brought) → b.round ≡ k → nullable_after B k x ≡ false → some_of (ripe B k) (rules_of B x) ≡ true
    → (b.number, right_side_of b.right) ≡ first_of (ripe B k) (zero, empty) (rules_of B x) → (nullable_after B (suc k) x ≡ true) × Brings B x b
unfolding nullable_after
brought_now B k x b e f s i =
    let t : nullable_after B (suc k) x ≡ true = or_right (nullable_after B k x) _ s in (
      t,
      subst (λ j. (nullable_after B j x ≡ false) × (nullable_after B (suc j) x ≡ true) × ((b.number, right_side_of b.right) ≡ first_ready B (nullable_after B j) x)) (sym e)
          (f, t, i),
    )

amid_kept : (B : Binarised) (k x : ℕ) (os es : List OwnRule) (b : Brought) → Amid B k x os (Some b) → Amid B k x (os ++ es) (Some b)
amid_kept B k x os es b (inl h) = inl h
amid_kept B k x os es b (inr h) = inr (
  h.0,
  h.1,
  some_append (ripe B k) os es ∙ or_left _ _ h.2,
  h.3 ∙ sym (first_append (ripe B k) (zero, empty) os es ∙ ap (λ c. cond c (first_of (ripe B k) (zero, empty) os) (first_of (ripe B k) (zero, empty) es)) h.2),
)

amid_none : (B : Binarised) (k x : ℕ) (os es : List OwnRule) → some_of (ripe B k) es ≡ false → Amid B k x os None → Amid B k x (os ++ es) None
amid_none B k x os es n h = (h.0, some_append (ripe B k) os es ∙ or_from _ _ h.1 n)

amid_new : (B : Binarised) (k x : ℕ) (os : List OwnRule) (b : Brought) → b.round ≡ k → ready (nullable_after B k) (right_side_of b.right) ≡ true → Amid B k x os None
    → Amid B k x (os ++ ((b.number, right_side_of b.right) ∷ [])) (Some b)
amid_new B k x os b e t h =
    let o : OwnRule = (b.number, right_side_of b.right) in
    inr (
      e,
      h.0,
      some_append (ripe B k) os (o ∷ []) ∙ or_right _ _ (or_left _ _ t),
      sym (first_append (ripe B k) (zero, empty) os (o ∷ [])
          ∙ ap (λ c. cond c (first_of (ripe B k) (zero, empty) os) (first_of (ripe B k) (zero, empty) (o ∷ []))) h.1
          ∙ ap (λ c. cond c o (zero, empty)) t),
    )

-- a rule of another symbol
amid_other : (B : Binarised) (k x : ℕ) (rs : List Rule) (r : Rule) (o : Option Brought) → eqb r.left x ≡ false → Amid B k x (rules_in x rs) o
    → Amid B k x (rules_in x (rs ++ (r ∷ []))) o
amid_other B k x rs r o n h =
    subst (λ l. Amid B k x l o)
    (sym (own_append x rs (r ∷ []) ∙ ap (λ c. rules_in x rs ++ cond c ((r.number, r.right) ∷ []) []) n ∙ append-nil (rules_in x rs))) h

module _ (B : Binarised) (bounded : Bounded B) where
  pub held_on : (k m x : ℕ) → k ≤ m → nullable_after B k x ≡ true → nullable_after B m x ≡ true
  held_on = holds_on (next_round B) (nullable_after B) B.symbols (rounds_next B bounded) (rounds_grow B bounded) (rounds_small B bounded)

  pub held_last : (k x : ℕ) → nullable_after B k x ≡ true → nullable_after B B.symbols x ≡ true
  held_last = in_the_end (next_round B) (nullable_after B) B.symbols (rounds_next B bounded) (rounds_grow B bounded) (rounds_small B bounded)

  -- what is held after k rounds came in before round k
  round_below : (k x : ℕ) (b : Brought) → nullable_after B k x ≡ true → Brings B x b → b.round < k
  round_below k x b t h = elim (cases_lt b.round k) [ inl l ↦ l | inr g ↦ absurd (both_ways _ h.0 (held_on k b.round x g t)) ]

  amid_start : (k x : ℕ) (o : Option Brought) → BroughtWhere B (nullable_after B k x) x o → Amid B k x [] o
  amid_start k x None h = (h, refl)
  amid_start k x (Some b) h = inl (round_below k x b h.0 h.1, h.1)

  pub table_start : (k : ℕ) (n : Nullable) → NullablesAfter B k n → TableAmid B k [] n.brought
  table_start k n h x = amid_start k x (get_or n.brought x None) (h x)

  amid_end : (k x : ℕ) (o : Option Brought) → Amid B k x (rules_of B x) o → BroughtWhere B (nullable_after B (suc k) x) x o
  unfolding nullable_after
  amid_end k x None h = or_from (nullable_after B k x) _ h.0 h.1
  amid_end k x (Some b) (inl h) = (held_on (suc b.round) (suc k) x (omega (arith, h.0)) h.1.1, h.1)
  amid_end k x (Some b) (inr h) = brought_now B k x b h.0 h.1 h.2 h.3

  -- within round k, a round before k brought in what is held after k rounds
  sooner_held : (k x : ℕ) (os : List OwnRule) (o : Option Brought) → Amid B k x os o → sooner k o ≡ nullable_after B k x
  sooner_held k x os None h = sym h.0
  sooner_held k x os (Some b) (inl h) = lt-ltb b.round k h.0 ∙ sym (held_on (suc b.round) k x (omega (arith, h.0)) h.1.1)
  sooner_held k x os (Some b) (inr h) = le-ltb b.round k (omega (arith, h.0)) ∙ sym h.1

  pub table_end : (k : ℕ) (n : Nullable) → TableAmid B k B.rules n.brought → NullablesAfter B (suc k) n
  unfolding rules_of
  table_end k n h x = amid_end k x (get_or n.brought x None) (h x)

  module _ (k : ℕ) (rs : List Rule) (r : BinarisedRule) (t : List (Option Brought)) (amid : TableAmid B k rs t) where
    sooner_same : (λ y. sooner k (get_or t y None)) ≡ nullable_after B k
    sooner_same = fun_ext (λ y. sooner_held k y (rules_in y rs) (get_or t y None) (amid y))

    -- a rule that brings nothing in
    pub table_same : (not (is_some (get_or t r.left None)) && ready (λ y. sooner k (get_or t y None)) (right_side_of r.right)) ≡ false
        → TableAmid B k (rs ++ (rule_of r ∷ [])) t
    table_same n x = elim (cases_Bool (eqb r.left x)) [
      | inr ne ↦ amid_other B k x rs (rule_of r) (get_or t x None) ne (amid x)
      | inl eq ↦ subst (λ l. Amid B k x l (get_or t x None)) (sym (own_append x rs (rule_of r ∷ [])))
          (at (get_or t x None) (ap (λ z. get_or t z None) (eqb-true r.left x eq)) (amid x))
    ]
      where
        es : List OwnRule
        es = rules_in x (rule_of r ∷ [])

        unripe : ready (nullable_after B k) (right_side_of r.right) ≡ false → some_of (ripe B k) es ≡ false
        unripe u = (elim (eqb r.left x) as (λ b. some_of (ripe B k) (cond b ((r.number, right_side_of r.right) ∷ []) []) ≡ false)
            [ true ↦ or_from _ _ u refl | false ↦ refl ])

        at : (o : Option Brought) → get_or t r.left None ≡ o → Amid B k x (rules_in x rs) o → Amid B k x (rules_in x rs ++ es) o
        at None e h = amid_none B k x (rules_in x rs) es (unripe (ap (λ g. ready g (right_side_of r.right)) (sym sooner_same)
            ∙ ap (λ o. not (is_some o) && ready (λ y. sooner k (get_or t y None)) (right_side_of r.right)) (sym e) ∙ n)) h
        at (Some b) e h = amid_kept B k x (rules_in x rs) es b h

    -- a rule that brings its symbol in
    pub table_more : r.left < length t
        → (not (is_some (get_or t r.left None)) && ready (λ y. sooner k (get_or t y None)) (right_side_of r.right)) ≡ true
        → TableAmid B k (rs ++ (rule_of r ∷ [])) (set t r.left (Some (record { round = k; number = r.number; right = r.right })))
    table_more l y x = elim (cases_eq x r.left) [
      | inr ne ↦ subst (λ o. Amid B k x (rules_in x (rs ++ (rule_of r ∷ []))) o) (sym (get_or-set_other t r.left x (Some b) None ne))
          (amid_other B k x rs (rule_of r) (get_or t x None) (ne_eqb r.left x (λ e. ne (sym e))) (amid x))
      | inl eq ↦ subst (λ z. Amid B k z (rules_in z (rs ++ (rule_of r ∷ []))) (get_or (set t r.left (Some b)) z None)) (sym eq)
          (subst (λ o. Amid B k r.left (rules_in r.left (rs ++ (rule_of r ∷ []))) o) (sym (get_or-set_same t r.left (Some b) None l))
          (subst (λ m. Amid B k r.left m (Some b))
          (sym (own_append r.left rs (rule_of r ∷ [])
          ∙ ap (λ c. rules_in r.left rs ++ cond c ((r.number, right_side_of r.right) ∷ []) []) (eq-eqb r.left r.left refl)))
          (amid_new B k r.left (rules_in r.left rs) b refl
          (ap (λ g. ready g (right_side_of r.right)) (sym sooner_same) ∙ both.1)
          (none (get_or t r.left None) (not-true _ both.0) (amid r.left)))))
    ]
      where
        b : Brought
        b = record { round = k; number = r.number; right = r.right }

        both : (not (is_some (get_or t r.left None)) ≡ true) × (ready (λ y. sooner k (get_or t y None)) (right_side_of r.right) ≡ true)
        both = and_parts (not (is_some (get_or t r.left None))) (ready (λ y. sooner k (get_or t y None)) (right_side_of r.right)) y

        none : (o : Option Brought) → is_some o ≡ false → Amid B k r.left (rules_in r.left rs) o → Amid B k r.left (rules_in r.left rs) None
        none None e h = h
        none (Some b) e h = absurd (true≢false e)

  -- as many rounds as symbols, or more
  pub rounds_all : (k : ℕ) (n : Nullable) → B.symbols ≤ k → NullablesAfter B k n → Nullables B n
  unfolding nullable
  rounds_all k n l h x = subst (λ t. BroughtWhere B t x (get_or n.brought x None)) same (h x)
    where
      same : nullable_after B k x ≡ nullable_after B B.symbols x
      same = elim (cases_Bool (nullable_after B k x)) [
        | inl t ↦ t ∙ sym (held_last k x t)
        | inr f ↦ elim (cases_Bool (nullable_after B B.symbols x))
            [ inl t ↦ absurd (both_ways _ f (held_on B.symbols k x l t)) | inr g ↦ f ∙ sym g ]
      ]

  -- a round that leaves the table as it was is the last
  pub rounds_rest : (k : ℕ) (n m : Nullable) → m.brought ≡ n.brought → NullablesAfter B k n → NullablesAfter B (suc k) m → Nullables B m
  unfolding nullable
  rounds_rest k n m e h g = elim (cases_lt k B.symbols) [
    | inr l ↦ rounds_all (suc k) m (omega arith) g
    | inl l ↦ λ x. subst (λ t. BroughtWhere B t x (get_or m.brought x None))
        (ap (λ f. f x) (sym (settled (next_round B) (nullable_after B) B.symbols (rounds_next B bounded) (rounds_grow B bounded) (rounds_small B bounded) k (omega arith)
        (λ y s. same y (get_or m.brought y None) (before y) (g y))))) (before x)
  ]
    where
      before : (x : ℕ) → BroughtWhere B (nullable_after B k x) x (get_or m.brought x None)
      before x = subst (λ t. BroughtWhere B (nullable_after B k x) x (get_or t x None)) (sym e) (h x)

      same : (y : ℕ) (o : Option Brought) → BroughtWhere B (nullable_after B k y) y o → BroughtWhere B (nullable_after B (suc k) y) y o → nullable_after B (suc k) y ≡ nullable_after B k y
      same y None p q = q ∙ sym p
      same y (Some b) p q = q.0 ∙ sym p.0

-- before the first round nothing is held
pub rounds_start : (B : Binarised) (x : ℕ) → BroughtWhere B (nullable_after B 0 x) x (get_or (replicate 128 None) x None)
unfolding nullable_after
rounds_start B x = subst (λ o. BroughtWhere B (nullable_after B 0 x) x o) (sym (elim (cases_lt x 128) [
  | inl l ↦ get_or-replicate 128 x None None l
  | inr g ↦ get_or_past (replicate 128 None) x None (omega (arith, length-replicate {A = Option Brought} 128 None))
])) refl

-- the turns of a round: the first rules of the list are done
module _ (rules : List BinarisedRule) (S : ℕ) (l : S ≤ 128) (bounded : Bounded (binarised_of rules S)) (k i : ℕ) (d : BinarisedRule) (b : i < length rules)
    (t : List (Option Brought)) (amid : TableAmid (binarised_of rules S) k (map rule_of (take i rules)) t) where
  pub turn_same : (not (is_some (get_or t (get_or rules i d).left None)) && ready (λ y. sooner k (get_or t y None)) (right_side_of (get_or rules i d).right)) ≡ false
      → TableAmid (binarised_of rules S) k (map rule_of (take (i + 1) rules)) t
  turn_same n = subst (λ rs. TableAmid (binarised_of rules S) k rs t) (sym (map_more rule_of rules i d b))
      (table_same (binarised_of rules S) bounded k (map rule_of (take i rules)) (get_or rules i d) t amid n)

  pub turn_more : length t ≡ 128
      → (not (is_some (get_or t (get_or rules i d).left None)) && ready (λ y. sooner k (get_or t y None)) (right_side_of (get_or rules i d).right)) ≡ true
      → TableAmid (binarised_of rules S) k (map rule_of (take (i + 1) rules))
      (set t (get_or rules i d).left (Some (record { round = k; number = (get_or rules i d).number; right = (get_or rules i d).right })))
  turn_more e y = subst (λ rs. TableAmid (binarised_of rules S) k rs (set t (get_or rules i d).left (Some (record { round = k; number = (get_or rules i d).number; right = (get_or rules i d).right }))))
      (sym (map_more rule_of rules i d b))
      (table_more (binarised_of rules S) bounded k (map rule_of (take i rules)) (get_or rules i d) t amid
      (omega (arith, e, bounded (rule_of (get_or rules i d)) (mem_map rule_of (get_or rules i d) rules (get_d_mem rules i d b)))) y)
