-- A round of chains, step by step, and when the rounds may stop.
use Rattle.std.proofs.Common.{◌≡◌, ℕ, zero, suc, ◌+◌, ◌<◌, ◌≤◌, Bool, true, false, cond, not, ◌&&◌, ◌||◌, eqb, ◌⊎◌, List, [], ◌∷◌, ◌++◌, map, length, get_or, take, is_some, Some, None, Option, sym, refl, ap, ◌∙◌, subst, inl, inr, arith}
use mathlib.Core.Path.{fun_ext}
use Rattle.std.proofs.lemmas.List.{append-nil, map_more}
use Rattle.std.proofs.lemmas.Bool.{true≢false, both_ways, cases_Bool, cases_eq, cases_lt, lt-ltb, le-ltb, eqb-true, or_left, or_right, or_from}
use Rattle.grammar.specs.Lists.{Mem, some_of, first_of, those}
use Rattle.grammar.specs.Binarised.{Binarised, Bounded}
use Rattle.grammar.specs.Chains.{nothing, ChainStep, unit_step, steps, nearer, within}
use Rattle.grammar.proofs.Lists.{mem_map, some_gives, those_append, those_mem}
use Rattle.grammar.proofs.Rounds.{in_the_end, settled}
use Rattle.grammar.proofs.Chains.{within_next, within_grows, within_self, within_small}
use Rattle.conversion.specs.Views.{step_of}
use Rattle.conversion.specs.Linked.{link, Shortest, ChosenWhere, ChainsWithin}
use Rattle.conversion.specs.Rounds.{all_steps, EndsBelow, shorter}
use Rattle.conversion.specs.declared.chain.UnitStep.{UnitStep}
use Rattle.conversion.specs.declared.chain.Chain.{Chain}
use Rattle.conversion.specs.declared.chain.Chain.TheVariants.{Empty, Steps}
use Rattle.conversion.specs.declared.chain.Chains.{Chains}
use Rattle.conversion.proofs.Firsts.{some_append, first_append}
use Rattle.grammar.proofs.BinarisedRules.{get_d_mem}
use Rattle.conversion.proofs.Stepping.{starts, own_steps}
use Rattle.conversion.proofs.Linking.{extended}

-- a chain of at most j steps leads to y from where the step ends
abbrev pub near : Binarised → ℕ → ℕ → ChainStep → Bool
near B y j s = within B y j s.to

-- what is said of x and y within a round after j, after some of the steps from x
abbrev pub Between : Binarised → ℕ → ℕ → ℕ → List ChainStep → Option Chain → Type 0
Between B j x y os None = (within B y j x ≡ false) × (some_of (near B y j) os ≡ false)
Between B j x y os (Some Empty) = x ≡ y
Between B j x y os (Some (Steps k s)) = ((k ≤ j) × Shortest B x y k s)
    ⊎ ((k ≡ suc j) × (within B y j x ≡ false) × (some_of (near B y j) os ≡ true) × (step_of s ≡ first_of (near B y j) (unit_step x zero nothing x) os))

-- the table within a round after j, after some steps
abbrev pub TableBetween : Binarised → ℕ → List ChainStep → Chains → Type 0
TableBetween B j ss c = (x y : ℕ) → x < 128 → y < 128 → Between B j x y (those (starts x) ss) (link c x y)

pub within_on : (B : Binarised) (y k m x : ℕ) → k ≤ m → within B y k x ≡ true → within B y m x ≡ true
within_on B y k zero x h t = let e : k ≡ 0 = omega arith in subst (λ i. within B y i x ≡ true) e t
within_on B y k (suc m) x h t = elim (cases_eq k (suc m))
    [ inl e ↦ subst (λ i. within B y i x ≡ true) e t | inr n ↦ within_grows B y m x (within_on B y k m x (omega arith) t) ]

-- the chosen chain is no longer than one that leads there
steps_most : (B : Binarised) (j x y k : ℕ) (s : UnitStep) → within B y j x ≡ true → Shortest B x y k s → k ≤ j
steps_most B j x y k s t h = elim (cases_lt h.0 j) [ inl l ↦ omega (arith, h.1) | inr g ↦ absurd (both_ways _ h.2 (within_on B y j h.0 x g t)) ]

between_start : (B : Binarised) (j x y : ℕ) (o : Option Chain) → ChosenWhere B (within B y j x) x y o → Between B j x y [] o
between_start B j x y None h = (h, refl)
between_start B j x y (Some Empty) h = h
between_start B j x y (Some (Steps k s)) h = inl (steps_most B j x y k s h.0 h.1, h.1)

between_end : (B : Binarised) (j x y : ℕ) (o : Option Chain) → Between B j x y (steps B x) o → ChosenWhere B (within B y (suc j) x) x y o
unfolding within
between_end B j x y None h = or_from (within B y j x) _ h.0 h.1
between_end B j x y (Some Empty) h = h
between_end B j x y (Some (Steps k s)) (inl h) = (within_on B y (suc h.1.0) (suc j) x (omega (arith, h.0, h.1.1)) h.1.3, h.1)
between_end B j x y (Some (Steps k s)) (inr h) =
    let t : within B y (suc j) x ≡ true = or_right (within B y j x) _ h.2 in
    (t, (j, h.0, h.1, t, h.3))

-- in a round after j, a chain of at most j steps is one that is shorter than the round's
between_shorter : (B : Binarised) (j x y : ℕ) (os : List ChainStep) (o : Option Chain) → Between B j x y os o → shorter (suc j) o ≡ within B y j x
between_shorter B j x y os None h = sym h.0
between_shorter B j x y os (Some Empty) h = lt-ltb 0 (suc j) (omega arith) ∙ sym (subst (λ z. within B z j x ≡ true) h (within_self B x j))
between_shorter B j x y os (Some (Steps k s)) (inl h) =
    let i = h.1.0 in
    lt-ltb k (suc j) (omega (arith, h.0)) ∙ sym (within_on B y (suc i) j x (omega (arith, h.0, h.1.1)) h.1.3)
between_shorter B j x y os (Some (Steps k s)) (inr h) = le-ltb k (suc j) (omega (arith, h.0)) ∙ sym h.1

between_kept : (B : Binarised) (j x y : ℕ) (os es : List ChainStep) (k : ℕ) (s : UnitStep) → Between B j x y os (Some (Steps k s)) → Between B j x y (os ++ es) (Some (Steps k s))
between_kept B j x y os es k s (inl h) = inl h
between_kept B j x y os es k s (inr h) =
    let p : ChainStep → Bool = near B y j in
    let d = unit_step x zero nothing x in
    inr (
      h.0,
      h.1,
      some_append p os es ∙ or_left _ _ h.2,
      h.3 ∙ sym (first_append p d os es ∙ ap (λ c. cond c (first_of p d os) (first_of p d es)) h.2),
    )

-- one step more from x
between_more : (B : Binarised) (j x y : ℕ) (os : List ChainStep) (s : UnitStep) (e q : Bool) (o : Option Chain) → q ≡ near B y j (step_of s) → Between B j x y os o
    → Between B j x y (os ++ cond e (step_of s ∷ []) []) (cond (e && (not (is_some o) && q)) (Some (Steps (suc j) s)) o)
between_more B j x y os s false q o n h = subst (λ l. Between B j x y l o) (sym (append-nil os)) h
between_more B j x y os s true q (Some Empty) n h = h
between_more B j x y os s true q (Some (Steps k t)) n h = between_kept B j x y os (step_of s ∷ []) k t h
between_more B j x y os s true false None n h =
    (h.0, some_append (near B y j) os (step_of s ∷ []) ∙ or_from _ _ h.1 (or_from _ _ (sym n) refl))
between_more B j x y os s true true None n h =
    let p : ChainStep → Bool = near B y j in
    let d = unit_step x zero nothing x in
    inr (
      refl,
      h.0,
      some_append p os (step_of s ∷ []) ∙ or_right _ _ (or_left _ _ (sym n)),
      sym (first_append p d os (step_of s ∷ []) ∙ ap (λ c. cond c (first_of p d os) (first_of p d (step_of s ∷ []))) h.1 ∙ ap (λ c. cond c (step_of s) d) (sym n)),
    )

module _ (B : Binarised) (j : ℕ) where
  pub chains_start : (c : Chains) → ChainsWithin B j c → TableBetween B j [] c
  chains_start c h x y a b = between_start B j x y (link c x y) (h x y a b)

  pub chains_end : (c : Chains) → TableBetween B j (all_steps B) c → ChainsWithin B (suc j) c
  chains_end c h x y a b = between_end B j x y (link c x y) (subst (λ l. Between B j x y l (link c x y)) (own_steps B x) (h x y a b))

  -- one step more of the list
  pub chains_turn : (ss : List ChainStep) (s : UnitStep) (c d : Chains) → s.to < 128 → TableBetween B j ss c
      → ((x y : ℕ) → x < 128 → y < 128 → link d x y ≡ extended (suc j) s c x y) → TableBetween B j (ss ++ (step_of s ∷ [])) d
  chains_turn ss s c d l h e x y a b =
      subst (λ o. Between B j x y (those (starts x) (ss ++ (step_of s ∷ []))) o) (sym (e x y a b))
      (subst (λ os. Between B j x y os (extended (suc j) s c x y)) (sym (those_append (starts x) ss (step_of s ∷ [])))
      (between_more B j x y (those (starts x) ss) s (eqb s.from x) (shorter (suc j) (link c s.to y)) (link c x y)
      (between_shorter B j s.to y (those (starts s.to) ss) (link c s.to y) (h s.to y l b)) (h x y a b)))

-- when the rounds may stop

-- f after k rounds, from no round
abbrev late : (ℕ → ℕ → Bool) → ℕ → ℕ → Bool
late f zero x = false
late f (suc k) x = f k x

module _ (B : Binarised) (bounded : Bounded B) (ends : EndsBelow B) where
  -- a symbol past the bound is reached from itself alone
  past_reached : (y k x : ℕ) → B.symbols ≤ y → within B y k x ≡ eqb x y
  unfolding within
  past_reached y zero x h = refl
  past_reached y (suc k) x h = elim (cases_Bool (eqb x y)) [
    | inl t ↦ or_left (within B y k x) _ (past_reached y k x h ∙ t) ∙ sym t
    | inr f ↦ or_from (within B y k x) _ (past_reached y k x h ∙ f) (none (λ z. past_reached y k z h) (some_of (near B y k) (steps B x)) refl) ∙ sym f
  ]
    where
      none : ((z : ℕ) → within B y k z ≡ eqb z y) → (b : Bool) → some_of (near B y k) (steps B x) ≡ b → b ≡ false
      none ih false e = refl
      none ih true e =
          let r = some_gives (near B y k) (steps B x) e in
          let m = those_mem (starts x) r.0 (all_steps B) (subst (λ l. Mem r.0 l) (sym (own_steps B x)) r.1) in
          let t = eqb-true r.0.to y (sym (ih r.0.to) ∙ r.2) in
          absurd (omega (arith, ends r.0 m.0))

  module _ (y : ℕ) (y< : y < B.symbols) where
    anew : (ℕ → Bool) → ℕ → Bool
    anew h x = eqb x y || nearer B h x

    late_next : (k : ℕ) → late (within B y) (suc k) ≡ anew (late (within B y) k)
    unfolding within anew
    late_next zero = fun_ext (λ x. sym (last (eqb x y) (nothing_near (steps B x))))
      where
        nothing_near : (ss : List ChainStep) → some_of (λ (s : ChainStep). false) ss ≡ false
        nothing_near [] = refl
        nothing_near (s ∷ ss) = nothing_near ss

        last : (b : Bool) {c : Bool} → c ≡ false → (b || c) ≡ b
        last true e = refl
        last false e = e
    late_next (suc k) = fun_ext (λ x. (elim (eqb x y) as (λ b. eqb x y ≡ b → within B y (suc k) x ≡ (b || within B y (suc k) x))
        [ true ↦ λ t. subst (λ z. within B z (suc k) x ≡ true) (eqb-true x y t) (within_self B x (suc k)) | false ↦ λ t. refl ]) refl)

    late_grows : (k x : ℕ) → late (within B y) k x ≡ true → late (within B y) (suc k) x ≡ true
    late_grows zero x t = absurd (true≢false (sym t))
    late_grows (suc k) x t = within_grows B y k x t

    late_small : (k x : ℕ) → late (within B y) k x ≡ true → x < B.symbols
    late_small zero x t = absurd (true≢false (sym t))
    late_small (suc k) x t = within_small B bounded y y< k x t

    -- the symbol itself counts, so a chain has fewer steps than there are symbols
    reached_soon : (k m x : ℕ) → B.symbols ≤ suc k → within B y m x ≡ true → within B y k x ≡ true
    reached_soon k m x l t = early B.symbols l (in_the_end anew (late (within B y)) B.symbols late_next late_grows late_small (suc m) x t)
      where
        early : (n : ℕ) → n ≤ suc k → late (within B y) n x ≡ true → within B y k x ≡ true
        early zero h u = absurd (true≢false (sym u))
        early (suc n) h u = within_on B y n k x (omega arith) u

  steady : (y k x : ℕ) → B.symbols ≤ suc k → within B y k x ≡ within B y B.symbols x
  steady y k x l = elim (cases_lt y B.symbols) [
    | inr g ↦ past_reached y k x g ∙ sym (past_reached y B.symbols x g)
    | inl h ↦ elim (cases_Bool (within B y k x)) [
      | inl t ↦ t ∙ sym (reached_soon y h B.symbols k x (omega arith) t)
      | inr f ↦ elim (cases_Bool (within B y B.symbols x))
          [ inl t ↦ absurd (both_ways _ f (reached_soon y h k B.symbols x l t)) | inr g ↦ f ∙ sym g ]
    ]
  ]

  -- as many rounds as symbols but one, or more
  pub chains_all : (n : ℕ) (c : Chains) → B.symbols ≤ suc n → ChainsWithin B n c → ChainsWithin B B.symbols c
  chains_all n c l h x y a b = subst (λ t. ChosenWhere B t x y (link c x y)) (steady y n x l) (h x y a b)

  -- a round that leaves the table as it was is the last
  pub chains_rest : (j : ℕ) (c d : Chains) → B.symbols ≤ 128 → d.links ≡ c.links → ChainsWithin B j c → ChainsWithin B (suc j) d → ChainsWithin B B.symbols d
  chains_rest j c d l e h g = elim (cases_lt j B.symbols) [
    | inr big ↦ chains_all (suc j) d (omega arith) g
    | inl small ↦ λ x y a b. subst (λ t. ChosenWhere B t x y (link d x y)) (elim (cases_lt y B.symbols) [
      | inr past ↦ past_reached y j x past ∙ sym (past_reached y B.symbols x past)
      | inl y< ↦ ap (λ f. f x) (sym (settled (nearer B) (within B y) B.symbols (within_next B y) (within_grows B y) (within_small B bounded y y<) j (omega arith)
          (λ z z<. same z y (link d z y) (before z y (omega arith) b) (g z y (omega arith) b))))
    ]) (before x y a b)
  ]
    where
      before : ChainsWithin B j d
      before x y a b = subst (λ t. ChosenWhere B (within B y j x) x y (get_or (get_or t x []) y None)) (sym e) (h x y a b)

      same : (x y : ℕ) (o : Option Chain) → ChosenWhere B (within B y j x) x y o → ChosenWhere B (within B y (suc j) x) x y o → within B y (suc j) x ≡ within B y j x
      same x y None p q = q ∙ sym p
      same x y (Some Empty) p q = subst (λ z. within B z (suc j) x ≡ within B z j x) p (within_self B x (suc j) ∙ sym (within_self B x j))
      same x y (Some (Steps k s)) p q = q.0 ∙ sym p.0

-- the turn of a round: the first steps of the list are done
pub round_turn : (B : Binarised) (j : ℕ) (list : List UnitStep) (i : ℕ) (d : UnitStep) (c n : Chains) → B.symbols ≤ 128 → EndsBelow B → map step_of list ≡ all_steps B → i < length list
    → TableBetween B j (map step_of (take i list)) c → ((x y : ℕ) → x < 128 → y < 128 → link n x y ≡ extended (suc j) (get_or list i d) c x y)
    → TableBetween B j (map step_of (take (i + 1) list)) n
round_turn B j list i d c n l ends e b h g =
    subst (λ ss. TableBetween B j ss n) (sym (map_more step_of list i d b))
    (chains_turn B j (map step_of (take i list)) (get_or list i d) c n
    (let m = ends (step_of (get_or list i d)) (subst (λ ss. Mem (step_of (get_or list i d)) ss) e (mem_map step_of (get_or list i d) list (get_d_mem list i d b))) in omega (arith, m)) h g)
