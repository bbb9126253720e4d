-- Chosen chains: a chain leads from x to y exactly if the chosen one does, and that has the fewest steps.
use Rattle.std.proofs.Common.{◌≡◌, ℕ, zero, suc, ◌<◌, ◌≤◌, Bool, true, false, cond, ◌||◌, List, [], ◌∷◌, length, sym, refl, ap, ◌∙◌, subst, inl, inr, arith}
use Rattle.std.proofs.lemmas.Bool.{or_left, or_right, or_cases, cases_eq, cases_lt, eqb-true, eq-eqb}
use Rattle.grammar.specs.Lists.{Mem, some_of, below}
use Rattle.grammar.specs.Binarised.{Right, empty, unit, binary, terminal, Binarised, Has, OwnRule, rules_of, Bounded}
use Rattle.grammar.specs.Nullable.{nullable}
use Rattle.grammar.specs.Chains.{Dropped, nothing, the_right, the_left, ChainStep, unit_step, Leads, UnitChain, steps_by, steps, nearer, within, first_step, chosen_chain_in, chosen_chain, reached}
use Rattle.grammar.proofs.Lists.{mem_right, mem_append, mem_each, each_mem, some_from, some_gives, first_from, mem_those, those_mem, mem_below, count_up_mem}
use Rattle.grammar.proofs.Rounds.{at_rest, holds_on}
use Rattle.grammar.proofs.Nullable.{rule_has, has_rule}

-- the steps of a rule lead where they say
steps_by_lead : (B : Binarised) (x n : ℕ) (b : Right) (s : ChainStep) → Has B x n b → Mem s (steps_by (nullable B) x n b)
    → (s.from ≡ x) × Leads B s.from s.number s.dropped s.to
steps_by_lead B x n empty s h m = elim m [ ]
steps_by_lead B x n (unit y) s h (inl e) = rw e (refl, h)
steps_by_lead B x n (unit y) s h (inr m) = elim m [ ]
steps_by_lead B x n (binary y z) s h m = elim (mem_append s (cond (nullable B z) (unit_step x n (the_right z) y ∷ []) []) _ m) [
  | inl p ↦ (elim (nullable B z) as (λ b. nullable B z ≡ b → Mem s (cond b (unit_step x n (the_right z) y ∷ []) []) → (s.from ≡ x) × Leads B s.from s.number s.dropped s.to)
      [ true ↦ λ t m'. elim m' [ inl e ↦ rw e (refl, (h, t)) | inr q ↦ absurd q ] | false ↦ λ t m'. absurd m' ]) refl p
  | inr p ↦ (elim (nullable B y) as (λ b. nullable B y ≡ b → Mem s (cond b (unit_step x n (the_left y) z ∷ []) []) → (s.from ≡ x) × Leads B s.from s.number s.dropped s.to)
      [ true ↦ λ t m'. elim m' [ inl e ↦ rw e (refl, (h, t)) | inr q ↦ absurd q ] | false ↦ λ t m'. absurd m' ]) refl p
]
steps_by_lead B x n (terminal p) s h m = elim m [ ]

pub steps_lead : (B : Binarised) (x : ℕ) (s : ChainStep) → Mem s (steps B x) → (s.from ≡ x) × Leads B s.from s.number s.dropped s.to
unfolding steps
steps_lead B x s m =
    let r = each_mem (λ (o : OwnRule). steps_by (nullable B) x o.0 o.1) s (rules_of B x) m in
    steps_by_lead B x r.0.0 r.0.1 s (rule_has B x r.0 r.1) r.2

-- each step that leads is in the list
pub lead_steps : (B : Binarised) (x n : ℕ) (d : Dropped) (y : ℕ) → Leads B x n d y → Mem (unit_step x n d y) (steps B x)
unfolding steps
lead_steps B x n nothing y l =
    mem_each (λ (o : OwnRule). steps_by (nullable B) x o.0 o.1) (n, unit y) _ (rules_of B x) (has_rule B x n (unit y) l) (inl refl)
lead_steps B x n (the_right z) y l =
    mem_each (λ (o : OwnRule). steps_by (nullable B) x o.0 o.1) (n, binary y z) _ (rules_of B x) (has_rule B x n (binary y z) l.0)
    (rw l.1 (inl refl))
lead_steps B x n (the_left z) y l =
    mem_each (λ (o : OwnRule). steps_by (nullable B) x o.0 o.1) (n, binary z y) _ (rules_of B x) (has_rule B x n (binary z y) l.0)
    (mem_right _ (cond (nullable B y) (unit_step x n (the_right y) z ∷ []) []) _ (rw l.1 (inl refl)))

leads_small : (B : Binarised) → Bounded B → (x n : ℕ) (d : Dropped) (y : ℕ) → Leads B x n d y → x < B.symbols
leads_small B bounded x n nothing y l = bounded _ l
leads_small B bounded x n (the_right z) y l = bounded _ l.0
leads_small B bounded x n (the_left z) y l = bounded _ l.0

pub within_next : (B : Binarised) (y k : ℕ) → within B y (suc k) ≡ nearer B (within B y k)
unfolding within
within_next B y k = refl

pub within_grows : (B : Binarised) (y k x : ℕ) → within B y k x ≡ true → within B y (suc k) x ≡ true
unfolding within
within_grows B y k x t = or_left (within B y k x) _ t

pub within_self : (B : Binarised) (x k : ℕ) → within B x k x ≡ true
unfolding within
within_self B x zero = eq-eqb x x refl
within_self B x (suc k) = or_left (within B x k x) _ (within_self B x k)

-- the chosen chain leads where it says
pub chain_in_leads : (B : Binarised) (y k x : ℕ) → within B y k x ≡ true → UnitChain B x (chosen_chain_in B y k x) y
unfolding within chosen_chain_in
chain_in_leads B y zero x t = eqb-true x y t
chain_in_leads B y (suc k) x t =
    let p : ChainStep → Bool = λ s. within B y k s.to in
    let s = first_step B y k x in
    (elim (within B y k x) as (λ b. within B y k x ≡ b → (b || some_of p (steps B x)) ≡ true → UnitChain B x (cond b (chosen_chain_in B y k x) (s ∷ chosen_chain_in B y k s.to)) y) [
      | true ↦ λ e t'. chain_in_leads B y k x e
      | false ↦ λ e t'. let r = first_from p (unit_step x zero nothing x) (steps B x) t' in
          let l = steps_lead B x s r.0 in (l.0, l.1, chain_in_leads B y k s.to r.1)
    ]) refl t

chain_in_self : (B : Binarised) (x k : ℕ) → chosen_chain_in B x k x ≡ []
unfolding chosen_chain_in
chain_in_self B x zero = refl
chain_in_self B x (suc k) = rw (within_self B x k) (chain_in_self B x k)

pub chain_self : (B : Binarised) (x : ℕ) → chosen_chain B x x ≡ []
unfolding chosen_chain
chain_self B x = chain_in_self B x B.symbols

module _ (B : Binarised) (bounded : Bounded B) where
  module _ (y : ℕ) (y< : y < B.symbols) where
    pub within_small : (k x : ℕ) → within B y k x ≡ true → x < B.symbols
    unfolding within
    within_small zero x t = rw (eqb-true x y t) y<
    within_small (suc k) x t = elim (or_cases (within B y k x) _ t) [
      | inl e ↦ within_small k x e
      | inr e ↦ let r = some_gives (λ (s : ChainStep). within B y k s.to) (steps B x) e in
          let l = steps_lead B x r.0 r.1 in
          subst (λ z. z < B.symbols) l.0 (leads_small B bounded r.0.from r.0.number r.0.dropped r.0.to l.1)
    ]

    -- a step to where a chain leads from
    pub within_step : (x : ℕ) (s : ChainStep) → Mem s (steps B x) → within B y B.symbols s.to ≡ true → within B y B.symbols x ≡ true
    within_step x s m t =
        ap (λ h. h x) (sym (at_rest (nearer B) (within B y) B.symbols (within_next B y) (within_grows B y) within_small))
        ∙ (ap (λ h. h x) (within_next B y B.symbols) ∙ or_right (within B y B.symbols x) _ (some_from (λ (s : ChainStep). within B y B.symbols s.to) s (steps B x) m t))

    -- any chain is one that the rounds have found
    pub chain_within : (x : ℕ) (c : List ChainStep) → UnitChain B x c y → within B y B.symbols x ≡ true
    chain_within x [] e = rw e (within_self B y B.symbols)
    chain_within x (s ∷ c) h =
        subst (λ z. within B y B.symbols z ≡ true) h.0
        (within_step s.from s (lead_steps B s.from s.number s.dropped s.to h.1) (chain_within s.to c h.2))

    -- the chosen chain does not change with more rounds
    pub chain_kept : (k m x : ℕ) → k ≤ m → within B y k x ≡ true → chosen_chain_in B y m x ≡ chosen_chain_in B y k x
    unfolding chosen_chain_in
    chain_kept k zero x h t = let e : 0 ≡ k = omega arith in ap (λ i. chosen_chain_in B y i x) e
    chain_kept k (suc m) x h t = elim (cases_eq k (suc m)) [
      | inl e ↦ ap (λ i. chosen_chain_in B y i x) (sym e)
      | inr n ↦ rw (holds_on (nearer B) (within B y) B.symbols (within_next B y) (within_grows B y) within_small k m x (omega arith) t)
          (chain_kept k m x (omega arith) t)
    ]

  pub reached_mem : (x y : ℕ) → Mem y (reached B x) → (y < B.symbols) × (within B y B.symbols x ≡ true)
  unfolding reached
  reached_mem x y m =
      let r = those_mem (λ z. within B z B.symbols x) y (below B.symbols) m in
      let c = count_up_mem zero B.symbols y r.0 in
      (omega arith, r.1)

  pub mem_reached : (x y : ℕ) → y < B.symbols → within B y B.symbols x ≡ true → Mem y (reached B x)
  unfolding reached
  mem_reached x y h t = mem_those (λ z. within B z B.symbols x) y (below B.symbols) (mem_below B.symbols y h) t

  pub chain_leads : (x y : ℕ) → Mem y (reached B x) → UnitChain B x (chosen_chain B x y) y
  unfolding chosen_chain
  chain_leads x y m = chain_in_leads B y B.symbols x (reached_mem x y m).1

  -- the rest of a chosen chain is the chosen chain from where its first step leads
  chain_rest_in : (y : ℕ) → y < B.symbols → (k x : ℕ) (s : ChainStep) (c : List ChainStep) → k ≤ B.symbols → within B y k x ≡ true → chosen_chain_in B y k x ≡ s ∷ c
      → Mem s (steps B x) × (within B y B.symbols s.to ≡ true) × (c ≡ chosen_chain B s.to y)
  unfolding chosen_chain_in within chosen_chain
  chain_rest_in y h zero x s c l t e = absurd (let z : ◌≡◌ {A = ℕ} 0 1 = cc in omega arith)
  chain_rest_in y h (suc k) x s c l t e =
      let p : ChainStep → Bool = λ s. within B y k s.to in
      let g = first_step B y k x in
      (elim (within B y k x) as (λ b. within B y k x ≡ b → (b || some_of p (steps B x)) ≡ true → cond b (chosen_chain_in B y k x) (g ∷ chosen_chain_in B y k g.to) ≡ s ∷ c
      → Mem s (steps B x) × (within B y B.symbols s.to ≡ true) × (c ≡ chosen_chain B s.to y)) [
        | true ↦ λ i t' e'. chain_rest_in y h k x s c (omega arith) i e'
        | false ↦ λ i t' e'.
            let r = first_from p (unit_step x zero nothing x) (steps B x) t' in
            let gs : g ≡ s = cc in
            let cs : chosen_chain_in B y k g.to ≡ c = cc in
            let w : within B y k s.to ≡ true = subst (λ z. within B y k z.to ≡ true) gs r.1 in (
              subst (λ z. Mem z (steps B x)) gs r.0,
              holds_on (nearer B) (within B y) B.symbols (within_next B y) (within_grows B y) (within_small y h) k B.symbols s.to (omega arith) w,
              sym cs ∙ ap (λ z. chosen_chain_in B y k z.to) gs ∙ sym (chain_kept y h k B.symbols s.to (omega arith) w),
            )
      ]) refl t e

  pub chain_rest : (x y : ℕ) (s : ChainStep) (c : List ChainStep) → Mem y (reached B x) → chosen_chain B x y ≡ s ∷ c
      → Mem s (steps B x) × Mem y (reached B s.to) × (c ≡ chosen_chain B s.to y)
  unfolding chosen_chain
  chain_rest x y s c m e =
      let q = reached_mem x y m in
      let r = chain_rest_in y q.0 B.symbols x s c (omega arith) q.1 e in
      (r.0, mem_reached s.to y q.0 r.1, r.2)

  -- what is reached from where a step leads is reached
  pub reached_step : (x : ℕ) (s : ChainStep) (y : ℕ) → Mem s (steps B x) → within B y B.symbols s.to ≡ true → y < B.symbols → within B y B.symbols x ≡ true
  reached_step x s y m t h = within_step y h x s m t

  -- a chosen chain has the fewest steps
  pub chain_in_length : (y k x : ℕ) → length (chosen_chain_in B y k x) ≤ k
  unfolding chosen_chain_in
  chain_in_length y zero x = omega arith
  chain_in_length y (suc k) x = (elim (within B y k x) as (λ b. length (cond b (chosen_chain_in B y k x) (first_step B y k x ∷ chosen_chain_in B y k (first_step B y k x).to)) ≤ suc k)
      [ true ↦ omega (arith, chain_in_length y k x) | false ↦ omega (arith, chain_in_length y k (first_step B y k x).to) ])

  pub within_length : (y : ℕ) (x : ℕ) (c : List ChainStep) → UnitChain B x c y → within B y (length c) x ≡ true
  within_length y x [] e = rw e (within_self B y 0)
  within_length y x (s ∷ c) h =
      ap (λ g. g x) (within_next B y (length c))
      ∙ or_right (within B y (length c) x) _ (some_from (λ (s : ChainStep). within B y (length c) s.to) s (steps B x)
      (subst (λ z. Mem s (steps B z)) h.0 (lead_steps B s.from s.number s.dropped s.to h.1)) (within_length y s.to c h.2))

  pub chain_fewest : (x y : ℕ) (c : List ChainStep) → y < B.symbols → UnitChain B x c y → length (chosen_chain B x y) ≤ length c
  unfolding chosen_chain
  chain_fewest x y c h l = elim (cases_lt (length c) B.symbols) [
    | inl g ↦ rw (chain_kept y h (length c) B.symbols x (omega arith) (within_length y x c l)) (chain_in_length y (length c) x)
    | inr g ↦ omega (arith, chain_in_length y B.symbols x)
  ]
