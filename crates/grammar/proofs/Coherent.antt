-- Below the first step of its chain the derivation taken is the one taken there.
use Rattle.std.proofs.Common.{◌≡◌, ℕ, zero, Bool, true, false, cond, ◌||◌, List, [], ◌∷◌, map, sym, refl, ap, ◌∙◌, subst, inl, inr, arith}
use Rattle.std.proofs.lemmas.Bool.{cases_Bool, both_ways}
use Rattle.grammar.specs.Lists.{Mem, First, some_of, those, each, below}
use Rattle.grammar.specs.Binarised.{Right, Binarised, OwnRule, rules_of, Bounded, Tree, fork, leaf}
use Rattle.grammar.specs.Chains.{ChainStep, chosen_chain, within, reached}
use Rattle.grammar.specs.Strict.{StrictFormRule, strict_rules_of, strict_rule, proper}
use Rattle.grammar.specs.Taken.{step_over, chain_over, rule_fits, Takes, takes_terminal, takes_binary}
use Rattle.grammar.proofs.Lists.{count_up_mem}
use Rattle.grammar.proofs.Chains.{reached_mem, chain_rest, reached_step}
use Rattle.grammar.proofs.Taken.{first_mem, first_append, first_left, first_right, strict_head}

-- the same rule, at another symbol
abbrev pub moved : ℕ → StrictFormRule → StrictFormRule
moved x r = record { symbol = x; end = r.end; number = r.number; right = r.right }

module _ (q : Right → Bool) (own_of_lem : ℕ → List OwnRule) where
  abbrev test : StrictFormRule → Bool
  test r = q r.right

  abbrev group : ℕ → ℕ → List StrictFormRule
  group x y = map (strict_rule x y) (own_of_lem y)

  group_none : (x x' y : ℕ) (os : List OwnRule) → some_of test (map (strict_rule x y) os) ≡ some_of test (map (strict_rule x' y) os)
  group_none x x' y [] = refl
  group_none x x' y (o ∷ os) = ap (λ b. q o.1 || b) (group_none x x' y os)

  group_first : (x x' y : ℕ) (os : List OwnRule) (r : StrictFormRule) → First test (map (strict_rule x y) os) r
      → First test (map (strict_rule x' y) os) (moved x' r) × (r.end ≡ y)
  group_first x x' y [] r f = absurd f
  group_first x x' y (o ∷ os) r (inl f) = (inl (f.0, ap (moved x') f.1), ap (λ z. z.end) f.1)
  group_first x x' y (o ∷ os) r (inr f) = let i = group_first x x' y os r f.1 in (inr (f.0, i.0), i.1)

  -- fewer symbols, and the first that fits among them: it is the first still
  first_fewer : (x x' : ℕ) (P P' : ℕ → Bool) (zs : List ℕ) → ((z : ℕ) → Mem z zs → P' z ≡ true → P z ≡ true) → (r : StrictFormRule) → P' r.end ≡ true
      → First test (each (group x) (those P zs)) r → First test (each (group x') (those P' zs)) (moved x' r)
  first_fewer x x' P P' [] sub r h f = f
  first_fewer x x' P P' (z ∷ zs) sub r h f = elim (cases_Bool (P z)) [
    | inl t ↦ elim (first_append test (group x z) (each (group x) (those P zs)) r (rw t at f)) [
      | inl g ↦ let i = group_first x x' z (own_of_lem z) r g in
          rw (subst (λ k. P' k ≡ true) i.1 h) (first_left test (group x' z) (each (group x') (those P' zs)) (moved x' r) i.0)
      | inr g ↦
          let ih = first_fewer x x' P P' zs (λ y m. sub y (inr m)) r h g.1 in
          (elim (P' z) as (λ b. First test (each (group x') (cond b (z ∷ those P' zs) (those P' zs))) (moved x' r)) [
            | true ↦ first_right test (group x' z) (each (group x') (those P' zs)) (moved x' r) (sym (group_none x x' z (own_of_lem z)) ∙ g.0) ih
            | false ↦ ih
          ])
    ]
    | inr t ↦ rw (not_there t) (first_fewer x x' P P' zs (λ y m. sub y (inr m)) r h (rw t at f))
  ]
    where
      not_there : P z ≡ false → P' z ≡ false
      not_there t = elim (cases_Bool (P' z)) [ inl e ↦ absurd (both_ways (P z) t (sub z (inl refl) e)) | inr e ↦ e ]

module _ (B : Binarised) (bounded : Bounded B) {E : Type 0} (fits : E → ℕ → Bool) where
  -- the first strict rule that fits at x is, at the end of the chain's first step, the first that fits there
  pub first_below : (x : ℕ) (w : List E) (r : StrictFormRule) (s : ChainStep) (c : List ChainStep) → First (rule_fits B fits w) (strict_rules_of B x) r
      → chosen_chain B x r.end ≡ s ∷ c → First (rule_fits B fits w) (strict_rules_of B s.to) (moved s.to r)
  unfolding strict_rules_of reached
  first_below x w r s c f e =
      let m = strict_head B fits x r (first_mem (rule_fits B fits w) (strict_rules_of B x) r f).0 in
      let k = chain_rest B bounded x r.end s c m.1 e in
      first_fewer (λ b. rule_fits B fits w (record { symbol = 0; end = 0; number = 0; right = b })) (λ y. those (λ (o : OwnRule). proper o.1) (rules_of B y)) x s.to
      (λ y. within B y B.symbols x) (λ y. within B y B.symbols s.to) (below B.symbols)
      (λ z i t. reached_step B bounded x s z k.0 t (let j = count_up_mem zero B.symbols z i in omega arith))
      r (reached_mem B bounded s.to r.end k.1).1 f

  -- so the derivation taken there is what stands below that step
  pub reading_below : (x : ℕ) (t : Tree) (w : List E) → Takes B fits x t w
      → (r : StrictFormRule) × First (rule_fits B fits w) (strict_rules_of B x) r
      × ((s : ChainStep) (c : List ChainStep) → chosen_chain B x r.end ≡ s ∷ c
      → (t' : Tree) × Takes B fits s.to t' w × (t ≡ step_over B s.from s.number s.dropped t'))
  reading_below x t w (takes_terminal r f q) = (
    r,
    f,
    λ s c e.
        let m = strict_head B fits x r (first_mem (rule_fits B fits w) (strict_rules_of B x) r f).0 in
        let k = chain_rest B bounded x r.end s c m.1 e in (
          chain_over B (chosen_chain B s.to r.end) (leaf r.end r.number),
          takes_terminal (moved s.to r) (first_below x w r s c f e) q,
          ap (λ l. chain_over B l (leaf r.end r.number)) (e ∙ ap (λ l. s ∷ l) k.2),
        ),
  )
  reading_below x t w (takes_binary {s = s'} {t = t'} r c' f q g d d') = (
    r,
    f,
    λ s c e.
        let m = strict_head B fits x r (first_mem (rule_fits B fits w) (strict_rules_of B x) r f).0 in
        let k = chain_rest B bounded x r.end s c m.1 e in (
          chain_over B (chosen_chain B s.to r.end) (fork r.end r.number s' t'),
          takes_binary (moved s.to r) c' (first_below x w r s c f e) q g d d',
          ap (λ l. chain_over B l (fork r.end r.number s' t')) (e ∙ ap (λ l. s ∷ l) k.2),
        ),
  )
