-- The table of chains, place by place.
use Rattle.std.proofs.Common.{◌≡◌, ℕ, ◌+◌, ◌<◌, ◌≤◌, Bool, true, false, cond, not, ◌&&◌, eqb, ltb, [], get_or, replicate, is_some, Some, None, Option, sym, refl, ap, ◌∙◌, subst, ap₂, inl, inr, arith}
use Rattle.std.proofs.lemmas.List.{get_or-replicate}
use Rattle.std.proofs.lemmas.Bool.{cases_Bool, cases_eq, cases_lt, cases_order, lt-ltb, le-ltb, eqb-true, eq-eqb, ne_eqb, and_left, and_right, cond-true, cond-false}
use Rattle.grammar.specs.Binarised.{Binarised}
use Rattle.grammar.specs.Chains.{within}
use Rattle.conversion.specs.Linked.{link, ChosenWhere, ChainsWithin}
use Rattle.conversion.specs.Rounds.{shorter}
use Rattle.conversion.specs.declared.chain.UnitStep.{UnitStep}
use Rattle.conversion.specs.declared.chain.Chain.{Chain}
use Rattle.conversion.specs.declared.chain.Chain.TheVariants.{Empty, Steps}
use Rattle.conversion.specs.declared.chain.Chains.{Chains}
use Rattle.conversion.proofs.Arrays.{outside}

-- the chain from x to y, with those of k steps that begin with s where there was none
abbrev pub extended : ℕ → UnitStep → Chains → ℕ → ℕ → Option Chain
extended k s c x y = cond (eqb s.from x && (not (is_some (link c x y)) && shorter k (link c s.to y))) (Some (Steps k s)) (link c x y)

-- a chain from past the table is absent
past_link : (c : Chains) (x y : ℕ) → 128 ≤ x → link c x y ≡ None
past_link c x y h = outside 128 c.links x y None (c.rows, c.columns) (inl h)

-- the turn of a step's loop over the ends: those below y are done
module _ (k : ℕ) (s : UnitStep) (c m n : Chains) (y : ℕ) (y< : y < 128) (t : Bool)
    (test : t ≡ (not (is_some (link m s.from y)) && shorter k (link m s.to y)))
    (done : (x z : ℕ) → x < 128 → z < 128 → link m x z ≡ cond (ltb z y) (extended k s c x z) (link c x z))
    (now-is : (x z : ℕ) → x < 128 → z < 128 → link n x z ≡ cond (t && (eqb x s.from && eqb z y)) (Some (Steps k s)) (link m x z)) where
  yet : (x : ℕ) → x < 128 → link m x y ≡ link c x y
  yet x a = done x y a y< ∙ cond-false (ltb y y) _ _ (le-ltb y y (omega arith))

  yet_all : (x : ℕ) → link m x y ≡ link c x y
  yet_all x = elim (cases_lt x 128) [ inl a ↦ yet x a | inr b ↦ past_link m x y b ∙ sym (past_link c x y b) ]

  -- the end y itself
  here : (x : ℕ) → x < 128 → link n x y ≡ extended k s c x y
  here x a = now-is x y a y< ∙ (elim (cases_eq x s.from) [
    | inr ne ↦ cond-false _ (Some (Steps k s)) _ (and_right t _ (and_left _ _ (ne_eqb x s.from ne))) ∙ yet x a
        ∙ sym (cond-false _ (Some (Steps k s)) _ (and_left _ _ (ne_eqb s.from x (λ e. ne (sym e)))))
    | inl e ↦ ap (λ b. cond (t && b) (Some (Steps k s)) (link m x y)) (ap₂ (λ p q. p && q) (eq-eqb x s.from e) (eq-eqb y y refl))
        ∙ ap₂ (λ b o. cond (b && true) (Some (Steps k s)) o) (test ∙ ap₂ (λ p q. not (is_some p) && shorter k q) (ap (λ z. link m z y) (sym e) ∙ yet x a) (yet_all s.to)) (yet x a)
        ∙ plain (not (is_some (link c x y)) && shorter k (link c s.to y))
        ∙ ap (λ b. cond (b && (not (is_some (link c x y)) && shorter k (link c s.to y))) (Some (Steps k s)) (link c x y)) (sym (eq-eqb s.from x (sym e)))
  ])
    where
      plain : (b : Bool) → cond (b && true) (Some (Steps k s)) (link c x y) ≡ cond (true && b) (Some (Steps k s)) (link c x y)
      plain true = refl
      plain false = refl

  pub extend_turn : (x z : ℕ) → x < 128 → z < 128 → link n x z ≡ cond (ltb z (y + 1)) (extended k s c x z) (link c x z)
  extend_turn x z a b = elim (cases_eq z y) [
    | inl e ↦ subst (λ w. link n x w ≡ cond (ltb w (y + 1)) (extended k s c x w) (link c x w)) (sym e)
        (here x a ∙ sym (cond-true (ltb y (y + 1)) _ _ (lt-ltb y (y + 1) (omega arith))))
    | inr ne ↦ now-is x z a b ∙ cond-false _ (Some (Steps k s)) _ (and_right t _ (and_right _ _ (ne_eqb z y ne))) ∙ done x z a b
        ∙ ap (λ w. cond w (extended k s c x z) (link c x z)) (same ne)
  ]
    where
      same : (z ≡ y → ⊥) → ltb z y ≡ ltb z (y + 1)
      same ne = elim (cases_lt z y) [
        | inl l ↦ lt-ltb z y l ∙ sym (lt-ltb z (y + 1) (omega arith))
        | inr g ↦ le-ltb z y g ∙ sym (le-ltb z (y + 1) (let h : y < z = strict g in omega arith))
      ]
        where
          strict : y ≤ z → y < z
          strict g = elim (cases_order z y)
              [ inl e ↦ absurd (ne e) | inr o ↦ elim o [ inl l ↦ absurd (omega arith) | inr l ↦ l ] ]

-- from each symbol to itself, and nowhere else
pub start_links : (B : Binarised) (c : Chains) → ((x y : ℕ) → x < 128 → y < 128 → link c x y ≡ cond (eqb x y) (Some Empty) None) → ChainsWithin B 0 c
unfolding within
start_links B c h x y a b = subst (λ o. ChosenWhere B (within B y 0 x) x y o) (sym (h x y a b)) (elim (cases_Bool (eqb x y)) [
  | inl t ↦ subst (λ v. ChosenWhere B (within B y 0 x) x y (cond v (Some Empty) None)) (sym t) (eqb-true x y t)
  | inr f ↦ subst (λ v. ChosenWhere B (within B y 0 x) x y (cond v (Some Empty) None)) (sym f) f
])

-- a table with no chain
pub none_links : (a b : ℕ) → a < 128 → b < 128 → get_or (get_or (replicate 128 (replicate 128 None)) a []) b None ≡ cond (eqb a b && ltb a 0) (Some Empty) None
none_links a b l m =
    ap (λ r. get_or r b None) (get_or-replicate 128 a (replicate 128 None) [] l) ∙ get_or-replicate 128 b None None m
    ∙ sym (cond-false _ (Some Empty) _ (and_right (eqb a b) _ (le-ltb a 0 (omega arith))))
