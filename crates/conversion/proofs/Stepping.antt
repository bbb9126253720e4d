-- Unit steps rule by rule, and the steps of one symbol among them.
use Rattle.std.proofs.Common.{◌≡◌, ℕ, zero, Bool, true, false, cond, eqb, List, [], ◌∷◌, ◌++◌, refl, ap, ◌∙◌, ap₂}
use Rattle.std.proofs.lemmas.Bool.{eqb-true}
use Rattle.grammar.specs.Lists.{those, each}
use Rattle.grammar.proofs.Lists.{those_append}
use Rattle.grammar.specs.Binarised.{Right as RightSide, empty, unit, binary, terminal, Rule, Binarised, OwnRule, rules_in, rules_of}
use Rattle.grammar.specs.Nullable.{nullable}
use Rattle.grammar.specs.Chains.{Dropped as Drop, nothing, the_right, the_left, ChainStep, unit_step, steps_by, steps}
use Rattle.conversion.specs.Rounds.{all_steps}

-- a step begins at x
abbrev pub starts : ℕ → ChainStep → Bool
starts x s = eqb s.from x

module _ (b : ℕ → Bool) (l x n : ℕ) where
  maybe_starts : (c : Bool) (d : Drop) (y : ℕ) → those (starts x) (cond c (unit_step l n d y ∷ []) []) ≡ cond (eqb l x) (cond c (unit_step l n d y ∷ []) []) []
  maybe_starts true d y = refl
  maybe_starts false d y = (elim (eqb l x) as (λ e. ◌≡◌ {A = List ChainStep} [] (cond e [] [])) [ true ↦ refl | false ↦ refl ])

  -- the steps of a rule begin at its symbol
  steps_start : (o : RightSide) → those (starts x) (steps_by b l n o) ≡ cond (eqb l x) (steps_by b l n o) []
  steps_start empty = maybe_starts false nothing zero
  steps_start (unit y) = maybe_starts true nothing y
  steps_start (binary y z) =
      those_append (starts x) (cond (b z) (unit_step l n (the_right z) y ∷ []) []) (cond (b y) (unit_step l n (the_left y) z ∷ []) [])
      ∙ ap₂ (λ (p q : List ChainStep). p ++ q) (maybe_starts (b z) (the_right z) y) (maybe_starts (b y) (the_left y) z)
      ∙ (elim (eqb l x) as (λ e. cond e (cond (b z) (unit_step l n (the_right z) y ∷ []) []) [] ++ cond e (cond (b y) (unit_step l n (the_left y) z ∷ []) []) []
      ≡ cond e (cond (b z) (unit_step l n (the_right z) y ∷ []) [] ++ cond (b y) (unit_step l n (the_left y) z ∷ []) []) [])
      [ true ↦ refl | false ↦ refl ])
  steps_start (terminal p) = maybe_starts false nothing zero

own_steps_in : (b : ℕ → Bool) (x : ℕ) (rs : List Rule) → those (starts x) (each (λ (r : Rule). steps_by b r.left r.number r.right) rs)
    ≡ each (λ (o : OwnRule). steps_by b x o.0 o.1) (rules_in x rs)
own_steps_in b x [] = refl
own_steps_in b x (r ∷ rs) =
    those_append (starts x) (steps_by b r.left r.number r.right) _
    ∙ ap₂ (λ (p q : List ChainStep). p ++ q) (steps_start b r.left x r.number r.right) (own_steps_in b x rs)
    ∙ (elim (eqb r.left x) as (λ e. eqb r.left x ≡ e → cond e (steps_by b r.left r.number r.right) [] ++ each f (rules_in x rs)
    ≡ each f (cond e ((r.number, r.right) ∷ rules_in x rs) (rules_in x rs))) [
      | true ↦ λ t. ap (λ z. steps_by b z r.number r.right ++ each f (rules_in x rs)) (eqb-true r.left x t)
      | false ↦ λ t. refl
    ]) refl
  where
    f : OwnRule → List ChainStep
    f o = steps_by b x o.0 o.1

-- the steps from x among all, in order
pub own_steps : (B : Binarised) (x : ℕ) → those (starts x) (all_steps B) ≡ steps B x
unfolding steps rules_of
own_steps B x = own_steps_in (nullable B) x B.rules
