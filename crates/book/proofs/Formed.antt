-- There is at most one proof that a form is the strict form of a book, so that a form of which only the existence of one is kept can be used.
use Rattle.std.proofs.Common.{◌≡◌, ℕ, suc, true, false, Some, None, Option, arith}
use Rattle.std.proofs.Props.{props}
use mathlib.Core.Logic.{∥∥₁_elim}
use mathlib.Core.HLevel.{is_prop→PathP}
use Rattle.grammar.specs.Productions.{Book}
use Rattle.grammar.specs.Binarised.{Binarised}
use Rattle.grammar.specs.Binarise.{binarised}
use Rattle.grammar.specs.Chains.{within, first_step}
use Rattle.conversion.specs.declared.form.StrictForm.{StrictForm}
use Rattle.conversion.specs.declared.nullable.Brought.{Brought}
use Rattle.conversion.specs.declared.chain.UnitStep.{UnitStep}
use Rattle.conversion.specs.declared.chain.Chain.{Chain}
use Rattle.conversion.specs.declared.chain.Chain.TheVariants.{Empty, Steps}
use Rattle.conversion.specs.Views.{step_of}
use Rattle.conversion.specs.Held.{BroughtIn}
use Rattle.conversion.specs.Linked.{Shortest, Chosen}
use Rattle.conversion.specs.Forms.{FormOf}

module _ (B : Binarised) where
  brought_prop : (x : ℕ) (o : Option Brought) → IsProp (BroughtIn B x o)
  brought_prop x None = Prim.hlevel props
  brought_prop x (Some b) = Prim.hlevel props

  -- what is said of the number of the other steps
  rest_prop : (x y k : ℕ) (s : UnitStep) (j : ℕ) → IsProp ((k ≡ suc j) × (within B y j x ≡ false) × (within B y (suc j) x ≡ true) × (step_of s ≡ first_step B y j x))
  rest_prop x y k s j = Prim.hlevel props

  shortest_prop : (x y k : ℕ) (s : UnitStep) → IsProp (Shortest B x y k s)
  shortest_prop x y k s a b =
      let p : a.0 ≡ b.0 = omega (arith, a.1, b.1) in
      let q = is_prop→PathP (λ i. (k ≡ suc (p i)) × (within B y (p i) x ≡ false) × (within B y (suc (p i)) x ≡ true) × (step_of s ≡ first_step B y (p i) x))
      (λ i. rest_prop x y k s (p i)) (a.1, a.2, a.3, a.4) (b.1, b.2, b.3, b.4) in
      λ i. (p i, (q i).0, (q i).1, (q i).2, (q i).3)

  chosen_prop : (x y : ℕ) (o : Option Chain) → IsProp (Chosen B x y o)
  chosen_prop x y None = Prim.hlevel props
  chosen_prop x y (Some Empty) = Prim.hlevel props
  chosen_prop x y (Some (Steps k s)) = Prim.hlevel (props, shortest_prop x y k s)

form_prop : (W : Book) (f : StrictForm) → IsProp (FormOf W f)
form_prop W f = Prim.hlevel (props, brought_prop (binarised W), chosen_prop (binarised W))

-- what is kept of a closed book
pub form_of : (W : Book) (f : StrictForm) → ∥ FormOf W f ∥₁ → FormOf W f
form_of W f t = ∥∥₁_elim t (form_prop W f) (λ a. a)
