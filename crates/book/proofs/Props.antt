-- There is at most one proof that a book is sound, so that a fact of which only the existence is kept can be used.
use Rattle.std.proofs.Common.{List, [], ◌∷◌}
use Rattle.std.proofs.Props.{props}
use mathlib.Core.Logic.{∥∥₁_elim}
use Rattle.grammar.specs.Lists.{Sorted}
use Rattle.grammar.specs.Productions.{Production, Book, SameRule}
use Rattle.grammar.specs.Binarise.{Admitted}

different_prop : (ps : List Production) → IsProp (Sorted (λ p q. SameRule p q → ⊥) ps)
different_prop [] = Prim.hlevel props
different_prop (p ∷ ps) = Prim.hlevel (props, different_prop ps)

pub admitted_prop : (W : Book) → IsProp (Admitted W)
admitted_prop W = Prim.hlevel (props, different_prop W.productions)

-- what is kept of a book
pub admitted_of : (W : Book) → ∥ Admitted W ∥₁ → Admitted W
admitted_of W t = ∥∥₁_elim t (admitted_prop W) (λ a. a)
