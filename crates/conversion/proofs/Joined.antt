-- What the book says of its binarised rules.
use Rattle.std.proofs.Common.{◌≡◌, sym, subst}
use Rattle.grammar.specs.Productions.{Book, Sound}
use Rattle.grammar.specs.Binarised.{Binarised}
use Rattle.grammar.specs.Binarise.{binarised}
use Rattle.grammar.proofs.BinarisedRules.{binarised_within}
use Rattle.conversion.specs.declared.binarised.BinarisedRules.{BinarisedRules}
use Rattle.conversion.specs.Binarised.{grammar_of}
use Rattle.conversion.specs.Rounds.{EndsBelow}
use Rattle.conversion.proofs.Walking.{ends_below}

-- where these are the binarised rules of a sound book, each unit step leads to one of their symbols
pub ends : (W : Book) (b : BinarisedRules) → grammar_of b ≡ binarised W → Sound W → EndsBelow (grammar_of b)
ends W b is sound = subst (λ (G : Binarised). EndsBelow G) (sym is) (ends_below (binarised W) W.patterns (binarised_within W sound))
