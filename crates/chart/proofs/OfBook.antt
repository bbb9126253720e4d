-- What a closed book, and what is made of it, says of its strict rules.
use Rattle.std.proofs.Common.{◌≡◌, ℕ, ◌≤◌, List, map, length}
use Rattle.std.proofs.Props.{props}
use mathlib.Core.Logic.{∥∥₁_elim}
use base.Stored.{Coded, Coded-set}
use Rattle.grammar.specs.Semiring.{Ops}
use Rattle.grammar.specs.Productions.{Book, Sound}
use Rattle.grammar.specs.Binarise.{binarised}
use Rattle.grammar.specs.Strict.{strict_rules}
use Rattle.conversion.specs.Views.{strict_rule_of}
use Rattle.book.specs.declared.rules.Rules.{Rules}
use Rattle.book.specs.declared.alphabet.Alphabet.{Ghosts}
use Rattle.book.specs.declared.books.ClosedBook.{ClosedBook}
use Rattle.book.specs.Books.{closed_book}
use Rattle.book.proofs.Props.{admitted_of}
use Rattle.chart.specs.declared.weighed.WeighedRule.{WeighedRule}
use Rattle.chart.specs.Weights.{rules_book, NullableWeights, Weighs}

pub rules_sound : (r : Rules) → Sound (rules_book r)
rules_sound r = (admitted_of (rules_book r) r.admitted).sound

pub rules_few : (r : Rules) → length (strict_rules (binarised (rules_book r))) ≤ 1024
rules_few r = (admitted_of (rules_book r) r.admitted).few_strict

pub book_sound : {A E P : Type 0} {G : Ghosts A E P} (b : ClosedBook A E P G) → Sound (closed_book b)
book_sound b = rules_sound b.converted.rules

-- facts of which a type keeps only the existence, as they are
module _ {V : Type 0} (code : Coded V) (M : Ops V) (W : Book) where
  same_rules : (rs : List (WeighedRule V)) (p q : map (λ (r : WeighedRule V). strict_rule_of r.rule) rs ≡ strict_rules (binarised W)) → p ≡ q
  same_rules rs p q = Prim.hlevel props

  weighs_prop : (rs : List (WeighedRule V)) (a b : Weighs M W rs) → a ≡ b
  weighs_prop rs a b = λ i. record {
    rules = same_rules rs a.rules b.rules i;
    weights = λ r m. Coded-set code _ _ (a.weights r m) (b.weights r m) i;
  }

  pub weighs_of : (rs : List (WeighedRule V)) → ∥ Weighs M W rs ∥₁ → Weighs M W rs
  weighs_of rs t = ∥∥₁_elim t (weighs_prop rs) (λ w. w)

  pub nullable_of : (f : ℕ → V) → ∥ NullableWeights M W f ∥₁ → NullableWeights M W f
  nullable_of f t = ∥∥₁_elim t (λ a b. λ i. λ x h. Coded-set code _ _ (a x h) (b x h) i) (λ w. w)
