-- The test of a table of patterns.
use Rattle.std.proofs.Common.{◌≡◌, ℕ, zero, suc, ◌<◌, ◌≤◌, Bool, true, false, T, List, [], ◌∷◌, length, get_or, Bor, Some, None, Option, sym, refl, ap, ◌∙◌, subst, arith}
use Rattle.std.specs.Prelude.{IfSome, MatchOption}
use Rattle.std.specs.List.{HoldsAt}
use Rattle.book.specs.Fits.{Tests, FitsAt, TestsTable, table_fits, IsFitAnswer}

yes_is : (b : Bool) → T b → b ≡ true
yes_is true h = refl
yes_is false h = absurd h

is_yes : (b : Bool) → b ≡ true → T b
is_yes b h = subst T (sym h) tt

pub table_at : {P E : Type 0} (test : P → E → Bool) (ps : List P) (e : E) (t : ℕ) (d : P) → t < length ps → table_fits test ps e t ≡ test (get_or ps t d) e
table_at test [] e t d h = absurd (omega arith)
table_at test (p ∷ ps) e zero d h = refl
table_at test (p ∷ ps) e (suc t) d h = table_at test ps e t d (omega arith)

pub table_past : {P E : Type 0} (test : P → E → Bool) (ps : List P) (e : E) (t : ℕ) → length ps ≤ t → table_fits test ps e t ≡ false
table_past test [] e t h = refl
table_past test (p ∷ ps) e zero h = absurd (omega arith)
table_past test (p ∷ ps) e (suc t) h = table_past test ps e t (omega arith)

module _ {P E : Type 0} (fits : P → E → Type 0) (test : P → E → Bool) (tested : Tests fits test) where
  yes_fits : (ps : List P) (e : E) (t : ℕ) → table_fits test ps e t ≡ true → FitsAt fits ps t e
  yes_fits [] e t y = absurd (subst T (sym y) tt)
  yes_fits (p ∷ ps) e zero y = (omega arith, λ d. (tested p e).0 (is_yes _ y))
  yes_fits (p ∷ ps) e (suc t) y = let f = yes_fits ps e t y in (omega (arith, f.0), f.1)

  fits_yes : (ps : List P) (e : E) (t : ℕ) → FitsAt fits ps t e → table_fits test ps e t ≡ true
  fits_yes [] e t f = absurd (omega (arith, f.0))
  fits_yes (p ∷ ps) e zero f = yes_is _ ((tested p e).1 (f.1 p))
  fits_yes (p ∷ ps) e (suc t) f = fits_yes ps e t (omega (arith, f.0), f.1)

  -- the test of a table says yes exactly of what fits there
  pub tests_table : (ps : List P) → TestsTable fits ps (table_fits test ps)
  tests_table ps e t = (yes_fits ps e t, fits_yes ps e t)

  answer_same : (ps : List P) (t : ℕ) (e : E) (r : Bool) (o : Option (Bor P)) → IfSome o (λ p. p.now ≡ get_or ps t p.now)
      → MatchOption o (length ps ≤ t) (λ p. (t < length ps) × HoldsAt (λ q. p.now ≡ q) ps t) → MatchOption o (r ≡ false) (λ p. r ≡ test p.now e) → r ≡ table_fits test ps e t
  answer_same ps t e r None is h n = n ∙ sym (table_past test ps e t h)
  answer_same ps t e r (Some p) is h n = n ∙ ap (λ q. test q e) is ∙ sym (table_at test ps e t p.now h.0)

  -- the answer at what stands in the place, if anything does
  pub answer_is : (ps : List P) (t : ℕ) (e : E) (r : Bool) (o : Option (Bor P)) → IfSome o (λ p. p.now ≡ get_or ps t p.now)
      → MatchOption o (length ps ≤ t) (λ p. (t < length ps) × HoldsAt (λ q. p.now ≡ q) ps t) → MatchOption o (r ≡ false) (λ p. r ≡ test p.now e) → IsFitAnswer fits test ps t e r
  answer_is ps t e r o is h n =
      let same = answer_same ps t e r o is h n in
      record { means = ((λ y. yes_fits ps e t (sym same ∙ y)), (λ f. same ∙ fits_yes ps e t f)); is = same }
