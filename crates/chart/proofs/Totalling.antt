-- Feeds and totals, from what the table holds.
use Rattle.std.proofs.Common.{◌≡◌, ℕ, ◌+◌, ◌-◌, ◌<◌, ◌≤◌, Bool, List, [], ◌∷◌, length, get_or, sym, refl, ap, ◌∙◌, subst, zero-mul, arith}
use Rattle.std.proofs.lemmas.Bool.Decides.{nat_tests}
use Rattle.std.proofs.lemmas.List.{take_all, nil_from_length}
use Rattle.grammar.specs.Semiring.{Ops, Semiring}
use Rattle.grammar.specs.Productions.{Book, Sound}
use Rattle.grammar.specs.Binarise.{binarised}
use Rattle.grammar.specs.Weights.{cell_of, total_of}
use Rattle.grammar.proofs.Binarise.{one_to_one}
use Rattle.grammar.proofs.Chart.{span_equations}
use Rattle.grammar.proofs.Totals.{sums_plain, sums_all}
use Rattle.chart.specs.Table.{column_place, cell_place, SameOutside}
use Rattle.chart.specs.Charts.{HoldsChart}
use Rattle.chart.specs.Feeds.{feed_refusal}
use Rattle.chart.specs.Totals.{TotalIs}

pub no_refusal : (S m n : ℕ) → n < 256 → column_place S (n + 2) ≤ m → feed_refusal S m n ≡ 0
no_refusal S m n h l = grind (arith, nat_tests)

-- a column by other names of its event and its symbols
pub outside_as : {V : Type 0} (d : V) (s S n k : ℕ) (was is : List V) → s ≡ S → n ≡ k
    → SameOutside d (column_place s (n + 1)) (column_place s (n + 1 + 1)) was is → SameOutside d (column_place S (k + 1)) (column_place S (k + 2)) was is
outside_as d s S n k was is p q =
    let next : n + 1 + 1 ≡ n + 2 = omega arith in
    λ out. subst (λ j. SameOutside d (column_place S (j + 1)) (column_place S (j + 2)) was is) q
    (subst (λ t. SameOutside d (column_place t (n + 1)) (column_place t (n + 2)) was is) p (subst (λ j. SameOutside d (column_place s (n + 1)) (column_place s j) was is) next out))

module _ {V E : Type 0} (W : Book) (sound : Sound W) (M : Ops V) (L : Semiring M) (fits : E → ℕ → Bool) where
  pub total_is : (es : List E) (r : V) → r ≡ total_of W M fits es → TotalIs W M fits es r
  total_is es r e = record {
    is_total = e;
    plain = sums_plain M L E W sound fits es;
    whole = λ proper. sums_all M L E W sound proper fits es;
    forms = one_to_one E W sound fits 0 es (omega arith);
    equations = span_equations M L E W fits es;
  }

  -- without events it is the total of nothing
  pub total_nothing : (es : List E) (r : V) → length es ≡ 0 → r ≡ total_of W M fits [] → r ≡ total_of W M fits es
  total_nothing es r n e = e ∙ ap (total_of W M fits) (sym (nil_from_length es n))

  cell_total : (es : List E) → 0 < length es → cell_of W M fits 0 es ≡ total_of W M fits es
  cell_total [] h = absurd (omega arith)
  cell_total (e ∷ es) h = refl

  -- with events it is head 0's weight over all of them
  pub total_cell : (es : List E) (table : List V) (s n place : ℕ) (r : V) → s ≡ (binarised W).symbols → 0 < (binarised W).symbols → length es ≡ n → 0 < n → place ≡ column_place s n
      → HoldsChart W M fits es table → r ≡ get_or table place M.zero → r ≡ total_of W M fits es
  total_cell es table s n place r q some m h p chart e =
      let S = (binarised W).symbols in
      let at : place ≡ cell_place S n 0 + 0 = p ∙ ap (λ t. column_place t n) q ∙ omega (arith, zero-mul S) in
      let all : n - 0 ≡ length es = omega arith in
      e ∙ ap (λ k. get_or table k M.zero) at ∙ chart.cells n 0 0 h (omega arith) h some
      ∙ ap (cell_of W M fits 0) (take_all (n - 0) es (omega arith)) ∙ cell_total es (omega arith)
