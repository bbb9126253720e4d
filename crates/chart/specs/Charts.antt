-- The chart of a list of events, in a table of weights.
use Rattle.std.specs.Prelude.{◌≡◌, ℕ, ◌+◌, ◌-◌, ◌<◌, ◌≤◌, Bool, List, length}
use Rattle.grammar.specs.{Lists.span, Semiring.Ops, Productions.Book, Binarise.binarised, Weights.cell_of}
use Rattle.chart.specs.Table.{column_place, cell_place, cell_at}

-- the table holds the chart of these events: it is long enough, and each cell, of the events from start i up to event e, is the definition's
pub record HoldsChart {V E : Type 0} (W : Book) (M : Ops V) (fits : E → ℕ → Bool) (es : List E) (table : List V) : Type 0 where
  pub room : column_place (binarised W).symbols (length es + 1) ≤ length table
  pub cells : (e i x : ℕ) → 0 < e → e ≤ length es → i < e → x < (binarised W).symbols
      → cell_at M table (cell_place (binarised W).symbols e i) x ≡ cell_of W M fits x (span es i (e - i))
