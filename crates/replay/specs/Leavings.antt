-- What a chart's calls leave in its table of weights: each place of it is known from the calls' arguments and from what stood there before.
use Rattle.std.specs.Prelude.{◌≡◌, ℕ, ◌+◌, ◌-◌, ◌<◌, ◌≤◌, Bool, List, length, take, slice_index_or}
use Rattle.grammar.specs.Lists.{span}
use Rattle.grammar.specs.Semiring.{Ops}
use Rattle.grammar.specs.Productions.{Book}
use Rattle.grammar.specs.Binarise.{binarised}
use Rattle.grammar.specs.Weights.{cell_of}
use Rattle.chart.specs.Runs.{ChartCall, held_events}
use Rattle.chart.specs.Table.{column_place, cell_place, cell_at}

-- the events held after the first k of these calls on a new chart in a table of m weights, S to a cell
abbrev pub held_by : {E : Type 0} → ℕ → ℕ → List (ChartCall E) → ℕ → List E
held_by S m calls k = held_events S m (take k calls)

-- what these calls on a new chart leave where `was` stood before: the column of event e as in the chart of the events held when as many as e
-- were held for the last time; each place of no column that was ever held as before
pub record Leaves {V E : Type 0} (W : Book) (M : Ops V) (fits : E → ℕ → Bool) (calls : List (ChartCall E)) (was is : List V) : Type 0 where
  pub columns : (k e i x : ℕ) → k ≤ length calls → e ≤ length (held_by (binarised W).symbols (length was) calls k)
      → ((n : ℕ) → k < n → n ≤ length calls → length (held_by (binarised W).symbols (length was) calls n) < e)
      → i < e → x < (binarised W).symbols
      → cell_at M is (cell_place (binarised W).symbols e i) x ≡ cell_of W M fits x (span (held_by (binarised W).symbols (length was) calls k) i (e - i))
  pub others : (j : ℕ) → ((k : ℕ) → k ≤ length calls → column_place (binarised W).symbols (length (held_by (binarised W).symbols (length was) calls k) + 1) ≤ j)
      → slice_index_or is j M.zero ≡ slice_index_or was j M.zero
