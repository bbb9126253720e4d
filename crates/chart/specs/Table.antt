-- Where the weights of a chart lie in its table of S symbols a cell, and what is written there.
use Rattle.std.specs.Prelude.{◌≡◌, ℕ, ◌+◌, ◌*◌, ◌<◌, ◌≤◌, ◌⊎◌, List, slice_index_or}
use Rattle.grammar.specs.Semiring.{Ops}
pub use Rattle.grammar.specs.Cells.{column_place}

-- where the cell of start i begins in the column of event e
abbrev pub cell_place : ℕ → ℕ → ℕ → ℕ
cell_place S e i = column_place S e + i * S

-- every place outside a ≤ j < b is as it was
abbrev pub SameOutside : {V : Type 0} → V → ℕ → ℕ → List V → List V → Type 0
SameOutside d a b was is = (j : ℕ) → (j < a) ⊎ (b ≤ j) → slice_index_or is j d ≡ slice_index_or was j d

-- the cell at a place, by symbol
abbrev pub cell_at : {V : Type 0} → Ops V → List V → ℕ → ℕ → V
cell_at M table place x = slice_index_or table (place + x) M.zero
