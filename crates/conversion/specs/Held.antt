-- What a table of nullable symbols says.
use Rattle.std.specs.Prelude.{◌≡◌, ℕ, suc, Bool, true, false, Some, None, Option, slice_index_or}
use Rattle.grammar.specs.{Binarised.Binarised, Nullable.nullable_after, Nullable.nullable, Nullable.first_ready}
use Rattle.conversion.specs.Views.{right_side_of}
use Rattle.conversion.specs.declared.{nullable.Brought.Brought, nullable.Nullable.Nullable}

-- its round brought x in, by the first rule of x whose right side was made of symbols held before
abbrev pub Brings : Binarised → ℕ → Brought → Type 0
Brings B x b = (nullable_after B b.round x ≡ false) × (nullable_after B (suc b.round) x ≡ true) × ((b.number, right_side_of b.right) ≡ first_ready B (nullable_after B b.round) x)

-- where x is held, what brought it in; else nothing
abbrev pub BroughtWhere : Binarised → Bool → ℕ → Option Brought → Type 0
BroughtWhere B h x None = h ≡ false
BroughtWhere B h x (Some b) = (h ≡ true) × Brings B x b

-- where x is nullable, what brought it in; else nothing
abbrev pub BroughtIn : Binarised → ℕ → Option Brought → Type 0
BroughtIn B x o = BroughtWhere B (nullable B x) x o

-- the table of the nullable symbols
abbrev pub Nullables : Binarised → Nullable → Type 0
Nullables B n = (x : ℕ) → BroughtIn B x (slice_index_or n.brought x None)
