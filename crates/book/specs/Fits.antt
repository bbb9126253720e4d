-- Which pattern fits which event.
use Rattle.std.specs.Prelude.{◌≡◌, ℕ, zero, suc, ◌<◌, ◌≤◌, ◌↔◌, Bool, T, true, false, ◌&&◌, List, [], ◌∷◌, length, ◌==◌, nat_le, slice_index_or}
use Rattle.book.specs.declared.{kinds.CardEvent.CardEvent, kinds.CardPattern.CardPattern}

-- a card pattern fits an event of its kind whose argument lies in its range
abbrev pub CardFits : CardPattern → CardEvent → Type 0
CardFits p e = (p.kind ≡ e.kind) × (p.lowest ≤ e.argument) × (e.argument ≤ p.highest)

-- the same, as a test
abbrev pub card_test : CardPattern → CardEvent → Bool
card_test p e = p.kind == e.kind && nat_le p.lowest e.argument && nat_le e.argument p.highest

-- a test of a relation: it says yes exactly of the pairs that the relation has
abbrev pub Tests : {P E : Type 0} → (P → E → Type 0) → (P → E → Bool) → Type 0
Tests {P} {E} fits test = (p : P) (e : E) → (T (test p e) → fits p e) × (fits p e → T (test p e))

-- whether pattern t of a table fits the event, by the test of one pattern; past the table none does
abbrev pub table_fits : {P E : Type 0} → (P → E → Bool) → List P → E → ℕ → Bool
table_fits test [] e t = false
table_fits test (p ∷ ps) e zero = test p e
table_fits test (p ∷ ps) e (suc t) = table_fits test ps e t

-- the table has a pattern t, and it fits the event
abbrev pub FitsAt : {P E : Type 0} → (P → E → Type 0) → List P → ℕ → E → Type 0
FitsAt fits patterns t e = (t < length patterns) × ((d : _) → fits (slice_index_or patterns t d) e)

-- a test of the numbers of patterns says yes exactly where the table has a pattern of that number, and it fits the event
abbrev pub TestsTable : {P E : Type 0} → (P → E → Type 0) → List P → (E → ℕ → Bool) → Type 0
TestsTable {P} {E} fits patterns test = (e : E) (t : ℕ) → (test e t ≡ true) ↔ FitsAt fits patterns t e

-- the answer whether a table has a pattern t that fits an event: it is yes exactly then, and it is that of the test of one pattern
pub record IsFitAnswer {P E : Type 0} (fits : P → E → Type 0) (test : P → E → Bool) (patterns : List P) (t : ℕ) (e : E) (r : Bool) : Type 0 where
  pub means : (r ≡ true) ↔ FitsAt fits patterns t e
  pub is : r ≡ table_fits test patterns e t
