-- What the total of a chart says of the events that it holds.
use Rattle.std.specs.Prelude.{◌≡◌, ℕ, min, Bool, true, false, ◌↔◌, List, length}
use Rattle.grammar.specs.{Semiring.Ops, Productions.Book, Productions.ProperBook, Weighings.yes_no, Weighings.counts, Weighings.costs}
use Rattle.grammar.specs.{Readings.Reading, Readings.Reads, PlainReadings.PlainList, PlainReadings.Unread, Weights.total_of}
use Rattle.grammar.specs.Grammars.{Generates, book_grammar}
use Rattle.grammar.specs.Promises.{Bijection, ByPlace, PlainSum, WholeSum, YesCells, CellSets, Least}

-- r is the definition's total: the sum over the plain readings, and, where no production is empty or one head alone, over all readings. Plain is
-- said of binarised forms, one to one with the readings; and the cells that the total was worked out from obey the two equations
pub record TotalIs (W : Book) {V E : Type 0} (M : Ops V) (fits : E → ℕ → Bool) (es : List E) (r : V) : Type 0 where
  pub is_total : r ≡ total_of W M fits es
  pub plain : PlainSum W M fits es
  pub whole : ProperBook W → WholeSum W M fits es
  pub forms : Bijection W fits 0 es
  pub equations : (x i : ℕ) → ByPlace W M fits es x i

-- r says whether there is a reading: whether the rules as written rewrite head 0 to the events. The cells that it was worked out from are the
-- sets of the strict grammar's chart: the symbols that it rewrites to the events of the cell
pub record Explained (W : Book) {E : Type 0} (fits : E → ℕ → Bool) (es : List E) (r : Bool) : Type 0 where
  pub is_total : r ≡ total_of W yes_no fits es
  pub yes : (r ≡ true) ↔ ((q : Reading) × Reads W fits 0 q es)
  pub no : (r ≡ false) ↔ Unread W fits es
  pub generated : (r ≡ true) ↔ Generates (book_grammar W) fits 0 es
  pub sets : (x : ℕ) → CellSets W fits x
  pub cells : (x : ℕ) (w : List E) → YesCells W fits x w

-- r is the number of plain readings of these events, held at C; it is 0 exactly if there is no reading
pub record CountsReadings (W : Book) {E : Type 0} (fits : E → ℕ → Bool) (C : ℕ) (es : List E) (r : ℕ) : Type 0 where
  pub is_total : r ≡ total_of W (counts C) fits es
  pub listed : (rs : List Reading) × PlainList W fits 0 es rs
  pub count : (rs : List Reading) → PlainList W fits 0 es rs → r ≡ min (length rs) C
  pub none : (r ≡ 0) ↔ Unread W fits es

-- r is the least cost of a plain reading of these events, held at C
pub record IsLeastCost (W : Book) {E : Type 0} (fits : E → ℕ → Bool) (C : ℕ) (es : List E) (r : ℕ) : Type 0 where
  pub is_total : r ≡ total_of W (costs C) fits es
  pub least : Least W fits C es r
