-- The events that a chart holds.
use Rattle.std.specs.Prelude.{◌≡◌, ℕ, Bool, List, length}
use Rattle.grammar.specs.{Productions.Book, Semiring.Ops, Binarise.binarised}
use Rattle.book.specs.{Books.closed_book, Books.closed_fits, Fits.TestsTable}
use Rattle.book.specs.declared.alphabet.Alphabet.{Ghosts}
use Rattle.weighing.specs.declared.{weighing.Weighing.Ghosts as Weighings, bank.Bank.Ghosts as Banks}
use Rattle.chart.specs.declared.chart.Chart.{Chart}
use Rattle.chart.specs.Charts.{HoldsChart}

-- the book that a chart was cut from, as it is written
abbrev pub chart_book : {A K E P V U : Type 0} {G : Ghosts A E P} {H : Weighings K V U} {B : Banks U V} → Chart A K E P V U G H B → Book
chart_book c = closed_book c.book.now

abbrev pub chart_symbols : {A K E P V U : Type 0} {G : Ghosts A E P} {H : Weighings K V U} {B : Banks U V} → Chart A K E P V U G H B → ℕ
chart_symbols c = (binarised (chart_book c)).symbols

-- whether a pattern of that book fits an event, by the test of one pattern
abbrev pub chart_fits : {A K E P V U : Type 0} {G : Ghosts A E P} {H : Weighings K V U} {B : Banks U V} → (P → E → Bool) → Chart A K E P V U G H B → E → ℕ → Bool
chart_fits test c = closed_fits test c.book.now

-- that test says yes exactly where the book has a pattern of that number that fits the event, by the alphabet's relation
abbrev pub FitsByRelation : {A K E P V U : Type 0} {G : Ghosts A E P} {H : Weighings K V U} {B : Banks U V} → (P → E → Type 0) → (P → E → Bool) → Chart A K E P V U G H B → Type 0
FitsByRelation fits test c = TestsTable fits c.book.now.table.patterns.now (chart_fits test c)

-- the chart holds these events: as many as it says, and its table holds their chart
pub record Holds {A K E P V U : Type 0} {G : Ghosts A E P} {H : Weighings K V U} {B : Banks U V} (M : Ops V) (test : P → E → Bool) (c : Chart A K E P V U G H B) (es : List E) : Type 0 where
  pub many : length es ≡ c.events
  pub chart : HoldsChart (chart_book c) M (chart_fits test c) es c.weights.now
