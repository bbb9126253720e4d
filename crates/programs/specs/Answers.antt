-- What is answered of a trace.
use Rattle.std.specs.Prelude.{◌≡◌, ℕ, ◌+◌, ◌-◌, ◌<◌, ◌≤◌, ◌⊎◌, Bool, List, ◌∷◌, ◌++◌, length, take, Ok, Err, Result, vec_len, cond, codes, decimal}
use Rattle.grammar.specs.Cells.{column_place}
use Rattle.grammar.specs.Semiring.{Ops}
use Rattle.book.specs.declared.alphabet.Alphabet.{Ghosts}
use Rattle.book.specs.declared.books.ClosedBook.{ClosedBook}
use Rattle.book.specs.Books.{closed_book, closed_fits}
use Rattle.weighing.specs.declared.weighing.Weighing.{Ghosts as Weighings}
use Rattle.weighing.specs.declared.bank.Bank.{Ghosts as Banks}
use Rattle.chart.specs.declared.chart.Chart.{Chart}
use Rattle.chart.specs.declared.fault.FeedFault.{FeedFault}
use Rattle.chart.specs.Faults.{feed_number}
use Rattle.chart.specs.Feeds.{chart_refusal}
use Rattle.chart.specs.Events.{chart_symbols, Holds}
use Rattle.chart.specs.Totals.{Explained, CountsReadings, IsLeastCost}
use Rattle.programs.specs.declared.totals.Tables.{Tables}
use Rattle.programs.specs.declared.totals.Totals.{Totals}
use Rattle.programs.specs.declared.totals.Verdict.{Verdict}

-- totals of these events: whether there is a reading, how many plain readings there are, and the least cost of one
pub record AreTotals {A E P : Type 0} {G : Ghosts A E P} (b : ClosedBook A E P G) (test : P → E → Bool) (es : List E) (t : Totals) : Type 0 where
  pub verdict : Explained (closed_book b) (closed_fits test b) es t.verdict.0
  pub count : CountsReadings (closed_book b) (closed_fits test b) 4294967295 es t.count
  pub least : IsLeastCost (closed_book b) (closed_fits test b) 4294967295 es t.least

-- a table of m weights, S to a cell, has room for the chart of k events more than n
abbrev pub RoomFor : ℕ → ℕ → ℕ → ℕ → Type 0
RoomFor S m n k = (k ≡ 0) ⊎ ((n + k ≤ 256) × (column_place S (n + k + 1) ≤ m))

-- a trace was fed to a chart: there was room for it, and whatever events the chart held it holds with the trace at the end; or there was no
-- room, it holds the events of the trace before the one that was refused, and has no room for one more
abbrev pub FedAll : {A K E P V U X : Type 0} {G : Ghosts A E P} {H : Weighings K V U} {B : Banks U V} → Ops V → (P → E → Bool) → List E → Chart A K E P V U G H B → Chart A K E P V U G H B → Result X FeedFault → Type 0
FedAll M test trace was is (Ok x) = RoomFor (chart_symbols was) (length was.weights.now) was.events (length trace)
    × (is.events ≡ was.events + length trace)
    × ((es : List _) → Holds M test was es → Holds M test is (es ++ trace))
FedAll M test trace was is (Err f) = (RoomFor (chart_symbols was) (length was.weights.now) was.events (length trace) → ⊥)
    × ((was.events ≤ is.events) × (is.events < was.events + length trace))
    × ((es : List _) → Holds M test was es → Holds M test is (es ++ take (is.events - was.events) trace))
    × (chart_refusal is ≡ feed_number f)

-- a table of m weights, S to a cell, has room for the chart of so many events, if there are any
abbrev pub HasRoom : ℕ → ℕ → ℕ → Type 0
HasRoom S m events = RoomFor S m 0 events

-- the tables of the three weighings have as many weights as before
abbrev pub AsLong : Tables → Tables → Type 0
AsLong was is = (vec_len is.verdicts ≡ vec_len was.verdicts) × (vec_len is.counts ≡ vec_len was.counts) × (vec_len is.costs ≡ vec_len was.costs)

-- each of them has room for the chart of so many events
abbrev pub HaveRoom : ℕ → Tables → ℕ → Type 0
HaveRoom S t events = HasRoom S (vec_len t.verdicts) events × HasRoom S (vec_len t.counts) events × HasRoom S (vec_len t.costs) events

-- a verdict as a word
abbrev pub verdict_word : Verdict → List ℕ
verdict_word v = cond v.0 (codes "yes") (codes "no")

-- totals as words: the verdict, the count and the least cost
abbrev pub totals_words : Totals → List ℕ
totals_words t = verdict_word t.verdict ++ (32 ∷ (decimal t.count ++ (32 ∷ decimal t.least)))
