-- What a feed and a withdrawal meet, and what they leave.
use Rattle.std.specs.Prelude.{◌≡◌, ℕ, ◌+◌, ◌-◌, cond, Bool, List, [], ◌∷◌, ◌++◌, length, take, Ok, Err, Result, nat_lt}
use Rattle.grammar.specs.Semiring.{Ops}
pub use Rattle.grammar.specs.Cells.{feed_refusal}
use Rattle.book.specs.declared.alphabet.Alphabet.{Ghosts}
use Rattle.weighing.specs.declared.{weighing.Weighing.Ghosts as Weighings, bank.Bank.Ghosts as Banks}
use Rattle.chart.specs.declared.{chart.Chart.Chart, fault.FeedFault.FeedFault, fault.WithdrawFault.WithdrawFault}
use Rattle.chart.specs.{Faults.feed_number, Faults.withdraw_number, Table.column_place, Table.SameOutside}
use Rattle.chart.specs.Events.{chart_symbols, Holds}

-- the refusal of a feed to this chart
abbrev pub chart_refusal : {A K E P V U : Type 0} {G : Ghosts A E P} {H : Weighings K V U} {B : Banks U V} → Chart A K E P V U G H B → ℕ
chart_refusal c = feed_refusal (chart_symbols c) (length c.weights.now) c.events

-- an event was fed: it is answered how many events are held then, whatever events the chart held it holds with this one at the end, and
-- no weight outside the column of the new event has changed; or it is refused, and the chart, all of it, is as before
abbrev pub FedEvent : {A K E P V U : Type 0} {G : Ghosts A E P} {H : Weighings K V U} {B : Banks U V} → Ops V → (P → E → Bool) → E → Chart A K E P V U G H B → Chart A K E P V U G H B → Result ℕ FeedFault → Type 0
FedEvent M test event was is (Ok r) = (chart_refusal was ≡ 0) × (r ≡ is.events) × (is.events ≡ was.events + 1)
    × ((es : List _) → Holds M test was es → Holds M test is (es ++ (event ∷ [])))
    × SameOutside M.zero (column_place (chart_symbols was) (was.events + 1)) (column_place (chart_symbols was) (was.events + 2)) was.weights.now is.weights.now
FedEvent M test event was is (Err f) = (chart_refusal was ≡ feed_number f) × (is ≡ was)

-- the number of the refusal that a withdrawal of k events meets where n are held; 0 for none
abbrev pub withdraw_refusal : ℕ → ℕ → ℕ
withdraw_refusal n k = cond (nat_lt n k) 12 0

-- the last k events were withdrawn: it is answered how many events are held then, and whatever events the chart held it holds without the
-- last k; or it is refused, and the chart, all of it, is as before
abbrev pub Withdrawn : {A K E P V U : Type 0} {G : Ghosts A E P} {H : Weighings K V U} {B : Banks U V} → Ops V → (P → E → Bool) → ℕ → Chart A K E P V U G H B → Chart A K E P V U G H B → Result ℕ WithdrawFault → Type 0
Withdrawn M test k was is (Ok r) = (withdraw_refusal was.events k ≡ 0) × (r ≡ is.events) × (is.events ≡ was.events - k)
    × ((es : List _) → Holds M test was es → Holds M test is (take (length es - k) es))
Withdrawn M test k was is (Err f) = (withdraw_refusal was.events k ≡ withdraw_number f) × (is ≡ was)
