-- What a chart holds after any calls, from their arguments alone.
use Rattle.std.specs.Prelude.{ℕ, ◌-◌, cond, Bool, List, [], ◌∷◌, ◌++◌, fold, length, take, ◌==◌}
use Rattle.grammar.specs.Semiring.{Ops}
use Rattle.book.specs.declared.alphabet.Alphabet.{Ghosts}
use Rattle.weighing.specs.declared.{weighing.Weighing.Ghosts as Weighings, bank.Bank.Ghosts as Banks}
use Rattle.chart.specs.declared.chart.Chart.{Chart}
use Rattle.chart.specs.{Events.chart_symbols, Events.Holds, Feeds.feed_refusal, Feeds.withdraw_refusal}

-- a call with its arguments: a feed of an event, a withdrawal of the last k
pub data ChartCall (E : Type 0) : Type 0 where
  a_feed : E → ChartCall E
  a_withdraw : ℕ → ChartCall E

-- the events held after a call where these were held, in a table of m weights, S to a cell; a refused call leaves them
abbrev pub after : {E : Type 0} → ℕ → ℕ → List E → ChartCall E → List E
after S m es (a_feed e) = cond (feed_refusal S m (length es) == 0) (es ++ (e ∷ [])) es
after S m es (a_withdraw k) = cond (withdraw_refusal (length es) k == 0) (take (length es - k) es) es

-- the events held after these calls, in turn, on a new chart
unfoldable pub held_events : {E : Type 0} → ℕ → ℕ → List (ChartCall E) → List E
held_events S m calls = fold (after S m) [] calls

-- the chart holds the events that are held after these calls
abbrev pub HoldsAfter : {A K E P V U : Type 0} {G : Ghosts A E P} {H : Weighings K V U} {B : Banks U V} → Ops V → (P → E → Bool) → Chart A K E P V U G H B → List (ChartCall E) → Type 0
HoldsAfter M test c calls = Holds M test c (held_events (chart_symbols c) (length c.weights.now) calls)

-- whatever calls came before, the chart holds what is held after these and one more
abbrev pub RunsOn : {A K E P V U : Type 0} {G : Ghosts A E P} {H : Weighings K V U} {B : Banks U V} → Ops V → (P → E → Bool) → ChartCall E → Chart A K E P V U G H B → Chart A K E P V U G H B → Type 0
RunsOn M test call was is = (calls : List (ChartCall _)) → HoldsAfter M test was calls → HoldsAfter M test is (calls ++ (call ∷ []))
