-- Words of private contracts: no promise to a caller rests on these. The calls of a script up to a line.
use Rattle.std.specs.Prelude.{ℕ, Bool, List}
use Rattle.grammar.specs.Productions.{Book}
use Rattle.book.specs.Fits.{table_fits}
use Rattle.replay.specs.Answers.{Saying}
use Rattle.replay.specs.Replays.{replayed_book, replayed_symbols, replayed_events, replayed_answers}
use Rattle.programs.specs.declared.script.calls.Calls.{Calls}

-- the book of the rules held after them
abbrev pub calls_book : {P E : Type 0} → Calls P E → Book
calls_book c = replayed_book c.patterns.now c.book.now

-- how many symbols it has
abbrev pub calls_symbols : {P E : Type 0} → Calls P E → ℕ
calls_symbols c = replayed_symbols c.patterns.now c.book.now

-- which of its patterns fits an event
abbrev pub calls_fits : {P E : Type 0} → (P → E → Bool) → Calls P E → E → ℕ → Bool
calls_fits test c = table_fits test c.patterns.now

-- the events held after them, in a table of m weights
abbrev pub calls_events : {P E : Type 0} → ℕ → Calls P E → List E
calls_events m c = replayed_events c.patterns.now c.book.now m c.chart.now

-- what they are answered
abbrev pub calls_answers : {P E : Type 0} → ℕ → Calls P E → List Saying
calls_answers m c = replayed_answers c.patterns.now c.book.now m c.chart.now
