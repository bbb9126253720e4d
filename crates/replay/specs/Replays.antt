-- What the calls of a book and of a chart come to, from their arguments alone. The book is new, over these patterns; the chart is cut from it
-- over a table of m weights.
use Rattle.std.specs.Prelude.{ℕ, List, [], ◌++◌, map, length}
use Rattle.grammar.specs.Productions.{Book}
use Rattle.grammar.specs.Binarise.{binarised}
use Rattle.book.specs.Offers.{book}
use Rattle.book.specs.Runs.{held_after}
use Rattle.chart.specs.Runs.{held_events}
use Rattle.replay.specs.declared.call.BookCall.{BookCall}
use Rattle.replay.specs.declared.call.ChartCall.{ChartCall}
use Rattle.replay.specs.Calls.{call_of, chart_call_of}
use Rattle.replay.specs.Answers.{Saying, book_answers, chart_answers, Kind, book_kind, chart_kind}

-- the book of the rules held after its calls
abbrev pub replayed_book : {P : Type 0} → List P → List BookCall → Book
replayed_book patterns calls = book (length patterns) (held_after (length patterns) (map call_of calls))

-- how many symbols it has
abbrev pub replayed_symbols : {P : Type 0} → List P → List BookCall → ℕ
replayed_symbols patterns calls = (binarised (replayed_book patterns calls)).symbols

-- the events held after the chart's calls
abbrev pub replayed_events : {P E : Type 0} → List P → List BookCall → ℕ → List (ChartCall E) → List E
replayed_events patterns book_calls m chart_calls = held_events (replayed_symbols patterns book_calls) m (map chart_call_of chart_calls)

-- what all the calls are answered: those of the book first
abbrev pub replayed_answers : {P E : Type 0} → List P → List BookCall → ℕ → List (ChartCall E) → List Saying
replayed_answers patterns book_calls m chart_calls =
    book_answers (length patterns) [] (map call_of book_calls)
    ++ chart_answers (replayed_symbols patterns book_calls) m [] (map chart_call_of chart_calls)

-- of which kinds the calls are
abbrev pub replayed_kinds : {E : Type 0} → List BookCall → List (ChartCall E) → List Kind
replayed_kinds book_calls chart_calls = map book_kind (map call_of book_calls) ++ map chart_kind (map chart_call_of chart_calls)
