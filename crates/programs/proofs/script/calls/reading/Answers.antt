use Rattle.std.proofs.Common.{◌≡◌, ℕ, Bool, List, length, subst, arith}
use Rattle.grammar.specs.Nodes.{Node}
use Rattle.grammar.specs.Answers.{Answer}
use Rattle.book.specs.Fits.{table_fits}
use Rattle.chart.specs.Readings.{ReadingIs}
use Rattle.replay.specs.declared.call.BookCall.{BookCall}
use Rattle.replay.specs.declared.call.ChartCall.{ChartCall}
use Rattle.replay.specs.Replays.{replayed_book, replayed_events}
use Rattle.programs.proofs.script.calls.reading.Goals as goal

-- the same over equal patterns and tables of equal length
same_reading : {P E : Type 0} (test : P → E → Bool) (ps qs : List P) (book : List BookCall) (m n : ℕ) (chart : List (ChartCall E)) (t t' : List Node) (a : Answer) → ps ≡ qs → m ≡ n
    → ReadingIs (replayed_book ps book) (table_fits test ps) (replayed_events ps book m chart) t a t' → ReadingIs (replayed_book qs book) (table_fits test qs) (replayed_events qs book n chart) t a t'
same_reading test ps qs book m n chart t t' a p e r =
    subst (λ j. ReadingIs (replayed_book qs book) (table_fits test qs) (replayed_events qs book j chart) t a t') e
    (subst (λ xs. ReadingIs (replayed_book xs book) (table_fits test xs) (replayed_events xs book m chart) t a t') p r)

pub returns : goal.returns
returns g c =
    let long : length c.deref_mut.result.now ≡ c.args.weights = omega (arith, c.deref_mut.ensures.len, c.in_ok-table.ensures.len) in
    let read = same_reading g.A.Alphabet.test _ _ c.args.calls.now.book.now _ _ c.args.calls.now.chart.now _ _ _ c.checked-patterns.ensures long c.in-Ok.ensures.reading in
    search read
