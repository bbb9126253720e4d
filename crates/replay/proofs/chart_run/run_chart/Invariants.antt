use Rattle.std.proofs.Common.{◌≡◌, length}
use Rattle.grammar.specs.Binarise.{binarised}
use Rattle.book.specs.Books.{closed_book, closed_fits}
use Rattle.replay.proofs.ChartTurns.{ChartMade, views}
use Rattle.replay.specs.Leavings.{Leaves}
use Rattle.replay.proofs.chart_run.run_chart.Given as goal

-- the calls so far were made, over the same book and table
abbrev pub invariant-loop-place : goal.invariant-loop-place
invariant-loop-place g l =
    ChartMade g.W.Weighing.ops g.A.Alphabet.test (binarised (closed_book l.book)).symbols (length l.fn.weights) l.calls l.place l.answers l.chart
    × Leaves (closed_book l.book) g.W.Weighing.ops (closed_fits g.A.Alphabet.test l.book) (views l.calls l.place) l.fn.weights l.chart.weights.now
    × (l.chart.book.now ≡ l.book) × (l.chart.weights.ghost_name ≡ l.initial.chart.weights.ghost_name)
