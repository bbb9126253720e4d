use Rattle.std.proofs.Common.{map, length, subst, rules}
use Rattle.book.specs.Fits.{table_fits}
use Rattle.chart.specs.Charts.{HoldsChart}
use Rattle.replay.specs.Replays.{replayed_book, replayed_events}
use Rattle.book.proofs.FitsAt.{tests_table}
use Rattle.chart.specs.Totals.{TotalIs}
use Rattle.replay.specs.Calls.{chart_call_of}
use Rattle.replay.proofs.Replaying.{of_book, of_calls}
use Rattle.replay.specs.Leavings.{Leaves}
use Rattle.replay.proofs.replay.replay.Goals as goal

pub returns-in_err-check_answers-clause-fits : goal.returns-in_err-check_answers-clause-fits
returns-in_err-check_answers-clause-fits g c = tests_table g.A.Alphabet.fits g.A.Alphabet.test g.met.A.Alphabet.tested c.args.table.patterns.now

pub returns-clause-fits : goal.returns-clause-fits
returns-clause-fits g c = tests_table g.A.Alphabet.fits g.A.Alphabet.test g.met.A.Alphabet.tested c.args.table.patterns.now

pub returns-clause-total : goal.returns-clause-total
returns-clause-total g c =
    let M = g.W.Weighing.ops in
    let ran = c.run_chart-chart.ensures in
    let book = c.run_book-book.ensures in
    let patterns = c.args.table.patterns.now in
    let books = c.args.book_calls.now in
    let calls = c.args.chart_calls.now in
    let said : TotalIs (replayed_book patterns books) M (table_fits g.A.Alphabet.test patterns) (replayed_events patterns books (length c.args.weights.now) calls) c.total.result =
    of_calls M g.A.Alphabet.test (λ W fits es. TotalIs W M fits es c.total.result) c.run_chart-chart.result c.run_book-book.result _ _ _ (map chart_call_of calls) ran.book book.table book.held ran.long ran.holds c.total.ensures.means in
    search said

-- the table is what the chart has left in it, since the chart is still of that table
pub returns-clause-chart : goal.returns-clause-chart
returns-clause-chart g c =
    let M = g.W.Weighing.ops in
    let ran = c.run_chart-chart.ensures in
    let book = c.run_book-book.ensures in
    let patterns = c.args.table.patterns.now in
    let books = c.args.book_calls.now in
    let calls = c.args.chart_calls.now in
    let table = ran.same in
    subst
    (HoldsChart (replayed_book patterns books) M (table_fits g.A.Alphabet.test patterns) (replayed_events patterns books (length c.args.weights.now) calls))
    (search (rules, table))
    (of_calls M g.A.Alphabet.test (λ W fits es. HoldsChart W M fits es c.run_chart-chart.result.weights.now) c.run_chart-chart.result c.run_book-book.result _ _ _ (map chart_call_of calls) ran.book book.table book.held ran.long
    ran.holds (λ es h. h.chart))

pub returns-clause-leaves : goal.returns-clause-leaves
returns-clause-leaves g c =
    let test = g.A.Alphabet.test in
    let ran = c.run_chart-chart.ensures in
    let book = c.run_book-book.ensures in
    let patterns = c.args.table.patterns.now in
    let books = c.args.book_calls.now in
    let calls = map chart_call_of c.args.chart_calls.now in
    let table = ran.same in
    subst (Leaves (replayed_book patterns books) g.W.Weighing.ops (table_fits test patterns) calls c.args.weights.now) (search (rules, table))
    (of_book test (λ W fits. Leaves W g.W.Weighing.ops fits calls c.args.weights.now c.run_chart-chart.result.weights.now) c.run_book-book.result patterns _ book.table book.held ran.leaves)
