use Rattle.std.proofs.Common.{arith}
use Rattle.chart.specs.Events.{chart_book, chart_fits}
use Rattle.chart.proofs.OfBook.{book_sound}
use Rattle.chart.proofs.ByKind.{counted_by}
use Rattle.chart.proofs.totals.readings.Goals as goal

pub returns-clause-means : goal.returns-clause-means
returns-clause-means g c es h =
    let k = c.args.chart.now in
    let total = (c.total-count.ensures.means es h).is_total in
    counted_by (chart_book k) (book_sound k.book.now) (chart_fits g.A.Alphabet.test k) es _ c.total-count.result (omega (arith, c.value.ensures)) total
