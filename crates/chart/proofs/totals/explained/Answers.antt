use Rattle.chart.specs.Events.{chart_book, chart_fits}
use Rattle.chart.proofs.OfBook.{book_sound}
use Rattle.chart.proofs.ByKind.{explained_by}
use Rattle.chart.proofs.totals.explained.Goals as goal

pub returns-clause-means : goal.returns-clause-means
returns-clause-means g c es h =
    let k = c.args.chart.now in
    let total = (c.total.ensures.means es h).is_total in
    explained_by (chart_book k) (book_sound k.book.now) (chart_fits g.A.Alphabet.test k) es _ (cc total)
