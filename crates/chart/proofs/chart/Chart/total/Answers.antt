use Rattle.std.proofs.Common.{◌∙◌, arith}
use Rattle.chart.specs.Events.{chart_book, chart_fits}
use Rattle.chart.proofs.OfBook.{book_sound}
use Rattle.chart.proofs.Totalling.{total_is, total_nothing, total_cell}
use Rattle.book.proofs.FitsAt.{tests_table}
use Rattle.chart.proofs.chart.Chart.total.Goals as goal

pub returns-clause-fits : goal.returns-clause-fits
returns-clause-fits g c = tests_table g.A.Alphabet.fits g.A.Alphabet.test g.met.A.Alphabet.tested c.args.self.now.book.now.table.patterns.now

pub returns-then-self-eq0-clause-fits : goal.returns-then-self-eq0-clause-fits
returns-then-self-eq0-clause-fits g c = tests_table g.A.Alphabet.fits g.A.Alphabet.test g.met.A.Alphabet.tested c.args.self.now.book.now.table.patterns.now

pub returns-then-self-eq0-clause-means : goal.returns-then-self-eq0-clause-means
returns-then-self-eq0-clause-means g c es h =
    let k = c.args.self.now in
    let W = chart_book k in
    let fits = chart_fits g.A.Alphabet.test k in
    let M = g.W.Weighing.ops in
    let L = g.met.W.Weighing.semiring in
    total_is W (book_sound k.book.now) M L fits es _
    (total_nothing W (book_sound k.book.now) M L fits es c.empty_total.result (h.many ∙ c.if-self-eq0.true) (c.empty_total.ensures fits))

pub returns-clause-means : goal.returns-clause-means
returns-clause-means g c es h =
    let k = c.args.self.now in
    let W = chart_book k in
    let fits = chart_fits g.A.Alphabet.test k in
    let M = g.W.Weighing.ops in
    let L = g.met.W.Weighing.semiring in
    let cell = total_cell W (book_sound k.book.now) M L fits es k.weights.now c.symbols.result k.events c.column_place-place.result c.peek.result
    c.symbols.ensures.means (omega (arith, c.symbols.ensures.means, c.symbols.ensures.least)) h.many (omega (arith, c.if-self-eq0.false)) (omega (arith, c.column_place-place.ensures)) h.chart c.peek.ensures in
    total_is W (book_sound k.book.now) M L fits es _ (cc)
