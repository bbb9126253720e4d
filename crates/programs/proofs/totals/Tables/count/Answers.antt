use Rattle.std.proofs.Common.{[], subst, ap, ◌∙◌}
use Rattle.book.specs.Books.{closed_book, closed_fits}
use Rattle.chart.specs.Totals.{CountsReadings}
use Rattle.programs.proofs.totals.Tables.count.Goals as goal

pub returns-clause-answer : goal.returns-clause-answer
returns-clause-answer g c =
    let said = subst (λ b. CountsReadings (closed_book b) (closed_fits g.A.Alphabet.test b) 4294967295 c.args.trace.now c.readings.result) (ap (λ b. b.now) c.in_ok-feed_all.ensures.book ∙ c.cut-chart.ensures.book)
    (c.readings.ensures.means c.args.trace.now (c.in_ok-feed_all.ensures.fed.2 [] c.cut-chart.ensures.holds)) in
    search said
