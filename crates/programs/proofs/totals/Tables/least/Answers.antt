use Rattle.std.proofs.Common.{[], subst, ap, ◌∙◌}
use Rattle.book.specs.Books.{closed_book, closed_fits}
use Rattle.chart.specs.Totals.{IsLeastCost}
use Rattle.programs.proofs.totals.Tables.least.Goals as goal

pub returns-clause-answer : goal.returns-clause-answer
returns-clause-answer g c =
    let said = subst (λ b. IsLeastCost (closed_book b) (closed_fits g.A.Alphabet.test b) 4294967295 c.args.trace.now c.least_cost.result) (ap (λ b. b.now) c.in_ok-feed_all.ensures.book ∙ c.cut-chart.ensures.book)
    (c.least_cost.ensures.means c.args.trace.now (c.in_ok-feed_all.ensures.fed.2 [] c.cut-chart.ensures.holds)) in
    search said
