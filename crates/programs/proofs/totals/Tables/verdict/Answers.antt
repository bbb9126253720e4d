use Rattle.std.proofs.Common.{[], subst, ap, ◌∙◌}
use Rattle.book.specs.Books.{closed_book, closed_fits}
use Rattle.chart.specs.Totals.{Explained}
use Rattle.programs.proofs.totals.Tables.verdict.Goals as goal

pub returns-clause-answer : goal.returns-clause-answer
returns-clause-answer g c =
    let said = subst (λ b. Explained (closed_book b) (closed_fits g.A.Alphabet.test b) c.args.trace.now c.explained.result) (ap (λ b. b.now) c.in_ok-feed_all.ensures.book ∙ c.cut-chart.ensures.book)
    (c.explained.ensures.means c.args.trace.now (c.in_ok-feed_all.ensures.fed.2 [] c.cut-chart.ensures.holds)) in
    search said
