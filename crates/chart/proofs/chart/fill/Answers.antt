use Rattle.std.proofs.Common.{[], ◌∷◌, ◌++◌, sym, subst, rules, arith}
use denote.Param.{layout}
use Rattle.book.specs.Books.{closed_book, closed_fits}
use Rattle.chart.specs.Charts.{HoldsChart}
use Rattle.chart.proofs.Sizes.{rules_small}
use Rattle.chart.proofs.chart.fill.Goals as goal

pub weigh-rules-requires : goal.weigh-rules-requires
weigh-rules-requires g c = rules_small (layout g.row.W-Value) g.met.W.Weighing.small

pub as_slice-requires : goal.as_slice-requires
as_slice-requires g c = rules_small (layout g.row.W-Value) g.met.W.Weighing.small

-- the table is what the column has left in it, since the column is still of that table
pub returns-clause-chart : goal.returns-clause-chart
returns-clause-chart g c es n h =
    let b = c.args.book.now in
    let table = sym c.fill.ensures.same.table in
    subst (HoldsChart (closed_book b) g.W.Weighing.ops (closed_fits g.A.Alphabet.test b) (es ++ (c.args.event ∷ []))) (search (rules, table)) (c.fill.ensures.chart es (omega (arith, n)) h)
