use Rattle.grammar.proofs.Totals.{sums_all}
use Rattle.grammar.proofs.sums_all.Goals as goal

pub returns : goal.returns
returns g c = sums_all _ g.met.V.Lawful.semiring _
