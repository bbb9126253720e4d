use Rattle.grammar.proofs.Totals.{sums_plain}
use Rattle.grammar.proofs.sums_plain.Goals as goal

pub returns : goal.returns
returns g c = sums_plain _ g.met.V.Lawful.semiring _
