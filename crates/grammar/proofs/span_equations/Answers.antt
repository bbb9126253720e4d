use Rattle.grammar.proofs.Chart.{span_equations}
use Rattle.grammar.proofs.span_equations.Goals as goal

pub returns : goal.returns
returns g c = span_equations _ g.met.V.Lawful.semiring _
