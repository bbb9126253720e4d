use Rattle.grammar.proofs.Chart.{cell_equations}
use Rattle.grammar.proofs.cell_equations.Goals as goal

pub returns : goal.returns
returns g c = cell_equations _ g.met.V.Lawful.semiring _
