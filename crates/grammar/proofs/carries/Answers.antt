use Rattle.grammar.proofs.Totals.{carries}
use Rattle.grammar.proofs.carries.Goals as goal

pub returns : goal.returns
returns g c = carries _ _ _
