use Rattle.grammar.proofs.Totals.{takes_one}
use Rattle.grammar.proofs.takes_one.Goals as goal

pub returns : goal.returns
returns g c = takes_one _
