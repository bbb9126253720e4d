use Rattle.grammar.proofs.Chart.{yes_chart}
use Rattle.grammar.proofs.yes_chart.Goals as goal

pub returns : goal.returns
returns g c = yes_chart _
