use Rattle.grammar.proofs.Chart.{symbol_sets}
use Rattle.grammar.proofs.symbol_sets.Goals as goal

pub returns : goal.returns
returns g c = symbol_sets _
