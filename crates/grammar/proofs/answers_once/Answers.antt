use Rattle.grammar.proofs.Totals.{answers_once}
use Rattle.grammar.proofs.answers_once.Goals as goal

pub returns : goal.returns
returns g c = answers_once _
