use Rattle.grammar.proofs.Binarise.{one_to_one}
use Rattle.grammar.proofs.one_to_one.Goals as goal

pub returns : goal.returns
returns g c = one_to_one _
