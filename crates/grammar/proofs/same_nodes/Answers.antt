use Rattle.grammar.proofs.Marks.{binarised_nodes}
use Rattle.grammar.proofs.same_nodes.Goals as goal

pub returns : goal.returns
returns g c = λ W S fits x r w d. binarised_nodes W fits S 0 d
