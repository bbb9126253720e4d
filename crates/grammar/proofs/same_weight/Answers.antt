use Rattle.grammar.proofs.Weights.{binarised_weighs}
use Rattle.grammar.proofs.same_weight.Goals as goal

pub returns : goal.returns
returns g c = λ W S fits x r w d. binarised_weighs W _ g.met.V.Lawful.semiring fits S d
