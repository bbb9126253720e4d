use Rattle.grammar.proofs.BinarisedRules.{binarised_proper}
use Rattle.grammar.proofs.stays_proper.Goals as goal

pub returns : goal.returns
returns c = λ W P. binarised_proper W P
