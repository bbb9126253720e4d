use Rattle.grammar.proofs.NullableRounds.{found_in_rounds}
use Rattle.grammar.proofs.found_in_rounds.Goals as goal

pub returns : goal.returns
returns c = found_in_rounds
