use Rattle.grammar.proofs.Chosen.{nullable_chosen}
use Rattle.grammar.proofs.nullable_chosen.Goals as goal

pub returns : goal.returns
returns c = nullable_chosen
