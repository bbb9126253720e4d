use Rattle.grammar.proofs.Chosen.{chain_chosen}
use Rattle.grammar.proofs.chain_chosen.Goals as goal

pub returns : goal.returns
returns c = chain_chosen
