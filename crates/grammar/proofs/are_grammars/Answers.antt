use Rattle.grammar.proofs.GrammarsFormed.{are_grammars}
use Rattle.grammar.proofs.are_grammars.Goals as goal

pub returns : goal.returns
returns c = are_grammars
