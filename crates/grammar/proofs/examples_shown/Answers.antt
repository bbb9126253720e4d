use Rattle.grammar.proofs.Examples.{shown}
use Rattle.grammar.proofs.examples_shown.Goals as goal

pub returns : goal.returns
returns c = shown
