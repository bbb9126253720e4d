use Rattle.grammar.proofs.StrictOrder.{strict_listed}
use Rattle.grammar.proofs.strict_listed.Goals as goal

pub returns : goal.returns
returns c = strict_listed
