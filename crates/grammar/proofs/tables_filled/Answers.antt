use Rattle.grammar.proofs.Tables.{tables}
use Rattle.grammar.proofs.tables_filled.Goals as goal

pub returns : goal.returns
returns c = tables
