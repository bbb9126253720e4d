use Rattle.std.proofs.Common.{lit≤}
use Rattle.grammar.proofs.Totals.{none_exact}
use Rattle.grammar.proofs.none_exact.Goals as goal

pub returns : goal.returns
returns g c = none_exact _ 4294967295 (lit≤ tt)
