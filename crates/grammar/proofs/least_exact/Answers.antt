use Rattle.std.proofs.Common.{lit≤}
use Rattle.grammar.proofs.Totals.{least_exact}
use Rattle.grammar.proofs.least_exact.Goals as goal

pub returns : goal.returns
returns g c = least_exact _ 4294967295 (lit≤ tt)
