use Rattle.std.proofs.Common.{rules}
use Rattle.chart.proofs.Running.{cut_runs}
use Rattle.chart.proofs.chart.Chart.cut.Goals as goal

pub returns-clause-runs : goal.returns-clause-runs
returns-clause-runs g c = cut_runs g.W.Weighing.ops g.A.Alphabet.test _ (search rules)
