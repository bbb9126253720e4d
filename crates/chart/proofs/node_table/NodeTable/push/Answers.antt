use Rattle.std.proofs.Common.{arith}
use Rattle.chart.proofs.NodeTables.{wrote_more}
use Rattle.chart.proofs.node_table.NodeTable.push.Goals as goal

pub returns-then-place-min-clause-wrote : goal.returns-then-place-min-clause-wrote
returns-then-place-min-clause-wrote c t ks w =
    let m = wrote_more t ks c.args.self.now w c.args.node (omega (arith, c.min.ensures, c.if-place-min.true)) in
    record { places = cc (m.0); written = omega (arith, m.1); full = cc (m.2) }
