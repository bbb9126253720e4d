use Rattle.std.proofs.Common.{sym}
use Rattle.std.proofs.lemmas.List.{take-map}
use Rattle.chart.specs.Nodes.{node_of}
use Rattle.programs.proofs.script.print.front.Goals as goal

pub returns-then-count-nodes : goal.returns-then-count-nodes
returns-then-count-nodes c = sym (take-map node_of c.args.count c.args.nodes.now)
