use Rattle.std.proofs.Common.{◌≡◌, ◌++◌, take, string_bytes}
use Rattle.grammar.specs.Lists.{each}
use Rattle.chart.specs.Nodes.{nodes_of}
use Rattle.programs.specs.Printed.{node_text}
use Rattle.programs.proofs.script.print.push_nodes.Given as goal

-- the nodes so far
abbrev pub invariant-loop-node : goal.invariant-loop-node
invariant-loop-node l = string_bytes l.out ≡ string_bytes l.fn.out ++ each node_text (nodes_of (take l.node-index l.nodes))
