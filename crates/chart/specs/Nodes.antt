-- A caller's table of nodes, and what is written into it.
use Rattle.std.specs.Prelude.{List, map}
use Rattle.grammar.specs.Nodes.{Node as TreeNode}
use Rattle.chart.specs.declared.node.Node.{Node}

-- a node as it stands in a table
abbrev pub node_of : Node → TreeNode
node_of k = record { rule = k.rule; first = k.first; count = k.count }

abbrev pub nodes_of : List Node → List TreeNode
nodes_of t = map node_of t
