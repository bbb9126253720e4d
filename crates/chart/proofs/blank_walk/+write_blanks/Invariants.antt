use Rattle.std.proofs.Common.{List, ◌++◌, take}
use Rattle.grammar.specs.Binarise.{binarised}
use Rattle.grammar.specs.Nodes.{Node as TreeNode}
use Rattle.book.specs.Rules.{rules_book}
use Rattle.chart.specs.Inner.{Wrote, SameTable, blank_nodes, AllBlank}
use Rattle.chart.proofs.BlankRounds.{most_rounds}
use Rattle.chart.proofs.blank_walk.+write_blanks.Given as goal

abbrev pub decreases-write_blanks : goal.decreases-write_blanks
decreases-write_blanks l = most_rounds (binarised (rules_book l.converted.now.rules)) l.items.now

abbrev pub invariant-loop-item : goal.invariant-loop-item
invariant-loop-item l = record {
  wrote : (t ks : List TreeNode) → AllBlank (binarised (rules_book l.converted.rules)) l.items → Wrote t ks l.fn.table → Wrote t (ks ++ blank_nodes (binarised (rules_book l.converted.rules)) l.at (take l.item-index l.items)) l.table;
  same : SameTable l.fn.table l.table;
}
