use Rattle.std.proofs.Common.{◌≡◌, ℕ, ◌<◌, ◌≤◌}
use Rattle.grammar.specs.Binarise.{binarised}
use Rattle.grammar.specs.Nullable.{nullable_after, nullable}
use Rattle.chart.specs.Weights.{rules_book}
use Rattle.chart.proofs.nullable.rounds.Given as goal

abbrev pub invariant-loop-symbol : goal.invariant-loop-symbol
invariant-loop-symbol l = ((x : ℕ) → x < l.symbol → nullable_after (binarised (rules_book l.converted.rules)) l.rounds x ≡ nullable (binarised (rules_book l.converted.rules)) x) × (l.rounds ≤ 256)
