use Rattle.std.proofs.Common.{◌≡◌, ◌-◌, false}
use Rattle.grammar.specs.Lists.{some_of, count_up}
use Rattle.grammar.specs.Taken.{cut_fits}
use Rattle.chart.specs.Inner.{chart_rules, ForHeld, cut_after}
use Rattle.chart.proofs.choice.first_cut.Given as goal

abbrev pub invariant-loop-cut : goal.invariant-loop-cut
invariant-loop-cut g l = ForHeld l.chart (λ fits es. some_of (λ m. cut_fits (chart_rules l.chart) fits l.left l.right (cut_after es l.start l.count m)) (count_up 1 (l.cut - 1)) ≡ false)
