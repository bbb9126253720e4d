use Rattle.std.proofs.Common.{◌≡◌, ◌&&◌, eqb, false, take}
use Rattle.grammar.specs.Lists.{some_of, span}
use Rattle.grammar.specs.Strict.{StrictFormRule, strict_rules}
use Rattle.grammar.specs.Taken.{rule_fits}
use Rattle.chart.specs.Inner.{chart_rules, ForHeld}
use Rattle.chart.proofs.choice.first_rule.Given as goal

abbrev pub invariant-loop-rule : goal.invariant-loop-rule
invariant-loop-rule g l = ForHeld l.chart (λ fits es.
    some_of (λ (r : StrictFormRule). eqb r.symbol l.symbol && rule_fits (chart_rules l.chart) fits (span es l.start l.count) r) (take l.rule-index (strict_rules (chart_rules l.chart))) ≡ false)
