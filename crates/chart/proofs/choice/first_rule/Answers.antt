use Rattle.std.proofs.Common.{sym, ◌∙◌}
use Rattle.std.proofs.lemmas.Bool.{and_parts}
use Rattle.grammar.specs.Lists.{span}
use Rattle.grammar.specs.Taken.{rule_fits}
use Rattle.grammar.specs.Weighings.{yes_no}
use Rattle.chart.specs.Events.{chart_book, chart_fits}
use Rattle.chart.specs.Inner.{chart_rules}
use Rattle.chart.proofs.StrictWeights.{strict_in}
use Rattle.chart.proofs.Choices.{rule_of_symbol, rule_first, rule_next, rule_none}
use Rattle.chart.proofs.choice.first_rule.Goals as goal

pub fits_at-requires-clause-rule : goal.fits_at-requires-clause-rule
fits_at-requires-clause-rule g c =
    strict_in yes_no (chart_book c.args.chart.now) c.strict-rule-items.result.now (rw c.converted.ensures at c.strict-rule-items.ensures) c.loop-rule.rule-index _ c.loop-rule-test.true

pub returns-then-fits_at-clause-rule : goal.returns-then-fits_at-clause-rule
returns-then-fits_at-clause-rule g c =
    rule_of_symbol (chart_rules c.args.chart.now) c.args.symbol _
    (strict_in yes_no (chart_book c.args.chart.now) c.strict-rule-items.result.now (rw c.converted.ensures at c.strict-rule-items.ensures) c.loop-rule.rule-index _ c.loop-rule-test.true)
    (c.fits_at.ensures.symbol c.if-fits_at.true)

pub returns-then-fits_at-clause-first : goal.returns-then-fits_at-clause-first
returns-then-fits_at-clause-first g c test es h =
    let k = c.args.chart.now in
    let a = c.args in
    rule_first (chart_rules k) a.symbol c.requires.symbol (rule_fits (chart_rules k) (chart_fits test k) (span es a.start a.count)) c.strict-rule-items.result.now
    (rw c.converted.ensures at c.strict-rule-items.ensures) c.loop-rule.rule-index _ c.loop-rule-test.true (c.loop-rule.invariant test es h) (c.fits_at.ensures.symbol c.if-fits_at.true)
    (and_parts _ _ (sym (c.fits_at.ensures.fits test es h) ∙ c.if-fits_at.true)).1

pub loop-rule-preserved : goal.loop-rule-preserved
loop-rule-preserved g c test es h =
    let k = c.args.chart.now in
    let a = c.args in
    rule_next (chart_rules k) a.symbol c.requires.symbol (rule_fits (chart_rules k) (chart_fits test k) (span es a.start a.count)) c.strict-rule-items.result.now
    (rw c.converted.ensures at c.strict-rule-items.ensures) c.loop-rule.rule-index _ c.loop-rule-test.true (c.loop-rule.invariant test es h) (sym (c.fits_at.ensures.fits test es h) ∙ c.if-fits_at.false)

pub returns-clause-first : goal.returns-clause-first
returns-clause-first g c test es h =
    let k = c.args.chart.now in
    let a = c.args in
    rule_none (chart_rules k) a.symbol c.requires.symbol (rule_fits (chart_rules k) (chart_fits test k) (span es a.start a.count)) c.strict-rule-items.result.now
    (rw c.converted.ensures at c.strict-rule-items.ensures) c.loop-rule.rule-index c.loop-rule-test.false (c.loop-rule.invariant test es h)
