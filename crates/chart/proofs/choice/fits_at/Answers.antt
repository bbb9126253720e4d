use Rattle.std.proofs.Common.{◌≡◌, eqb, refl}
use Rattle.std.proofs.lemmas.Bool.{eq-eqb}
use Rattle.grammar.specs.Lists.{span}
use Rattle.grammar.specs.Taken.{rule_fits}
use Rattle.conversion.specs.Views.{strict_rule_of}
use Rattle.chart.specs.Events.{chart_fits}
use Rattle.chart.specs.Inner.{chart_rules}
use Rattle.chart.proofs.Firsts.{both_asked}
use Rattle.chart.proofs.choice.fits_at.Goals as goal

pub returns-then-rule-symbol-clause-fits : goal.returns-then-rule-symbol-clause-fits
returns-then-rule-symbol-clause-fits g c test es h =
    let k = c.args.chart.now in
    let a = c.args in
    let fits = rule_fits (chart_rules k) (chart_fits test k) (span es a.start a.count) (strict_rule_of a.rule) in
    let says : c.rule_fits.result ≡ fits = assumption (c.rule_fits.ensures test es h) in
    both_asked (eqb a.rule.symbol a.symbol) c.rule_fits.result (eqb a.rule.symbol a.symbol) fits refl (eq-eqb a.rule.symbol a.symbol c.if-rule-symbol.true) says
