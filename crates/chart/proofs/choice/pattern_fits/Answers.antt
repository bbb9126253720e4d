use Rattle.std.proofs.Common.{◌≡◌, ◌+◌, eqb, refl}
use Rattle.std.proofs.lemmas.Bool.{eq-eqb}
use Rattle.grammar.specs.Lists.{span}
use Rattle.grammar.specs.Taken.{yes_cell}
use Rattle.chart.specs.Events.{chart_fits}
use Rattle.chart.specs.Inner.{chart_rules}
use Rattle.chart.proofs.Firsts.{both_asked}
use Rattle.chart.proofs.choice.pattern_fits.Goals as goal

pub returns-then-count-eq1 : goal.returns-then-count-eq1
returns-then-count-eq1 g c test es h =
    let k = c.args.chart.now in
    let a = c.args in
    let cell = yes_cell (chart_rules k) (chart_fits test k) (32 + a.pattern) (span es a.start a.count) in
    let derives : c.derives.result ≡ cell = assumption (c.derives.ensures test es h) in
    both_asked (eqb a.count 1) c.derives.result (eqb a.count 1) cell refl (eq-eqb a.count 1 c.if-count-eq1.true) derives
