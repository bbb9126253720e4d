use Rattle.std.proofs.Common.{◌≡◌, ◌+◌, ◌-◌}
use Rattle.grammar.specs.Lists.{span}
use Rattle.grammar.specs.Taken.{yes_cell}
use Rattle.chart.specs.Events.{chart_fits}
use Rattle.chart.specs.Inner.{chart_rules}
use Rattle.chart.proofs.Firsts.{both_asked, first_asked}
use Rattle.chart.proofs.choice.cut_fits.Goals as goal

pub returns-then-derives : goal.returns-then-derives
returns-then-derives g c test es h =
    let k = c.args.chart.now in
    let a = c.args in
    let left = yes_cell (chart_rules k) (chart_fits test k) a.left (span es a.start a.cut) in
    let right = yes_cell (chart_rules k) (chart_fits test k) a.right (span es (a.start + a.cut) (a.count - a.cut)) in
    let after : c.derives-then-derives.result ≡ right = assumption (c.derives-then-derives.ensures test es h) in
    both_asked c.derives.result c.derives-then-derives.result left right (c.derives.ensures test es h) c.if-derives.true after

pub returns-else-derives : goal.returns-else-derives
returns-else-derives g c test es h =
    let k = c.args.chart.now in
    let a = c.args in
    first_asked c.derives.result (yes_cell (chart_rules k) (chart_fits test k) a.left (span es a.start a.cut)) (yes_cell (chart_rules k) (chart_fits test k) a.right (span es (a.start + a.cut) (a.count - a.cut)))
    (c.derives.ensures test es h) c.if-derives.false
