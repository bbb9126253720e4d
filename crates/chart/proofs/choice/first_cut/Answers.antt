use Rattle.std.proofs.Common.{◌≡◌, ◌+◌, ◌≤◌, length, true, sym, ◌∙◌, arith}
use Rattle.chart.specs.Inner.{chart_rules}
use Rattle.chart.specs.Events.{chart_fits}
use Rattle.chart.proofs.Firsts.{count_more, count_first}
use Rattle.chart.proofs.Choices.{fits_after, cut_first, cut_none}
use Rattle.chart.proofs.choice.first_cut.Goals as goal

pub returns-then-cut_fits-clause-first : goal.returns-then-cut_fits-clause-first
returns-then-cut_fits-clause-first g c test es h =
    let k = c.args.chart.now in
    let a = c.args in
    let all : a.start + a.count ≤ length es = omega (arith, h.many, c.requires.part) in
    let p = fits_after (chart_rules k) (chart_fits test k) a.left a.right es a.start a.count all in
    let said = sym (c.cut_fits.ensures test es h) in
    let fits : p c.loop-cut.cut ≡ true = search (said, c.if-cut_fits.true) in
    cut_first (chart_rules k) (chart_fits test k) a.left a.right es a.start a.count all c.loop-cut.cut
    (count_first p c.loop-cut.cut a.count (omega arith) (omega (arith, c.loop-cut-test.true)) (c.loop-cut.invariant test es h) fits)

pub loop-cut-preserved : goal.loop-cut-preserved
loop-cut-preserved g c test es h =
    let k = c.args.chart.now in
    let a = c.args in
    let all : a.start + a.count ≤ length es = omega (arith, h.many, c.requires.part) in
    count_more (fits_after (chart_rules k) (chart_fits test k) a.left a.right es a.start a.count all) c.loop-cut.cut (omega arith) (c.loop-cut.invariant test es h)
    (sym (c.cut_fits.ensures test es h) ∙ c.if-cut_fits.false)

pub returns-clause-first : goal.returns-clause-first
returns-clause-first g c test es h =
    let k = c.args.chart.now in
    let a = c.args in
    cut_none (chart_rules k) (chart_fits test k) a.left a.right es a.start a.count (omega (arith, h.many, c.requires.part)) c.loop-cut.cut (omega (arith, c.loop-cut-test.false)) (c.loop-cut.invariant test es h)
