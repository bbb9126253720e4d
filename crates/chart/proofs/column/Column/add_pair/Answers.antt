use Rattle.std.proofs.Common.{sym, refl, ap, ◌∙◌, arith}
use Rattle.conversion.specs.Views.{right_side_of}
use Rattle.chart.specs.Table.{cell_at}
use Rattle.chart.proofs.PairSums.{pair_kept, pair_nothing, pair_other, pair_pushed}
use Rattle.chart.proofs.column.Column.add_pair.Goals as goal

pub returns-then-not-is_zero : goal.returns-then-not-is_zero
returns-then-not-is_zero g c =
    let M = g.W.Weighing.ops in
    let w = c.args.weighed.now in
    pair_pushed M g.met.W.Weighing.semiring w.rule w.weight (cell_at M c.args.self.now.weights.now c.args.right) c.args.pairs.now.items c.push.new.self.items
    c.in-Binary.y c.in-Binary.z c.peek-part.result c.times.result
    (ap right_side_of c.in-Binary.is) (cc) (cc) c.push.ensures.items (omega (arith, c.push.ensures.len))

pub returns-else-not-is_zero : goal.returns-else-not-is_zero
returns-else-not-is_zero g c =
    let M = g.W.Weighing.ops in
    let L = g.met.W.Weighing.semiring in
    let w = c.args.weighed.now in
    let right = cell_at M c.args.self.now.weights.now c.args.right in
    pair_kept M L w.rule w.weight right c.args.pairs.now.items
    (λ left. pair_nothing M L w.weight left right _ c.in-Binary.y c.in-Binary.z (ap right_side_of c.in-Binary.is) (sym c.peek-part.ensures ∙ c.if-not-is_zero.ensures.0 refl))

pub returns-in_default : goal.returns-in_default
returns-in_default g c =
    let M = g.W.Weighing.ops in
    let L = g.met.W.Weighing.semiring in
    let w = c.args.weighed.now in
    let right = cell_at M c.args.self.now.weights.now c.args.right in
    pair_kept M L w.rule w.weight right c.args.pairs.now.items
    (λ left. pair_other M L w.weight left right w.rule.right c.in_default.not-Binary)
