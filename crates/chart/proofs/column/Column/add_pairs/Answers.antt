use Rattle.std.proofs.Common.{◌≡◌, sym, refl, ◌∙◌, subst, arith}
use Rattle.chart.specs.Table.{cell_place, cell_at}
use Rattle.chart.specs.Inner.{Added, pairs_sum}
use Rattle.chart.proofs.Places.{cell_before}
use Rattle.chart.proofs.PairAdding.{SomePairs, no_pair, sum_added, sum_kept, one_pair, all_pairs, pair_in}
use Rattle.chart.proofs.column.Column.add_pairs.Goals as goal
use Rattle.chart.proofs.column.Column.add_pairs.Goals.{then-pair-symbol, else-pair-symbol}

pub loop-pair-init : goal.loop-pair-init
loop-pair-init g c =
    let k = c.args.self.now in
    no_pair g.W.Weighing.ops g.met.W.Weighing.semiring k.symbols c.cell-cell.result c.cell-left.result c.args.pairs.now k.weights.now c.zero-sum.result (omega (arith, k.least)) c.zero-sum.ensures

pub add-requires-clause-room : goal.add-requires-clause-room
add-requires-clause-room g c = omega (arith, c.cell-cell.ensures.room, c.loop-pair.auto.weights)

pub add-requires-2-clause-room : goal.add-requires-2-clause-room
add-requires-2-clause-room g c = omega (arith, c.cell-cell.ensures.room, c.loop-pair.auto.weights)

pub product-requires : goal.product-requires
product-requires g c =
    let k = c.args.self.now in
    let b = pair_in g.W.Weighing.ops g.met.W.Weighing.semiring k.symbols c.args.pairs.now c.loop-pair.pair-index c.pair-item.result c.requires.within c.loop-pair-test.true c.pair-item.is in
    omega (arith, b.1, c.cell-left.ensures.room, c.loop-pair.auto.weights, c.if-pair-symbol.auto.weights)

pub loop-pair-preserved : goal.loop-pair-preserved
loop-pair-preserved g c =
    let M = g.W.Weighing.ops in
    let L = g.met.W.Weighing.semiring in
    let k = c.args.self.now in
    let S = k.symbols in
    let cell = c.cell-cell.result in
    let left = c.cell-left.result in
    let ps = c.args.pairs.now in
    let was = k.weights.now in
    let p = c.pair-item.result in
    let i = c.loop-pair.pair-index in
    let b = pair_in M L S ps i p c.requires.within c.loop-pair-test.true c.pair-item.is in
    let now_of : (c.if-pair-symbol.symbol ≡ p.symbol) × SomePairs M L S cell left ps i c.if-pair-symbol.symbol c.if-pair-symbol.sum was c.if-pair-symbol.weights =
    elim c.if-pair-symbol.branch [
      | then-pair-symbol w ↦ (
        omega (arith, w.symbol-is),
        sum_added M L S cell left ps i c.loop-pair.symbol c.if-pair-symbol.symbol c.loop-pair.sum c.if-pair-symbol.sum was c.loop-pair.weights w.add.new.weights c.if-pair-symbol.weights
            (omega (arith, w.symbol-is, b.0)) (w.sum-is ∙ w.zero-sum-then-pair-symbol.ensures) w.weights-is w.add.ensures c.loop-pair.invariant,
      )
      | else-pair-symbol w ↦ (
        w.symbol-is ∙ sym w.if-pair-symbol.false,
        sum_kept M L S cell left ps i c.loop-pair.symbol c.if-pair-symbol.symbol c.loop-pair.sum c.if-pair-symbol.sum was c.loop-pair.weights c.if-pair-symbol.weights
            w.symbol-is w.sum-is w.weights-is c.loop-pair.invariant,
      )
    ] in
    one_pair M L S cell left ps i p c.if-pair-symbol.symbol left c.if-pair-symbol.sum c.product.result c.plus-sum.result was c.if-pair-symbol.weights
    c.requires.within c.loop-pair-test.true c.pair-item.is
    (omega (arith, c.cell-cell.ensures.is, c.cell-left.ensures.is, cell_before S c.args.middle k.end c.args.start c.requires.parts.0 c.requires.parts.1))
    now_of.0 refl c.product.ensures c.plus-sum.ensures now_of.1

pub returns-clause-added : goal.returns-clause-added
returns-clause-added g c =
    let M = g.W.Weighing.ops in
    let k = c.args.self.now in
    let is = c.add-2.new.weights in
    let was = k.weights.now in
    let ps = c.args.pairs.now in
    subst (λ left. Added M k.symbols (cell_place k.symbols k.end c.args.start) (λ x. pairs_sum M (cell_at M was left) x ps) was is) c.cell-left.ensures.is
    (subst (λ cell. Added M k.symbols cell (λ x. pairs_sum M (cell_at M was c.cell-left.result) x ps) was is) c.cell-cell.ensures.is
    (all_pairs M g.met.W.Weighing.semiring k.symbols c.cell-cell.result c.cell-left.result ps c.loop-pair.pair-index c.loop-pair.symbol c.loop-pair.sum
    was c.loop-pair.weights is c.loop-pair-test.false c.add-2.ensures c.loop-pair.invariant))
