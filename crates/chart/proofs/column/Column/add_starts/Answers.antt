use Rattle.std.proofs.Common.{◌≡◌, sym, subst, arith}
use Rattle.chart.specs.Table.{cell_place, cell_at}
use Rattle.chart.specs.Inner.{Added, pairs_sum, PairsWithin}
use Rattle.chart.proofs.PairAdding.{SomeStarts, no_start, one_start}
use Rattle.chart.proofs.SameColumns.{same_column, same_after, as_before}
use Rattle.chart.proofs.column.Column.add_starts.Goals as goal

pub loop-start-init : goal.loop-start-init
loop-start-init g c =
    let k = c.args.self.now in
    record {
      starts = no_start g.W.Weighing.ops g.met.W.Weighing.semiring k.symbols k.end c.args.middle c.args.pairs.now c.requires.within k.weights.now;
      same = same_column k;
    }

pub add_pairs-requires : goal.add_pairs-requires
add_pairs-requires g c =
    let same = c.loop-start.invariant.same in
    record {
      parts = (omega (arith, c.loop-start-test.true), omega (arith, c.requires.part, same.end));
      within = subst (λ s. PairsWithin s c.args.pairs.now) (sym same.symbols) c.requires.within;
    }

pub loop-start-preserved : goal.loop-start-preserved
loop-start-preserved g c =
    let M = g.W.Weighing.ops in
    let k = c.args.self.now in
    let mid = c.loop-start.self in
    let is = c.add_pairs.new.self in
    let ps = c.args.pairs.now in
    let i = c.loop-start.start in
    let same = c.loop-start.invariant.same in
    let added = as_before k mid same
    (λ b s e. Added M s (cell_place s e i) (λ x. pairs_sum M (cell_at M mid.weights.now (cell_place s c.args.middle i)) x ps) mid.weights.now is.weights.now) c.add_pairs.ensures.added in
    record {
      starts = one_start M g.met.W.Weighing.semiring k.symbols k.end c.args.middle ps c.requires.within i k.weights.now mid.weights.now is.weights.now
          (omega (arith, c.loop-start-test.true)) c.requires.part added c.loop-start.invariant.starts;
      same = same_after k mid is same c.add_pairs.ensures.same;
    }

pub returns : goal.returns
returns g c =
    let k = c.args.self.now in
    let all : c.loop-start.start ≡ c.args.middle = omega arith in
    record {
      added = subst (λ i. SomeStarts g.W.Weighing.ops g.met.W.Weighing.semiring k.symbols k.end c.args.middle c.args.pairs.now c.requires.within i k.weights.now c.loop-start.self.weights.now) all c.loop-start.invariant.starts;
      same = c.loop-start.invariant.same;
    }
