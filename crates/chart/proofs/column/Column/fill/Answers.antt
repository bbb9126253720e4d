use Rattle.std.proofs.Common.{◌+◌, ◌-◌, arith}
use denote.Param.{layout}
use Rattle.book.specs.Books.{closed_book, closed_fits}
use Rattle.chart.specs.Table.{column_place, cell_place, cell_at, SameOutside}
use Rattle.chart.specs.Inner.{Added, AddedStarts, over_event, over_parts}
use Rattle.chart.proofs.OfBook.{book_sound}
use Rattle.chart.proofs.Sizes.{pairs_small}
use Rattle.chart.proofs.Outside.{same_all}
use Rattle.chart.proofs.SameColumns.{same_after, as_before}
use Rattle.chart.proofs.Filling.{outside_more, outside_all, middles_none, middles_more, middles_all}
use Rattle.chart.proofs.column.Column.fill.Goals as goal

pub new_in-pairs-requires : goal.new_in-pairs-requires
new_in-pairs-requires g c = pairs_small (layout g.row.W-Value) g.met.W.Weighing.small

pub add_middle-requires : goal.add_middle-requires
add_middle-requires g c =
    let same = same_after c.args.self.now c.clear.new.self c.one_event.new.self c.clear.ensures.same c.one_event.ensures.same in (
      pairs_small (layout g.row.W-Value) g.met.W.Weighing.small,
      (omega (arith, c.loop-middle-test.true), omega (arith, c.loop-middle-test.true, c.loop-middle.auto.middle, same.end, c.loop-middle.invariant.same.end)),
    )

pub loop-middle-init : goal.loop-middle-init
loop-middle-init g c =
    let k = c.args.self.now in
    let first = c.one_event.new.self in
    let same = same_after k c.clear.new.self first c.clear.ensures.same c.one_event.ensures.same in
    record {
      outside = same_all g.W.Weighing.ops.zero (column_place k.symbols k.end) (column_place k.symbols (k.end + 1)) first.weights.now;
      middles = middles_none (closed_book k.book.now) (book_sound k.book.now) g.W.Weighing.ops g.met.W.Weighing.semiring (closed_fits g.A.Alphabet.test k.book.now)
          k.symbols k.end _ first.weights.now (omega (arith, same.end));
      same = same;
    }

pub loop-middle-preserved : goal.loop-middle-preserved
loop-middle-preserved g c =
    let M = g.W.Weighing.ops in
    let k = c.args.self.now in
    let first = c.one_event.new.self in
    let mid = c.loop-middle.self in
    let is = c.add_middle.new.self in
    let m = c.loop-middle.middle in
    let begun = same_after k c.clear.new.self first c.clear.ensures.same c.one_event.ensures.same in
    let same = c.loop-middle.invariant.same in
    let added = as_before k mid same
    (λ b s e. AddedStarts M s e (m - 1) (λ i. over_parts (closed_book b) M (cell_at M mid.weights.now (cell_place s (m - 1) i)) (cell_at M mid.weights.now (cell_place s e (m - 1)))) mid.weights.now is.weights.now)
    c.add_middle.ensures.added in
    record {
      outside = outside_more M.zero k.symbols k.end (m - 1) first.weights.now mid.weights.now is.weights.now
          (omega (arith, c.loop-middle-test.true, c.loop-middle.auto.middle, begun.end)) c.loop-middle.invariant.outside added.0;
      middles = middles_more (closed_book k.book.now) (book_sound k.book.now) M g.met.W.Weighing.semiring (closed_fits g.A.Alphabet.test k.book.now) k.symbols k.end
          (m - 1) m first.weights.now mid.weights.now is.weights.now k.counts (omega (arith, c.loop-middle-test.true)) (omega (arith, c.loop-middle-test.true, c.loop-middle.auto.middle, begun.end))
          (omega (arith, c.loop-middle-test.true)) added c.loop-middle.invariant.middles;
      same = same_after k mid is same c.add_middle.ensures.same;
    }

pub returns : goal.returns
returns g c =
    let M = g.W.Weighing.ops in
    let k = c.args.self.now in
    let W = closed_book k.book.now in
    let blank = c.clear.new.self in
    let first = c.one_event.new.self in
    let is = c.loop-middle.self in
    let one = as_before k blank c.clear.ensures.same
    (λ b s e. SameOutside M.zero (cell_place s e (e - 1)) (cell_place s e (e - 1) + s) blank.weights.now first.weights.now) c.one_event.ensures.outside in
    record {
      outside = outside_all M.zero k.symbols k.end k.weights.now blank.weights.now first.weights.now is.weights.now k.some c.clear.ensures.cleared.0 one c.loop-middle.invariant.outside;
      chart = middles_all W (book_sound k.book.now) M g.met.W.Weighing.semiring (closed_fits g.A.Alphabet.test k.book.now) k.symbols k.end
          c.loop-middle.middle c.args.event k.weights.now blank.weights.now first.weights.now is.weights.now
          k.counts k.some (omega (arith, c.loop-middle-test.false)) (omega (arith, k.long, c.loop-middle.invariant.same.long)) c.clear.ensures.cleared
          (as_before k blank c.clear.ensures.same
          (λ b s e. Added M s (cell_place s e (e - 1)) (over_event (closed_book b) M (closed_fits g.A.Alphabet.test b) c.args.event) blank.weights.now first.weights.now) c.one_event.ensures.added)
          c.loop-middle.invariant.middles;
      same = c.loop-middle.invariant.same;
    }
