use Rattle.std.proofs.Common.{ℕ, ap, ◌∙◌, subst}
use denote.Param.{layout}
use Rattle.grammar.specs.Lists.{Mem}
use Rattle.book.specs.Books.{closed_book}
use Rattle.chart.specs.Inner.{over_parts, pairs_sum}
use Rattle.chart.specs.Table.{cell_place, cell_at}
use Rattle.chart.proofs.Sizes.{pairs_small}
use Rattle.chart.proofs.PairAdding.{added_starts_as}
use Rattle.chart.proofs.column.Column.add_middle.Goals as goal

pub gather-requires : goal.gather-requires
gather-requires g c = (pairs_small (layout g.row.W-Value) g.met.W.Weighing.small, c.cell-right.ensures.small)

pub as_slice-requires : goal.as_slice-requires
as_slice-requires g c = pairs_small (layout g.row.W-Value) g.met.W.Weighing.small

pub add_starts-requires : goal.add_starts-requires
add_starts-requires g c = record {
  part = c.requires.1;
  within = λ p m. c.gather.ensures.within p (subst (Mem p) c.as_slice.ensures.value m);
}

pub returns : goal.returns
returns g c =
    let M = g.W.Weighing.ops in
    let k = c.args.self.now in
    let W = closed_book k.book.now in
    let was = k.weights.now in
    let left : ℕ → ℕ → g.row.W-Value.Denot = λ i. cell_at M was (cell_place k.symbols c.args.middle i) in
    record {
      added = added_starts_as M g.met.W.Weighing.semiring k.symbols k.end c.args.middle
          (λ i x. pairs_sum M (left i) x c.as_slice.result.now) (λ i. over_parts W M (left i) (cell_at M was (cell_place k.symbols k.end c.args.middle))) was c.add_starts.new.self.weights.now
          (λ i x hx. ap (pairs_sum M (left i) x) c.as_slice.ensures.value ∙ c.gather.ensures.sums (left i) x hx ∙ ap (λ r. over_parts W M (left i) (cell_at M was r) x) c.cell-right.ensures.is)
          c.add_starts.ensures.added;
      same = c.add_starts.ensures.same;
    }
