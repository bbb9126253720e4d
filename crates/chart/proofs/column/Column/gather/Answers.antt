use Rattle.std.proofs.Common.{◌<◌, subst, arith}
use denote.Param.{layout}
use Rattle.book.specs.Books.{closed_book}
use Rattle.chart.specs.Table.{cell_at}
use Rattle.chart.proofs.Sizes.{pairs_small}
use Rattle.chart.proofs.OfBook.{weighs_of, rules_few, book_sound}
use Rattle.chart.proofs.RuleSums.{weighed_many}
use Rattle.chart.proofs.Gathering.{gathered_none, gathered_more, gathered_all}
use Rattle.chart.proofs.column.Column.gather.Goals as goal

pub loop-weighed-init : goal.loop-weighed-init
loop-weighed-init g c =
    let M = g.W.Weighing.ops in
    let k = c.args.self.now in
    gathered_none (closed_book k.book.now) M g.met.W.Weighing.semiring (cell_at M k.weights.now c.args.right) c.clear.new.self.items c.clear.ensures

pub add_pair-requires : goal.add_pair-requires
add_pair-requires g c =
    let M = g.W.Weighing.ops in
    let k = c.args.self.now in
    let W = closed_book k.book.now in
    let many = weighed_many W M k.rules.now (weighs_of g.row.W-Value.coded M W k.rules.now k.weighed) in (
      pairs_small (layout g.row.W-Value) g.met.W.Weighing.small,
      (omega (arith, c.loop-weighed.invariant.few, c.loop-weighed-test.true, many, rules_few k.book.now.converted.rules), c.requires),
    )

pub loop-weighed-preserved : goal.loop-weighed-preserved
loop-weighed-preserved g c =
    let M = g.W.Weighing.ops in
    let k = c.args.self.now in
    let W = closed_book k.book.now in
    gathered_more W M g.met.W.Weighing.semiring (cell_at M k.weights.now c.args.right) (book_sound k.book.now) k.rules.now c.loop-weighed.weighed-index c.weighed-item.result
    c.loop-weighed.pairs.items c.add_pair.new.pairs.items (weighs_of g.row.W-Value.coded M W k.rules.now k.weighed) c.loop-weighed-test.true c.weighed-item.is c.add_pair.ensures c.loop-weighed.invariant

pub returns : goal.returns
returns g c =
    let M = g.W.Weighing.ops in
    let k = c.args.self.now in
    let W = closed_book k.book.now in
    let many = weighed_many W M k.rules.now (weighs_of g.row.W-Value.coded M W k.rules.now k.weighed) in
    record {
      sums = λ left x hx. gathered_all W M g.met.W.Weighing.semiring (cell_at M k.weights.now c.args.right) c.loop-weighed.weighed-index c.loop-weighed.pairs.items
          (omega (arith, c.loop-weighed-test.false, many)) c.loop-weighed.invariant left x (subst (λ n. x < n) k.counts hx);
      within = λ p m. let b = c.loop-weighed.invariant.within p m in (omega (arith, b.0, k.counts), omega (arith, b.1, k.counts));
    }
