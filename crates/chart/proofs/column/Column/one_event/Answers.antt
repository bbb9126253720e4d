use Rattle.std.proofs.Common.{◌≡◌, ◌+◌, ◌-◌, cond, ◌∙◌, subst, arith}
use Rattle.grammar.specs.Cells.{terminal_fits}
use Rattle.conversion.specs.Views.{right_side_of}
use Rattle.book.specs.Books.{closed_book, closed_fits}
use Rattle.chart.specs.Table.{cell_place, SameOutside}
use Rattle.chart.specs.Inner.{Added, over_event}
use Rattle.chart.proofs.OfBook.{weighs_of, book_sound}
use Rattle.chart.proofs.RuleSums.{symbol_within, weighed_many}
use Rattle.chart.proofs.Outside.{same_all, same_then}
use Rattle.chart.proofs.SameColumns.{same_column}
use Rattle.chart.proofs.EventSums.{events_none, events_more, events_all}
use Rattle.chart.proofs.column.Column.one_event.Goals as goal

pub loop-weighed-init : goal.loop-weighed-init
loop-weighed-init g c =
    let k = c.args.self.now in
    let cell = c.cell-cell.result in
    record {
      outside = same_all g.W.Weighing.ops.zero cell (cell + k.symbols) k.weights.now;
      events = events_none (closed_book k.book.now) g.W.Weighing.ops g.met.W.Weighing.semiring (closed_fits g.A.Alphabet.test k.book.now) c.args.event k.symbols cell k.weights.now;
      same = same_column k;
    }

pub add-requires-clause-symbol : goal.add-requires-clause-symbol
add-requires-clause-symbol g c =
    let M = g.W.Weighing.ops in
    let k = c.args.self.now in
    let W = closed_book k.book.now in
    let s = symbol_within W (book_sound k.book.now) M k.rules.now c.loop-weighed.weighed-index c.weighed-item.result (weighs_of g.row.W-Value.coded M W k.rules.now k.weighed) c.loop-weighed-test.true c.weighed-item.is in
    omega (arith, s, k.counts)

pub add-requires-clause-room : goal.add-requires-clause-room
add-requires-clause-room g c = omega (arith, c.cell-cell.ensures.room, c.loop-weighed.invariant.same.long)

pub loop-weighed-preserved : goal.loop-weighed-preserved
loop-weighed-preserved g c =
    let M = g.W.Weighing.ops in
    let k = c.args.self.now in
    let W = closed_book k.book.now in
    let cell = c.cell-cell.result in
    let w = c.weighed-item.result in
    let mid = c.loop-weighed.self in
    let is = c.add.new.weights in
    let v = c.event_weight-weight.result in
    let same = c.loop-weighed.invariant.same in
    record {
      outside = same_then M.zero cell (cell + k.symbols) k.weights.now mid.weights.now is c.loop-weighed.invariant.outside c.add.ensures.0;
      events = events_more W M g.met.W.Weighing.semiring (closed_fits g.A.Alphabet.test k.book.now) c.args.event k.symbols cell
          k.rules.now c.loop-weighed.weighed-index w v k.weights.now mid.weights.now is
          (weighs_of g.row.W-Value.coded M W k.rules.now k.weighed) c.loop-weighed-test.true c.weighed-item.is
          (subst (λ b. v ≡ cond (terminal_fits (closed_fits g.A.Alphabet.test b.now) c.args.event (right_side_of w.rule.right)) w.weight M.zero) same.book c.event_weight-weight.ensures)
          c.add.ensures c.loop-weighed.invariant.events;
      same = record { book = same.book; rules = same.rules; symbols = same.symbols; end = same.end; long = c.add.auto.weights ∙ same.long; table = same.table };
    }

pub returns : goal.returns
returns g c =
    let M = g.W.Weighing.ops in
    let k = c.args.self.now in
    let W = closed_book k.book.now in
    let is = c.loop-weighed.self in
    let place = cell_place k.symbols k.end (k.end - 1) in
    let many = weighed_many W M k.rules.now (weighs_of g.row.W-Value.coded M W k.rules.now k.weighed) in
    record {
      outside = subst (λ a. SameOutside M.zero a (a + k.symbols) k.weights.now is.weights.now) c.cell-cell.ensures.is c.loop-weighed.invariant.outside;
      added = subst (λ a. Added M k.symbols a (over_event W M (closed_fits g.A.Alphabet.test k.book.now) c.args.event) k.weights.now is.weights.now) c.cell-cell.ensures.is
          (events_all W M g.met.W.Weighing.semiring (closed_fits g.A.Alphabet.test k.book.now) c.args.event k.symbols c.cell-cell.result
          c.loop-weighed.weighed-index k.weights.now is.weights.now k.counts (omega (arith, c.loop-weighed-test.false, many)) c.loop-weighed.invariant.events);
      same = c.loop-weighed.invariant.same;
    }
