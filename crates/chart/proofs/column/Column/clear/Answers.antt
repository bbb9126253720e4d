use Rattle.std.proofs.Common.{◌≡◌, ◌+◌, subst, ◌∙◌, length-set, arith}
use Rattle.chart.specs.Table.{column_place}
use Rattle.chart.specs.Inner.{Cleared}
use Rattle.chart.proofs.Places.{start_mono}
use Rattle.chart.proofs.Adding.{cleared_none, cleared_more}
use Rattle.chart.proofs.SameColumns.{same_column}
use Rattle.chart.proofs.column.Column.clear.Goals as goal

pub loop-place-init : goal.loop-place-init
loop-place-init g c = record {
  cleared = cleared_none g.W.Weighing.ops c.column_place-from.result _ c.args.self.now.weights.now (omega arith);
  same = same_column c.args.self.now;
}

pub loop-place-preserved : goal.loop-place-preserved
loop-place-preserved g c =
    let same = c.loop-place.invariant.same in
    record {
      cleared = cleared_more g.W.Weighing.ops c.column_place-from.result c.loop-place.place _ c.zero.result c.args.self.now.weights.now c.loop-place.self.weights.now
          (omega arith) (omega arith) (omega (arith, c.loop-place-test.true, c.column_place-to.ensures, c.args.self.now.long, same.long)) c.zero.ensures c.loop-place.invariant.cleared;
      same = record { book = same.book; rules = same.rules; symbols = same.symbols; end = same.end; long = length-set _ _ _ ∙ same.long; table = same.table };
    }

pub returns : goal.returns
returns g c =
    let M = g.W.Weighing.ops in
    let was = c.args.self.now in
    let is = c.loop-place.self in
    let first : c.column_place-from.result ≡ column_place was.symbols was.end = omega (arith, c.column_place-from.ensures) in
    let rises = start_mono was.symbols was.end (was.end + 1) (omega arith) in
    let last : c.loop-place.place ≡ column_place was.symbols (was.end + 1) =
    omega (arith, c.column_place-to.ensures, c.loop-place-test.false, c.loop-place.auto.place-end (omega (arith, c.column_place-from.ensures, c.column_place-to.ensures, rises))) in
    record {
      cleared = subst (λ b. Cleared M (column_place was.symbols was.end) b was.weights.now is.weights.now) last
          (subst (λ a. Cleared M a c.loop-place.place was.weights.now is.weights.now) first c.loop-place.invariant.cleared);
      same = c.loop-place.invariant.same;
    }
