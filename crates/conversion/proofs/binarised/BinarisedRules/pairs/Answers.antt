use Rattle.std.proofs.Common.{◌-◌, ◌<◌, length, ◌∙◌, arith}
use Rattle.std.proofs.lemmas.List.{get_or-take, length-take-le}
use Rattle.conversion.proofs.Divided.{added_count, tail_push, pairs_more}
use Rattle.conversion.proofs.binarised.BinarisedRules.pairs.Goals as goal

pub loop-item-preserved : goal.loop-item-preserved
loop-item-preserved c =
    let ys = c.args.items.now in
    let k = c.loop-item.item-index in
    let was = c.loop-item.self in
    let is = c.push.new.self in
    let tailed = c.tail-tail.ensures in
    let pushed = c.push.ensures in
    let h : k < length ys - 2 = omega (arith, length-take-le (length ys - 2) ys (omega arith)) in
    let at = get_or-take (length ys - 2) ys k 0 h in
    let added = tail_push was c.tail-tail.new.self is _ tailed.rules tailed.symbols pushed.rules pushed.symbols in (
      pairs_more was is c.loop-item.left c.args.number c.tail-tail.result k _ _ ys (omega arith) tailed.is added (omega arith) (omega arith)
          ∙ c.loop-item.invariant.0,
      omega (arith, c.loop-item.invariant.1, added.1),
      omega (arith, c.loop-item.invariant.2, added_count was is _ 1 added),
      omega (arith, tailed.is, tailed.symbols, pushed.symbols),
    )
