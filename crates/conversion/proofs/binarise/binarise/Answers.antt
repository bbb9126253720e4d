use Rattle.std.proofs.Common.{arith}
use Rattle.conversion.specs.Binarised.{rows_book}
use Rattle.conversion.proofs.Divided.{upto_none, upto_room, upto_more, head_small, beyond_count, beyond_more, beyond_all, split_is}
use Rattle.conversion.proofs.binarise.binarise.Goals as goal

pub loop-n-init : goal.loop-n-init
loop-n-init c = upto_none (rows_book c.args.productions.now c.args.patterns) c.new.result.items c.new.ensures

pub production-requires-clause-room : goal.production-requires-clause-room
production-requires-clause-room c =
    (upto_room c.args.productions.now c.args.patterns c.loop-n.n c.loop-n.out c.index-productions-n.result c.requires c.loop-n-test.true c.index-productions-n.is c.loop-n.invariant).0

pub production-requires-clause-tails : goal.production-requires-clause-tails
production-requires-clause-tails c =
    (upto_room c.args.productions.now c.args.patterns c.loop-n.n c.loop-n.out c.index-productions-n.result c.requires c.loop-n-test.true c.index-productions-n.is c.loop-n.invariant).1

pub production-requires-clause-head : goal.production-requires-clause-head
production-requires-clause-head c =
    head_small c.args.productions.now c.args.patterns c.loop-n.n c.index-productions-n.result c.requires c.loop-n-test.true c.index-productions-n.is

pub loop-n-preserved : goal.loop-n-preserved
loop-n-preserved c =
    upto_more c.args.productions.now c.args.patterns c.loop-n.n c.loop-n.out c.production.new.self c.index-productions-n.result c.loop-n-test.true c.index-productions-n.is c.loop-n.invariant (c.production.ensures.rules, c.production.ensures.symbols)

pub push-requires-clause-room : goal.push-requires-clause-room
push-requires-clause-room c =
    beyond_count c.args.productions.now c.args.patterns c.loop-t.t c.loop-t.out c.requires (omega arith) c.loop-t.invariant

pub loop-t-preserved : goal.loop-t-preserved
loop-t-preserved c = beyond_more (rows_book c.args.productions.now c.args.patterns) c.loop-t.t c.loop-t.out c.push.new.self c.loop-t.invariant (c.push.ensures.rules, omega arith)

pub returns : goal.returns
returns c =
    let W = rows_book c.args.productions.now c.args.patterns in
    let all = beyond_all W c.loop-t.t c.loop-t.out (omega arith) c.loop-t.invariant in
    split_is W c.loop-t.out all.0 all.1
