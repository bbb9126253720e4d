use Rattle.std.proofs.Common.{rules, arith}
use Rattle.programs.proofs.Feeding.{no_event, one_event, all_events, stopped}
use Rattle.programs.proofs.totals.feed_all.Goals as goal

pub loop-event-init : goal.loop-event-init
loop-event-init g c = no_event g.W.Weighing.ops g.A.Alphabet.test c.args.trace.now c.args.chart.now

pub loop-event-preserved : goal.loop-event-preserved
loop-event-preserved g c =
    one_event g.W.Weighing.ops g.A.Alphabet.test c.args.trace.now c.loop-event.event-index _ c.args.chart.now c.loop-event.chart c.feed.new.self _
    c.loop-event-test.true (search (rules, c.event-item.is)) c.loop-event.invariant c.in_ok-feed.ensures.fed c.in_ok-feed.ensures.book c.in_ok-feed.ensures.long c.in_ok-feed.ensures.same

pub returns-in_err-feed-clause-fed : goal.returns-in_err-feed-clause-fed
returns-in_err-feed-clause-fed g c =
    stopped g.W.Weighing.ops g.A.Alphabet.test _ c.args.trace.now c.loop-event.event-index c.event-item.result c.args.chart.now c.loop-event.chart c.feed.new.self
    c.from_residual.result c.in_err-feed.field-0.0 c.from_residual.ensures.0 c.loop-event-test.true c.loop-event.invariant c.in_err-feed.ensures.fed

pub returns-clause-fed : goal.returns-clause-fed
returns-clause-fed g c = all_events g.W.Weighing.ops g.A.Alphabet.test c.args.trace.now c.loop-event.event-index c.args.chart.now c.loop-event.chart (tt {0}) (omega arith) c.loop-event.invariant
