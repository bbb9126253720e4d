use Rattle.programs.proofs.Feeding.{Sofar}
use Rattle.programs.proofs.totals.feed_all.Given as goal

-- the events so far were all fed, and are held behind those of before
abbrev pub invariant-loop-event : goal.invariant-loop-event
invariant-loop-event g l = Sofar g.W.Weighing.ops g.A.Alphabet.test l.trace l.event-index l.fn.chart l.chart
