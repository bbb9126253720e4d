use Rattle.std.proofs.Common.{◌≡◌, map, take, subst, ◌+◌, ◌<◌, length, set, sym, ap, ◌∙◌, arith}
use Rattle.std.proofs.lemmas.List.{take_all}
use Rattle.replay.specs.Calls.{chart_call_of}
use Rattle.replay.specs.Leavings.{Leaves}
use Rattle.grammar.specs.Binarise.{binarised}
use Rattle.book.specs.Books.{closed_book, closed_fits}
use Rattle.replay.proofs.ChartTurns.{ChartMade, chart_more}
use Rattle.replay.proofs.Leaving.{turn_leaves}
use Rattle.replay.proofs.chart_run.run_chart.Goals as goal

pub loop-place-preserved : goal.loop-place-preserved
loop-place-preserved g c =
    let M = g.W.Weighing.ops in
    let test = g.A.Alphabet.test in
    let k = c.loop-place.place in
    let m = c.loop-place.invariant in
    let made = c.call_chart.ensures in
    let room : k < length c.loop-place.answers = omega arith in
    let more : ChartMade M test (binarised (closed_book c.args.book.now)).symbols (length c.args.weights.now) c.args.calls.now (k + 1) (set c.loop-place.answers k c.call_chart.result) c.call_chart.new.chart =
    chart_more M test _ _ _ _ _ _ _ _ _ _ m.0 c.loop-place-test.true room (sym c.index-calls-place.is) made.says made.kind made.runs made.long made.book in
    let leaves = turn_leaves M test c.args.book.now c.args.calls.now k c.args.weights.now _ _ _ _ _ _ _ m.0 more c.loop-place-test.true (sym c.index-calls-place.is) m.2 made.book made.outside m.1 in
    (search more, search leaves, ap (λ b. b.now) made.book ∙ m.2, made.same ∙ m.3)

pub returns-clause-leaves : goal.returns-clause-leaves
returns-clause-leaves g c =
    let all : take c.loop-place.place c.args.calls.now ≡ c.args.calls.now = take_all c.loop-place.place c.args.calls.now c.loop-place-test.false in
    let leaves = subst (λ calls. Leaves (closed_book c.args.book.now) g.W.Weighing.ops (closed_fits g.A.Alphabet.test c.args.book.now) (map chart_call_of calls) c.args.weights.now c.loop-place.chart.weights.now) all c.loop-place.invariant.1 in
    search leaves
