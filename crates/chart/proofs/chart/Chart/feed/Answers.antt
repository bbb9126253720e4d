use Rattle.std.proofs.Common.{◌≡◌, ◌+◌, ◌<◌, ◌≤◌, ◌⊎◌, inl, inr, Ok, Err, length, ap, ◌∙◌, refl, subst, arith, rules}
use Rattle.std.proofs.lemmas.List.{length_push}
use Rattle.grammar.proofs.Chart.{span_equations}
use Rattle.chart.specs.Table.{column_place}
use Rattle.chart.specs.Events.{chart_symbols}
use Rattle.chart.proofs.Totalling.{no_refusal, outside_as}
use Rattle.chart.specs.declared.fault.FeedFault.TheVariants.{NoRoom}
use Rattle.chart.proofs.Running.{no_room, feed_runs}
use Rattle.chart.proofs.chart.Chart.feed.Goals as goal
use Rattle.chart.proofs.chart.Chart.feed.Goals.{then-n-ge-EVENTS-via-then-n-ge-EVENTS, then-n-ge-EVENTS-via-else-n-ge-EVENTS+then-self-column_place}

pub fill-requires : goal.fill-requires
fill-requires g c =
    let was = c.args.self.now in
    let n = was.events in
    let S = chart_symbols was in
    let next : n + 2 ≡ n + 1 + 1 = omega arith in
    let long : column_place S (n + 2) ≤ length was.weights.now = omega (arith, c.column_place.ensures ∙ ap (λ s. column_place s (n + 2)) c.symbols.ensures.means, c.if-self-column_place.false) in
    record {
      events = (omega arith, omega (arith, c.if-n-ge-EVENTS.false));
      room = subst (λ j. column_place S j ≤ length was.weights.now) next long;
    }

-- the feed of an event that was admitted
pub returns-clause-fed : goal.returns-clause-fed
returns-clause-fed g c =
    let was = c.args.self.now in
    let n = was.events in
    let S = chart_symbols was in
    let long : column_place S (n + 2) ≤ length was.weights.now = omega (arith, c.column_place.ensures ∙ ap (λ s. column_place s (n + 2)) c.symbols.ensures.means, c.if-self-column_place.false) in (
      no_refusal S (length was.weights.now) n (omega (arith, c.if-n-ge-EVENTS.false)) long,
      omega arith,
      omega arith,
      (λ es h. record { many = length_push es c.args.event ∙ ap (λ k. k + 1) h.many; chart = c.fill.ensures.chart es (ap (λ k. k + 1) h.many) h.chart }),
      outside_as g.W.Weighing.ops.zero S S n n was.weights.now c.fill.new.weights refl refl c.fill.ensures.outside,
    )

pub returns-clause-runs : goal.returns-clause-runs
returns-clause-runs g c = feed_runs g.W.Weighing.ops g.A.Alphabet.test c.args.event c.args.self.now _ (Ok _) (returns-clause-fed g c) refl (search rules)

pub returns-then-n-ge-EVENTS-clause-runs : goal.returns-then-n-ge-EVENTS-clause-runs
returns-then-n-ge-EVENTS-clause-runs g c =
    let was = c.args.self.now in
    let n = was.events in
    let S = chart_symbols was in
    let m = length was.weights.now in
    let none : (256 ≤ n) ⊎ (m < column_place S (n + 2)) = elim c.then-n-ge-EVENTS.branch [
      | then-n-ge-EVENTS-via-then-n-ge-EVENTS w ↦ inl (omega (arith, w.if-n-ge-EVENTS.true))
      | then-n-ge-EVENTS-via-else-n-ge-EVENTS+then-self-column_place w ↦ inr (omega (arith, w.column_place.ensures ∙ ap (λ s. column_place s (n + 2)) w.symbols.ensures.means, w.if-self-column_place.true))
    ] in
    feed_runs g.W.Weighing.ops g.A.Alphabet.test c.args.event was was (Err NoRoom) (no_room S m n was.few none, refl) refl refl

pub returns-clause-equations : goal.returns-clause-equations
returns-clause-equations g c es x i = span_equations g.W.Weighing.ops g.met.W.Weighing.semiring _ _ _ es x i

pub returns-then-n-ge-EVENTS-clause-equations : goal.returns-then-n-ge-EVENTS-clause-equations
returns-then-n-ge-EVENTS-clause-equations g c es x i = span_equations g.W.Weighing.ops g.met.W.Weighing.semiring _ _ _ es x i
