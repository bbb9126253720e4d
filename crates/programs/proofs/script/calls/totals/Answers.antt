use Rattle.std.proofs.Common.{◌≡◌, ℕ, Bool}
use Rattle.grammar.specs.Weights.{total_of}
use Rattle.weighing.specs.Values.{counts as capped_counts, least_costs}
use Rattle.chart.proofs.ByKind.{counted_by, least_by}
use Rattle.programs.specs.declared.totals.Totals.{Totals}
use Rattle.programs.specs.Output.{trace_totals}
use Rattle.programs.specs.Calls.{calls_book, calls_fits, calls_events}
use Rattle.programs.proofs.script.calls.totals.Goals as goal

-- three totals that are equal one by one
same_totals : (a b : Bool) (m n k l : ℕ) → a ≡ b → m ≡ n → k ≡ l
    → ◌≡◌ {A = Totals} (record { verdict = record { 0 = a }; count = m; least = k }) (record { verdict = record { 0 = b }; count = n; least = l })
same_totals a b m n k l e f h = λ i. record { verdict = record { 0 = e i }; count = f i; least = h i }

pub returns : goal.returns
returns g c =
    let W = calls_book c.args.calls.now in
    let fits = calls_fits g.A.Alphabet.test c.args.calls.now in
    let es = calls_events c.args.weights c.args.calls.now in
    let counts : c.in_ok-total-2.field-0 ≡ total_of W capped_counts fits es = search c.in_ok-total-2.ensures.total in
    let costs : c.in_ok-total-3.field-0 ≡ total_of W least_costs fits es = search c.in_ok-total-3.ensures.total in
    let count = (counted_by W c.requires fits es c.value.result c.in_ok-total-2.field-0 c.value.ensures counts).is_total in
    let least = (least_by W c.requires fits es c.value-2.result c.in_ok-total-3.field-0 c.value-2.ensures costs).is_total in
    let t = trace_totals W fits es in
    same_totals c.in_ok-total.field-0 t.verdict.0 c.value.result t.count c.value-2.result t.least c.in_ok-total.ensures.total count least
