-- The totals of the three weighings.
use Rattle.std.proofs.Common.{◌≡◌, ℕ, Bool, List, sym, refl, ap, ◌∙◌, arith}
use Rattle.grammar.specs.Productions.{Book, Sound}
use Rattle.grammar.specs.Weighings.{yes_no, counts, costs, Keeps}
use Rattle.grammar.specs.Weights.{total_of}
use Rattle.grammar.proofs.Grammars.{generates_reads}
use Rattle.grammar.proofs.Totals.{sums_plain, none_exact, least_exact, carries}
use Rattle.grammar.proofs.Chart.{yes_chart, symbol_sets}
use Rattle.weighing.specs.declared.capped.Capped.{Capped}
use Rattle.weighing.specs.Values.{counts as capped_counts, least_costs}
use Rattle.weighing.specs.Laws.{counts_laws}
use Rattle.chart.specs.Totals.{Explained, CountsReadings, IsLeastCost}

abbrev C : ℕ
C = 4294967295

-- the capped numbers are the numbers of the definitions
counts_kept : Keeps capped_counts (counts C) (λ (c : Capped). c.n)
counts_kept = record { zero_to = refl; one_to = refl; plus_to = λ a b. refl; times_to = λ a b. refl; weight_to = λ c h. refl }

costs_kept : Keeps least_costs (costs C) (λ (c : Capped). c.n)
costs_kept = record { zero_to = refl; one_to = refl; plus_to = λ a b. refl; times_to = λ a b. refl; weight_to = λ c h. omega arith }

module _ {E : Type 0} (W : Book) (sound : Sound W) (fits : E → ℕ → Bool) (es : List E) where
  pub explained_by : (r : Bool) → r ≡ total_of W yes_no fits es → Explained W fits es r
  explained_by r e =
      let exact = none_exact E C (omega arith) W sound fits es in
      record {
        is_total = e;
        yes = ((λ q. exact.says_yes.0 (sym e ∙ q)), (λ q. e ∙ exact.says_yes.1 q));
        no = ((λ q. exact.says_no.0 (sym e ∙ q)), (λ q. e ∙ exact.says_no.1 q));
        generated = ((λ q. (generates_reads W fits 0 es).1 (exact.says_yes.0 (sym e ∙ q))), (λ q. e ∙ exact.says_yes.1 ((generates_reads W fits 0 es).0 q)));
        sets = λ x. symbol_sets E W sound fits x;
        cells = λ x w. yes_chart E W sound fits x w;
      }

  pub counted_by : (r : ℕ) (v : Capped) → r ≡ v.n → v ≡ total_of W capped_counts fits es → CountsReadings W fits C es r
  counted_by r v n e =
      let exact = none_exact E C (omega arith) W sound fits es in
      let total : r ≡ total_of W (counts C) fits es = n ∙ ap (λ (c : Capped). c.n) e ∙ (carries capped_counts (counts C) E (λ (c : Capped). c.n) counts_kept W sound fits).totals es in
      record {
        is_total = total;
        listed = (sums_plain capped_counts counts_laws E W sound fits es).listed;
        count = λ rs p. total ∙ exact.count rs p;
        none = ((λ q. exact.count_none.0 (sym total ∙ q)), (λ q. total ∙ exact.count_none.1 q));
      }

  pub least_by : (r : ℕ) (v : Capped) → r ≡ v.n → v ≡ total_of W least_costs fits es → IsLeastCost W fits C es r
  least_by r v n e =
      let total : r ≡ total_of W (costs C) fits es = n ∙ ap (λ (c : Capped). c.n) e ∙ (carries least_costs (costs C) E (λ (c : Capped). c.n) costs_kept W sound fits).totals es in
      record { is_total = total; least = (least_exact E C (omega arith) W sound fits es r).0 (sym total) }
