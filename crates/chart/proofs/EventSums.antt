-- The cell over one event, rule by rule.
use Rattle.std.proofs.Common.{◌≡◌, ℕ, ◌+◌, ◌<◌, ◌≤◌, Bool, cond, eqb, List, length, get_or, take, sym, ap, ◌∙◌, subst}
use Rattle.std.proofs.lemmas.List.{take_all}
use Rattle.grammar.specs.Semiring.{Ops, Semiring}
use Rattle.grammar.specs.Productions.{Book}
use Rattle.grammar.specs.Binarise.{binarised}
use Rattle.grammar.specs.Strict.{StrictFormRule, strict_rules}
use Rattle.grammar.specs.Cells.{terminal_fits}
use Rattle.conversion.specs.Views.{right_side_of, strict_rule_of}
use Rattle.chart.specs.declared.weighed.WeighedRule.{WeighedRule}
use Rattle.chart.specs.Inner.{Added, over_event}
use Rattle.chart.specs.Weights.{Weighs}
use Rattle.chart.proofs.SumLaws.{sum_more}
use Rattle.chart.proofs.Adding.{added_none, added_then, added_as}
use Rattle.chart.proofs.RuleSums.{events_sum, all_events, weighed_at}

module _ {V E : Type 0} (W : Book) (M : Ops V) (L : Semiring M) (fits : E → ℕ → Bool) (e : E) (S place : ℕ) where
  -- what the first i strict rules give was added
  abbrev pub Events : ℕ → List V → List V → Type 0
  Events i = Added M S place (λ x. events_sum W M fits e x (take i (strict_rules (binarised W))))

  pub events_none : (was : List V) → Events 0 was was
  events_none was = added_none M L S place _ was (λ x h. λ _. M.zero)

  pub events_more : (ws : List (WeighedRule V)) (i : ℕ) (w : WeighedRule V) (v : V) (was mid is : List V)
      → Weighs M W ws → i < length ws → w ≡ get_or ws i w
      → v ≡ cond (terminal_fits fits e (right_side_of w.rule.right)) w.weight M.zero
      → Added M S place (λ x. cond (eqb w.rule.symbol x) v M.zero) mid is → Events i was mid → Events (i + 1) was is
  events_more ws i w v was mid is weighs h k t more sofar =
      let rs = strict_rules (binarised W) in
      let r : StrictFormRule = strict_rule_of w.rule in
      let at = weighed_at W M ws i w weighs h k in
      added_then M L S place (λ x. events_sum W M fits e x (take i rs)) (λ x. cond (eqb w.rule.symbol x) v M.zero) _ was mid is
      (λ x b. sum_more M L _ rs i r at.0 at.1
      ∙ ap (λ u. M.plus (events_sum W M fits e x (take i rs)) (cond (eqb w.rule.symbol x) u M.zero)) (sym (t ∙ ap (λ u. cond (terminal_fits fits e r.right) u M.zero) at.2)))
      sofar more

  pub events_all : (i : ℕ) (was is : List V) → S ≡ (binarised W).symbols → length (strict_rules (binarised W)) ≤ i → Events i was is → Added M S place (over_event W M fits e) was is
  events_all i was is s h all =
      added_as M L S place _ (over_event W M fits e) was is
      (λ x b. ap (events_sum W M fits e x) (take_all i (strict_rules (binarised W)) h) ∙ all_events W M L fits e x (subst (λ n. x < n) s b)) all
