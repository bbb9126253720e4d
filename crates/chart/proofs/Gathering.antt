-- The pairs over a right cell, rule by rule.
use Rattle.std.proofs.Common.{◌≡◌, ℕ, ◌+◌, ◌<◌, ◌≤◌, cond, eqb, List, [], length, get_or, take, sym, ap, ◌∙◌, subst, ap₂, ⊎_elim, arith}
use Rattle.std.proofs.lemmas.List.{take_all}
use Rattle.grammar.specs.Lists.{Mem}
use Rattle.grammar.specs.Semiring.{Ops, Semiring}
use Rattle.grammar.specs.Productions.{Book, Sound}
use Rattle.grammar.specs.Binarise.{binarised}
use Rattle.grammar.specs.Strict.{StrictFormRule, strict_rules}
use Rattle.conversion.specs.Views.{strict_rule_of}
use Rattle.chart.specs.declared.pairs.Pair.{Pair}
use Rattle.chart.specs.declared.weighed.WeighedRule.{WeighedRule}
use Rattle.chart.specs.Weights.{Weighs}
use Rattle.chart.specs.Inner.{over_parts, pairs_sum, PairsWithin, PairAdded}
use Rattle.chart.proofs.SumLaws.{sum_more}
use Rattle.chart.proofs.PairSums.{side_sum}
use Rattle.chart.proofs.RuleSums.{rules_sum, all_parts, weighed_at, weighed_mem, parts_within}

-- the pairs that the first i strict rules give
pub record Gathered {V : Type 0} (W : Book) (M : Ops V) (right : ℕ → V) (i : ℕ) (ps : List (Pair V)) : Type 0 where
  pub sums : (left : ℕ → V) (x : ℕ) → pairs_sum M left x ps ≡ rules_sum W M left right x (take i (strict_rules (binarised W)))
  pub within : PairsWithin (binarised W).symbols ps
  pub few : length ps ≤ i

module _ {V : Type 0} (W : Book) (M : Ops V) (L : Semiring M) (right : ℕ → V) where
  pub gathered_none : (ps : List (Pair V)) → ps ≡ [] → Gathered W M right 0 ps
  gathered_none ps e = record {
    sums = λ left x. ap (pairs_sum M left x) e;
    within = λ p m. absurd (subst (Mem p) e m);
    few = omega (arith, ap length e);
  }

  pub gathered_more : (S : Sound W) (ws : List (WeighedRule V)) (i : ℕ) (w : WeighedRule V) (was is : List (Pair V))
      → Weighs M W ws → i < length ws → w ≡ get_or ws i w
      → PairAdded M w.rule w.weight right was is → Gathered W M right i was → Gathered W M right (i + 1) is
  gathered_more S ws i w was is weighs h e added sofar =
      let rs = strict_rules (binarised W) in
      let r : StrictFormRule = strict_rule_of w.rule in
      let at = weighed_at W M ws i w weighs h e in
      record {
        sums = λ left x.
            added.sums left x
            ∙ ap₂ (λ a b. M.plus a (cond (eqb w.rule.symbol x) (side_sum M b left right r.right) M.zero)) (sofar.sums left x) at.2
            ∙ sym (sum_more M L _ rs i r at.0 at.1);
        within = λ p m. ⊎_elim
            (λ (k : Mem p was). sofar.within p k)
            (λ b. let n = parts_within W S r (weighed_mem W M ws i w weighs h e) b.0 in (omega (arith, b.1, n.0), omega (arith, b.2, n.1)))
            (added.pairs p m);
        few = omega (arith, added.few, sofar.few);
      }

  pub gathered_all : (i : ℕ) (ps : List (Pair V)) → length (strict_rules (binarised W)) ≤ i → Gathered W M right i ps
      → (left : ℕ → V) (x : ℕ) → x < (binarised W).symbols → pairs_sum M left x ps ≡ over_parts W M left right x
  gathered_all i ps h all left x hx =
      all.sums left x ∙ ap (rules_sum W M left right x) (take_all i (strict_rules (binarised W)) h) ∙ all_parts W M L left right x hx
