-- Binarised rules whose symbols are below the number of symbols.
use Rattle.std.proofs.Common.{ℕ, ◌<◌, List, [], ◌∷◌, ◌++◌, map, ap, subst, inl, inr, arith}
use Rattle.std.proofs.lemmas.List.{map_push}
use Rattle.grammar.specs.Lists.{Mem}
use Rattle.grammar.specs.Binarised.{Rule, Bounded}
use Rattle.grammar.proofs.Lists.{mem_append}
use Rattle.conversion.specs.declared.right.BinarisedRule.{BinarisedRule}
use Rattle.conversion.specs.Views.{rule_of, binarised_of}

-- one rule more
pub bounded_push : (rules : List BinarisedRule) (S : ℕ) (r : BinarisedRule) → Bounded (binarised_of rules S) → r.left < S → Bounded (binarised_of (rules ++ (r ∷ [])) S)
bounded_push rules S r b l q m =
    elim (mem_append q (map rule_of rules) (rule_of r ∷ []) (subst (λ rs. Mem q rs) (map_push rule_of rules r) m))
    [ inl k ↦ b q k | inr k ↦ elim k [ inl e ↦ omega (arith, ap (λ (z : Rule). z.left) e) | inr n ↦ absurd n ] ]
