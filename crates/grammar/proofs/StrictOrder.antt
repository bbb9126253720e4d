-- The list of strict rules: what it holds, and its order.
use Rattle.std.proofs.Common.{◌≡◌, ℕ, zero, ◌<◌, Bool, true, false, cond, ◌⊎◌, List, [], ◌∷◌, map, sym, refl, ap, ◌∙◌, subst, inl, inr, arith}
use Rattle.grammar.specs.Lists.{Mem, those, below, Sorted}
use Rattle.grammar.specs.Binarise.{binarised}
use Rattle.grammar.specs.Binarised.{Has, OwnRule, rules_of, Binarised}
use Rattle.grammar.specs.Chains.{ChainStep, UnitChain, reached, chosen_chain}
use Rattle.grammar.specs.Strict.{StrictFormRule, strict_rule, strict_rules_of, strict_rules, proper, Before}
use Rattle.grammar.specs.Productions.{Book, Sound}
use Rattle.grammar.specs.Promises.{StrictList, TheStrictList}
use Rattle.grammar.proofs.Lists.{sorted_same, sorted_each, rising_up, rising_those, mem_map, map_mem, mem_each, those_mem, mem_those}
use Rattle.grammar.proofs.Nullable.{has_rule}
use Rattle.grammar.proofs.Chains.{chain_leads, mem_reached, chain_within}
use Rattle.grammar.proofs.BinarisedRules.{Ascending, binarised_bounded, binarised_ascending}
use Rattle.grammar.proofs.StrictForm.{strict_rule_of, strict_mem, mem_strict}

reached_rising : (B : Binarised) (x : ℕ) → Sorted ◌<◌ (reached B x)
unfolding reached
reached_rising B x = rising_those _ (below B.symbols) (rising_up zero B.symbols)

group_sorted : (x y : ℕ) (p : OwnRule → Bool) (os : List OwnRule) → Ascending os → Sorted Before (map (strict_rule x y) (those p os))
group_sorted x y p [] h = tt
group_sorted x y p (o ∷ os) h = (elim (p o) as (λ b. Sorted Before (map (strict_rule x y) (cond b (o ∷ those p os) (those p os)))) [
  | true ↦ (
    (λ q m. let k = map_mem (strict_rule x y) q (those p os) m in
        subst (Before (strict_rule x y o)) (sym k.2) (inr (refl, inr (refl, h.0 k.0 (those_mem p k.0 os k.1).0)))),
    group_sorted x y p os h.1,
  )
  | false ↦ group_sorted x y p os h.1
])

module _ (W : Book) (S : Sound W) where
  of_sorted : (x : ℕ) → Sorted Before (strict_rules_of (binarised W) x)
  unfolding strict_rules_of
  of_sorted x = sorted_each Before (λ y. map (strict_rule x y) (those (λ (o : OwnRule). proper o.1) (rules_of (binarised W) y))) (reached (binarised W) x) (reached_rising (binarised W) x)
      (λ y. group_sorted x y (λ (o : OwnRule). proper o.1) (rules_of (binarised W) y) (binarised_ascending W S y))
      (λ z y a b l m n.
      let i = map_mem (strict_rule x z) a _ m in
      let j = map_mem (strict_rule x y) b _ n in
      let f : a.symbol ≡ x = ap (λ r. r.symbol) i.2 in
      let g : b.symbol ≡ x = ap (λ r. r.symbol) j.2 in
      let f' : a.end ≡ z = ap (λ r. r.end) i.2 in
      let g' : b.end ≡ y = ap (λ r. r.end) j.2 in
      inr (f ∙ sym g, inl (omega arith)))

  all_sorted : Sorted Before (strict_rules (binarised W))
  unfolding strict_rules
  all_sorted = sorted_each Before (strict_rules_of (binarised W)) (below (binarised W).symbols) (rising_up zero (binarised W).symbols) of_sorted
      (λ z y a b l m n.
      let f : a.symbol ≡ z = (strict_rule_of (binarised W) z a m).0 in
      let g : b.symbol ≡ y = (strict_rule_of (binarised W) y b n).0 in
      inl (omega arith))

  holds : (r : StrictFormRule) → (c : List ChainStep) → r.symbol < (binarised W).symbols → UnitChain (binarised W) r.symbol c r.end → Has (binarised W) r.end r.number r.right → proper r.right ≡ true
      → Mem r (strict_rules_of (binarised W) r.symbol)
  unfolding strict_rules_of
  holds r c l h m p =
      let y< = binarised_bounded W S _ m in
      mem_each (λ y. map (strict_rule r.symbol y) (those (λ (o : OwnRule). proper o.1) (rules_of (binarised W) y))) r.end r (reached (binarised W) r.symbol)
      (mem_reached (binarised W) (binarised_bounded W S) r.symbol r.end y< (chain_within (binarised W) (binarised_bounded W S) r.end y< r.symbol c h))
      (mem_map (strict_rule r.symbol r.end) (r.number, r.right) (those (λ (o : OwnRule). proper o.1) (rules_of (binarised W) r.end))
      (mem_those (λ (o : OwnRule). proper o.1) (r.number, r.right) (rules_of (binarised W) r.end) (has_rule (binarised W) r.end r.number r.right m) p))

-- no two strict rules stand before each other
pub before_once : (r q : StrictFormRule) → Before r q → Before q r → ⊥
before_once r q (inl a) (inl b) = omega arith
before_once r q (inl a) (inr b) = let e = b.0 in omega arith
before_once r q (inr a) (inl b) = let e = a.0 in omega arith
before_once r q (inr a) (inr b) = ends a.1 b.1
  where
    ends : (r.end < q.end) ⊎ ((r.end ≡ q.end) × (r.number < q.number)) → (q.end < r.end) ⊎ ((q.end ≡ r.end) × (q.number < r.number)) → ⊥
    ends (inl c) (inl d) = omega arith
    ends (inl c) (inr d) = let e = d.0 in omega arith
    ends (inr c) (inl d) = let e = c.0 in omega arith
    ends (inr c) (inr d) = let e = c.1 in let f = d.1 in omega arith

pub strict_listed : (W : Book) → Sound W → TheStrictList (binarised W)
strict_listed W S = record {
  is_list = this;
  only = λ rs l. sorted_same Before before_once rs (strict_rules (binarised W)) l.ascending this.ascending
      (λ r m. (this.exactly r).1 ((l.exactly r).0 m)) (λ r m. (l.exactly r).1 ((this.exactly r).0 m));
}
  where
    this : StrictList (binarised W) (strict_rules (binarised W))
    this = record {
      exactly = λ r. (
        (λ m.
            let k = strict_mem (binarised W) r m in
            let c = strict_rule_of (binarised W) r.symbol r k.1 in
            record {
              a_symbol = k.0;
              reaches = (chosen_chain (binarised W) r.symbol r.end, chain_leads (binarised W) (binarised_bounded W S) r.symbol r.end c.1);
              is_rule = c.2;
              is_proper = c.3;
            }),
        (λ q. mem_strict (binarised W) r.symbol r q.a_symbol (holds W S r q.reaches.0 q.a_symbol q.reaches.1 q.is_rule q.is_proper)),
      );
      ascending = all_sorted W S;
    }
