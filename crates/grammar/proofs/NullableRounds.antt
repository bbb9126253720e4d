-- What each round of the search for nullable symbols brings in.
use Rattle.std.proofs.Common.{◌≡◌, ℕ, zero, suc, true, false, ◌↔◌, sym, refl, ap, ◌∙◌, subst, inl, inr, true≢false, Bool}
use Rattle.std.proofs.lemmas.Bool.{or_left, or_right, or_cases, and_parts, and_from}
use Rattle.grammar.specs.Lists.{Mem}
use Rattle.grammar.specs.Binarised.{Bounded, Right, empty, unit, binary, terminal, Binarised, Has, OwnRule, rules_of}
use Rattle.grammar.specs.Nullable.{nullable, Comes, was_in, over_unit, over_binary, ready, next_round, nullable_after}
use Rattle.grammar.specs.Binarise.{binarised}
use Rattle.grammar.proofs.Rounds.{in_the_end}
use Rattle.grammar.proofs.BinarisedRules.{binarised_bounded}
use Rattle.grammar.proofs.Lists.{some_from, some_gives}
use Rattle.grammar.proofs.Nullable.{rounds_next, rounds_grow, rounds_small, rule_has, has_rule}
use Rattle.grammar.specs.Productions.{Book, Sound}
use Rattle.grammar.specs.Promises.{Rounds}

as_round : (B : Binarised) (k : ℕ) → nullable_after B (suc k) ≡ next_round B (nullable_after B k)
unfolding nullable_after
as_round B k = refl

-- the first round finds the symbols with an empty rule
pub rounds_first : (B : Binarised) (x : ℕ) → (nullable_after B 1 x ≡ true) ↔ ((n : ℕ) × Has B x n empty)
unfolding nullable_after
rounds_first B x = (
  (λ t. let r = some_gives (λ (o : OwnRule). ready (λ y. false) o.1) (rules_of B x) t in only r.0 r.1 r.0.1 refl r.2),
  (λ m. some_from (λ (o : OwnRule). ready (λ y. false) o.1) (m.0, empty) (rules_of B x) (has_rule B x m.0 empty m.1) refl),
)
  where
    only : (o : OwnRule) → Mem o (rules_of B x) → (b : Right) → o.1 ≡ b → ready (λ y. false) o.1 ≡ true → (n : ℕ) × Has B x n empty
    only o m empty e t = (o.0, subst (Has B x o.0) e (rule_has B x o m))
    only o m (unit y) e t = absurd (true≢false (sym (rw e at t)))
    only o m (binary y z) e t = absurd (true≢false (sym (rw e at t)))
    only o m (terminal p) e t = absurd (true≢false (sym (rw e at t)))

still_nullable : (B : Binarised) (k x : ℕ) → nullable_after B 1 x ≡ true → nullable_after B (suc k) x ≡ true
unfolding nullable_after
still_nullable B zero x t = t
still_nullable B (suc k) x t = or_left (nullable_after B (suc k) x) _ (still_nullable B k x t)

-- each further round adds the symbols with a unit rule to a symbol found, or a binary rule to two symbols found
pub rounds_more : (B : Binarised) (k x : ℕ) → (nullable_after B (suc (suc k)) x ≡ true) ↔ Comes B (nullable_after B (suc k)) x
rounds_more B k x = (to, from)
  where
    by : (o : OwnRule) → Mem o (rules_of B x) → (b : Right) → o.1 ≡ b → ready (nullable_after B (suc k)) b ≡ true → Comes B (nullable_after B (suc k)) x
    by o m empty e t = was_in (still_nullable B k x ((rounds_first B x).1 (o.0, subst (Has B x o.0) e (rule_has B x o m))))
    by o m (unit y) e t = over_unit o.0 y (subst (Has B x o.0) e (rule_has B x o m)) t
    by o m (binary y z) e t = let r = and_parts (nullable_after B (suc k) y) (nullable_after B (suc k) z) t in over_binary o.0 y z (subst (Has B x o.0) e (rule_has B x o m)) r.0 r.1
    by o m (terminal p) e t = absurd (true≢false (sym t))

    to : nullable_after B (suc (suc k)) x ≡ true → Comes B (nullable_after B (suc k)) x
    to t = elim (or_cases (nullable_after B (suc k) x) _ (ap (λ g. g x) (sym (as_round B (suc k))) ∙ t)) [
      | inl e ↦ was_in e
      | inr e ↦ let r = some_gives (λ (o : OwnRule). ready (nullable_after B (suc k)) o.1) (rules_of B x) e in by r.0 r.1 r.0.1 refl r.2
    ]

    from : Comes B (nullable_after B (suc k)) x → nullable_after B (suc (suc k)) x ≡ true
    from (was_in e) = ap (λ g. g x) (as_round B (suc k)) ∙ or_left (nullable_after B (suc k) x) _ e
    from (over_unit n y m e) = ap (λ g. g x) (as_round B (suc k)) ∙ or_right (nullable_after B (suc k) x) _
        (some_from (λ (o : OwnRule). ready (nullable_after B (suc k)) o.1) (n, unit y) (rules_of B x) (has_rule B x n (unit y) m) e)
    from (over_binary n y z m e f) = ap (λ g. g x) (as_round B (suc k)) ∙ or_right (nullable_after B (suc k) x) _
        (some_from (λ (o : OwnRule). ready (nullable_after B (suc k)) o.1) (n, binary y z) (rules_of B x) (has_rule B x n (binary y z) m) (and_from (nullable_after B (suc k) y) (nullable_after B (suc k) z) e f))

pub found_in_rounds : (W : Book) → Sound W → (x : ℕ) → Rounds (binarised W) x
unfolding nullable
found_in_rounds W S x = record {
  first = rounds_first B x;
  further = λ k. rounds_more B k x;
  all = ((λ t. (B.symbols, t)), (λ k. in_the_end (next_round B) (nullable_after B) B.symbols (rounds_next B bd) (rounds_grow B bd) (rounds_small B bd) k.0 x k.1));
}
  where
    B : Binarised
    B = binarised W

    bd : Bounded B
    bd = binarised_bounded W S
