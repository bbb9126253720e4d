-- What is added to the cells of a table.
use Rattle.std.proofs.Common.{◌≡◌, ℕ, ◌+◌, ◌<◌, ◌≤◌, cond, eqb, ◌⊎◌, List, length, get_or, set, sym, ap, ◌∙◌, subst, ⊎_elim, arith}
use Rattle.std.proofs.lemmas.List.{get_or-set_same, get_or-set_other}
use Rattle.std.proofs.lemmas.Bool.{cases_eq, cond-true, cond-false, eq-eqb, ne_eqb}
use Rattle.grammar.specs.Semiring.{Ops, Semiring}
use Rattle.chart.specs.Table.{cell_at}
use Rattle.chart.specs.Inner.{Added, Cleared}
use Rattle.chart.proofs.SumLaws.{plus_none}
use Rattle.chart.proofs.Outside.{same_all, same_then, same_set, same_wider}

module _ {V : Type 0} (M : Ops V) (L : Semiring M) (S place : ℕ) where
  -- nothing was added
  pub added_none : (more : ℕ → V) (was : List V) → ((x : ℕ) → x < S → more x ≡ M.zero) → Added M S place more was was
  added_none more was none = (same_all M.zero place (place + S) was, λ x h. sym (ap (M.plus (cell_at M was place x)) (none x h) ∙ plus_none M L (cell_at M was place x)))

  -- one sum after another
  pub added_then : (f g more : ℕ → V) (was mid is : List V) → ((x : ℕ) → x < S → more x ≡ M.plus (f x) (g x)) → Added M S place f was mid → Added M S place g mid is → Added M S place more was is
  added_then f g more was mid is both (o, a) (q, b) = (
    same_then M.zero place (place + S) was mid is o q,
    λ x h. b x h ∙ ap (λ v. M.plus v (g x)) (a x h) ∙ L.plus_assoc (cell_at M was place x) (f x) (g x) ∙ ap (M.plus (cell_at M was place x)) (sym (both x h)),
  )

  -- the same by another name
  pub added_as : (f g : ℕ → V) (was is : List V) → ((x : ℕ) → x < S → f x ≡ g x) → Added M S place f was is → Added M S place g was is
  added_as f g was is e (o, a) = (o, λ x h. a x h ∙ ap (M.plus (cell_at M was place x)) (e x h))

  added_here : (s : ℕ) (v w : V) (was : List V) → s < S → place + S ≤ length was → w ≡ M.plus (cell_at M was place s) v
      → Added M S place (λ x. cond (eqb s x) v M.zero) was (set was (place + s) w)
  added_here s v w was hs room e = (same_set M.zero place (place + S) (place + s) was w (omega arith) (omega arith), λ x h. at x h (cases_eq s x))
    where
      at : (x : ℕ) → x < S → (s ≡ x) ⊎ (s ≡ x → ⊥) → cell_at M (set was (place + s) w) place x ≡ M.plus (cell_at M was place x) (cond (eqb s x) v M.zero)
      at x h d = ⊎_elim
          (λ (q : s ≡ x). ap (λ k. get_or (set was (place + s) w) (place + k) M.zero) (sym q) ∙ get_or-set_same was (place + s) w M.zero (omega arith) ∙ e
          ∙ ap (λ k. M.plus (cell_at M was place k) v) q ∙ ap (M.plus (cell_at M was place x)) (sym (cond-true (eqb s x) v M.zero (eq-eqb s x q))))
          (λ (q : s ≡ x → ⊥). get_or-set_other was (place + s) (place + x) w M.zero (λ p. q (omega arith))
          ∙ sym (ap (M.plus (cell_at M was place x)) (cond-false (eqb s x) v M.zero (ne_eqb s x q)) ∙ plus_none M L (cell_at M was place x)))
          d

  -- a value was added to the weight of one symbol, by a write to its place
  pub added_one : (s p : ℕ) (v w : V) (was : List V) → p ≡ place + s → s < S → place + S ≤ length was → w ≡ M.plus (cell_at M was place s) v
      → Added M S place (λ x. cond (eqb s x) v M.zero) was (set was p w)
  added_one s p v w was h hs room e = subst (λ k. Added M S place (λ x. cond (eqb s x) v M.zero) was (set was k w)) (sym h) (added_here s v w was hs room e)

module _ {V : Type 0} (M : Ops V) where
  pub cleared_none : (a b : ℕ) (was : List V) → b ≡ a → Cleared M a b was was
  cleared_none a b was e = (same_all M.zero a b was, λ j l h. absurd (omega arith))

  cleared_here : (a p : ℕ) (v : V) (was mid : List V) → a ≤ p → p < length mid → v ≡ M.zero → Cleared M a p was mid → Cleared M a (p + 1) was (set mid p v)
  cleared_here a p v was mid l h e (o, z) = (
    same_then M.zero a (p + 1) was mid (set mid p v) (same_wider M.zero a p a (p + 1) was mid (omega arith) (omega arith) o) (same_set M.zero a (p + 1) p mid v l (omega arith)),
    λ j lo hi. ⊎_elim
        (λ (q : j ≡ p). ap (λ k. get_or (set mid p v) k M.zero) q ∙ get_or-set_same mid p v M.zero h ∙ e)
        (λ (q : j ≡ p → ⊥). get_or-set_other mid p j v M.zero q ∙ z j lo (omega arith))
        (cases_eq j p),
  )

  -- one place more is cleared, by a write to it
  pub cleared_more : (a p q : ℕ) (v : V) (was mid : List V) → q ≡ p → a ≤ p → p < length mid → v ≡ M.zero → Cleared M a p was mid → Cleared M a (p + 1) was (set mid q v)
  cleared_more a p q v was mid s l h e c = subst (λ k. Cleared M a (p + 1) was (set mid k v)) (sym s) (cleared_here a p v was mid l h e c)
