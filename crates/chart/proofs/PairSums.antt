-- Strict pairs over a right part, and what they come to.
use Rattle.std.proofs.Common.{◌≡◌, ℕ, suc, ◌≤◌, Bool, true, false, cond, eqb, List, [], ◌∷◌, ◌++◌, length, sym, refl, ap, ◌∙◌, subst, inl, inr, ⊎_elim, arith}
use Rattle.grammar.specs.Lists.{Mem}
use Rattle.grammar.specs.Semiring.{Ops, Semiring}
use Rattle.grammar.specs.Binarised.{Right as RightSide, binary}
use Rattle.grammar.specs.Cells.{is_binary, sides}
use Rattle.grammar.proofs.Lists.{mem_append}
use Rattle.grammar.proofs.Sums.{times_zero_right}
use Rattle.conversion.specs.Views.{right_side_of}
use Rattle.conversion.specs.declared.right.Right.{Right}
use Rattle.conversion.specs.declared.right.Right.TheVariants.{Empty, Unit, Binary, Terminal}
use Rattle.conversion.specs.declared.strict.StrictRule.{StrictRule}
use Rattle.chart.specs.declared.pairs.Pair.{Pair}
use Rattle.chart.specs.Inner.{pairs_sum, PairAdded}
use Rattle.chart.proofs.SumLaws.{plus_none, sum_push, sum_cond}

-- what a right side comes to over a left and a right cell
abbrev pub side_sum : {V : Type 0} → Ops V → V → (ℕ → V) → (ℕ → V) → RightSide → V
side_sum M w left right b = cond (is_binary b) (M.times w (M.times (left (sides b).0) (right (sides b).1))) M.zero

module _ {V : Type 0} (M : Ops V) (L : Semiring M) where
  pub pairs_push : (left : ℕ → V) (x : ℕ) (ps : List (Pair V)) (p : Pair V)
      → pairs_sum M left x (ps ++ (p ∷ [])) ≡ M.plus (pairs_sum M left x ps) (cond (eqb p.symbol x) (M.times (left p.left) p.weight) M.zero)
  pairs_push left x ps p =
      sum_cond M L _ _ (ps ++ (p ∷ [])) ∙ sum_push M L _ ps p
      ∙ ap (λ v. M.plus v (cond (eqb p.symbol x) (M.times (left p.left) p.weight) M.zero)) (sym (sum_cond M L _ _ ps))

  times_swap : (a b c : V) → M.times a (M.times b c) ≡ M.times b (M.times a c)
  times_swap a b c = sym (L.times_assoc a b c) ∙ ap (λ d. M.times d c) (L.times_comm a b) ∙ L.times_assoc b a c

  cond_same : (b : Bool) (v : V) → cond b v v ≡ v
  cond_same true v = refl
  cond_same false v = refl

  -- a rule that comes to nothing gives no pair
  pub pair_kept : (r : StrictRule) (w : V) (right : ℕ → V) (was : List (Pair V)) → ((left : ℕ → V) → side_sum M w left right (right_side_of r.right) ≡ M.zero) → PairAdded M r w right was was
  pair_kept r w right was none = record {
    sums = λ left x. sym
        (ap (λ v. M.plus (pairs_sum M left x was) (cond (eqb r.symbol x) v M.zero)) (none left)
        ∙ ap (M.plus (pairs_sum M left x was)) (cond_same (eqb r.symbol x) M.zero) ∙ plus_none M L (pairs_sum M left x was));
    pairs = λ p m. inl m;
    few = omega arith;
  }

  -- over a right part of nothing
  pub pair_nothing : (w : V) (left right : ℕ → V) (b : RightSide) (y z : ℕ) → b ≡ binary y z → right z ≡ M.zero → side_sum M w left right b ≡ M.zero
  pair_nothing w left right b y z e n =
      ap (side_sum M w left right) e ∙ ap (λ v. M.times w (M.times (left y) v)) n ∙ ap (M.times w) (times_zero_right M L (left y)) ∙ times_zero_right M L w

  -- a binary rule gives its pair
  pub pair_pushed : (r : StrictRule) (w : V) (right : ℕ → V) (was is : List (Pair V)) (y z : ℕ) (part v : V)
      → right_side_of r.right ≡ binary y z → part ≡ right z → v ≡ M.times w part
      → is ≡ was ++ (record { symbol = r.symbol; left = y; weight = v } ∷ []) → length is ≤ suc (length was) → PairAdded M r w right was is
  pair_pushed r w right was is y z part v e p t added few = record {
    sums = λ left x.
        ap (pairs_sum M left x) added ∙ pairs_push left x was (record { symbol = r.symbol; left = y; weight = v })
        ∙ ap (λ u. M.plus (pairs_sum M left x was) (cond (eqb r.symbol x) u M.zero))
        (ap (M.times (left y)) (t ∙ ap (M.times w) p) ∙ times_swap (left y) w (right z) ∙ sym (ap (side_sum M w left right) e));
    pairs = λ q m. ⊎_elim (λ k. inl k) (λ k. inr (one q k)) (mem_append q was _ (subst (Mem q) added m));
    few = few;
  }
    where
      one : (q : Pair V) → Mem q (record { symbol = r.symbol; left = y; weight = v } ∷ []) → (is_binary (right_side_of r.right) ≡ true) × (q.symbol ≡ r.symbol) × (q.left ≡ (sides (right_side_of r.right)).0)
      one q (inl k) = (ap is_binary e, ap (λ (a : Pair V). a.symbol) k, ap (λ (a : Pair V). a.left) k ∙ sym (ap (λ b. (sides b).0) e))
      one q (inr k) = elim k [ ]

  -- a rule that is not binary comes to nothing
  pub pair_other : (w : V) (left right : ℕ → V) (b : Right) → ((y z : ℕ) → b ≡ Binary y z → ⊥) → side_sum M w left right (right_side_of b) ≡ M.zero
  pair_other w left right Empty n = refl
  pair_other w left right (Unit y) n = refl
  pair_other w left right (Binary y z) n = absurd (n y z refl)
  pair_other w left right (Terminal t) n = refl
