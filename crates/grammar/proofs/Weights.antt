-- A reading and its binarised form have one weight.
use Rattle.std.proofs.Common.{◌≡◌, ℕ, zero, suc, ◌<◌, ◌≤◌, Bool, List, [], ◌∷◌, ◌++◌, map, sym, refl, ap, ◌∙◌, ap₂, arith}
use Rattle.std.proofs.lemmas.Bool.{lt-ltb, le-ltb}
use Rattle.grammar.specs.Binarised.{Tree}
use Rattle.grammar.specs.Productions.{Book, head_of, right_of, cost_of, first_tail, Sound}
use Rattle.grammar.specs.Readings.{Reading, Parts, Reads, by_rule, Along, at_end, at_event, at_part}
use Rattle.grammar.specs.Binarise.{forks, binarise, binarise_parts}
use Rattle.grammar.proofs.Short.{shape}
use Rattle.grammar.specs.Semiring.{Ops, Semiring, product}
use Rattle.grammar.specs.Cells.{tree_weight}
use Rattle.grammar.specs.Nodes.{nodes}
use Rattle.grammar.specs.Weights.{reading_weight, binarised_weight}
use Rattle.grammar.proofs.BinarisedRules.{head_small}
use Rattle.grammar.proofs.Nodes.{rules, rules_in, by_of, nodes_rules}
use Rattle.grammar.proofs.Binarise.{two, two_shape}
use Rattle.grammar.proofs.Sums.{times_one_right}

module _ {V : Type 0} (M : Ops V) (L : Semiring M) where
  pub product_append : {A : Type 0} (f : A → V) (xs ys : List A) → product M f (xs ++ ys) ≡ M.times (product M f xs) (product M f ys)
  product_append f [] ys = sym (L.times_one _)
  product_append f (x ∷ xs) ys = ap (M.times (f x)) (product_append f xs ys) ∙ sym (L.times_assoc _ _ _)

pub product_map : {A B : Type 0} {V : Type 0} (M : Ops V) (f : B → V) (g : A → B) (xs : List A) → product M f (map g xs) ≡ product M (λ a. f (g a)) xs
product_map M f g [] = refl
product_map M f g (x ∷ xs) = ap (M.times (f (g x))) (product_map M f g xs)

module _ (W : Book) {V : Type 0} (M : Ops V) (L : Semiring M) where
  abbrev wt : ℕ → ℕ → V
  wt = binarised_weight W M

  abbrev at : ℕ → V
  at n = M.weight (cost_of W n)

  head_weight : (x n : ℕ) → x < 32 → wt x n ≡ at n
  head_weight x n h = rw (lt-ltb x 32 h)

  rest_weight : (x n : ℕ) → 32 ≤ x → wt x n ≡ M.one
  rest_weight x n h = rw (le-ltb x 32 h)

  forks_weight : (x n z : ℕ) (s t : Tree) (ts : List Tree) → 32 ≤ z
      → tree_weight M wt (forks x n z s t ts) ≡ M.times (wt x n) (product M (tree_weight M wt) (s ∷ t ∷ ts))
  forks_weight x n z s t [] h = ap (λ v. M.times (wt x n) (M.times (tree_weight M wt s) v)) (sym (times_one_right M L (tree_weight M wt t)))
  forks_weight x n z s t (u ∷ us) h =
      ap (λ v. M.times (wt x n) (M.times (tree_weight M wt s) v))
      (forks_weight z n (suc z) t u us (omega arith) ∙ ap (λ v. M.times v (product M (tree_weight M wt) (t ∷ u ∷ us))) (rest_weight z n h) ∙ L.times_one _)

  module _ {E : Type 0} (fits : E → ℕ → Bool) where
    shape_weight : (x n z : ℕ) (ys : List ℕ) {ps : Parts} {w : List E} → 32 ≤ z → Along W fits ys ps w
        → tree_weight M wt (shape x n z ps (binarise_parts W ys ps)) ≡ M.times (wt x n) (product M (tree_weight M wt) (binarise_parts W ys ps))
    shape_weight x n z [] h at_end = sym (times_one_right M L (wt x n))
    shape_weight x n z (y ∷ []) h (at_event q f at_end) =
        sym (ap (M.times (wt x n)) (times_one_right M L (wt y 255) ∙ rest_weight y 255 (omega arith)) ∙ times_one_right M L (wt x n))
    shape_weight x n z (y ∷ []) h (at_part {r = r} l d at_end e) = ap (M.times (wt x n)) (sym (times_one_right M L (tree_weight M wt (binarise W r))))
    shape_weight x n z (a ∷ b ∷ ys) h p =
        let k = two W fits p in
        ap (tree_weight M wt) (two_shape W fits x n z k) ∙ forks_weight x n z k.s k.t k.ts h
        ∙ ap (λ l. M.times (wt x n) (product M (tree_weight M wt) l)) (sym k.are)

    module _ (S : Sound W) where
      mutual
        by_rules : {x : ℕ} {r : Reading} {w : List E} → Reads W fits x r w → tree_weight M wt (binarise W r) ≡ product M at (rules r)
        by_rules (by_rule {n = n} m h a) =
            shape_weight (head_of W n) n (first_tail W n) (right_of W n) (omega arith) a
            ∙ ap₂ M.times (head_weight (head_of W n) n (head_small W S n m)) (parts_by_rules a)

        parts_by_rules : {ys : List ℕ} {ps : Parts} {w : List E} → Along W fits ys ps w
            → product M (tree_weight M wt) (binarise_parts W ys ps) ≡ product M at (rules_in ps)
        parts_by_rules at_end = refl
        parts_by_rules (at_event {y = y} q f a) =
            ap₂ M.times (rest_weight y 255 (omega arith)) (parts_by_rules a) ∙ L.times_one _
        parts_by_rules (at_part {r = r} {ps = ps} l d a e) =
            ap₂ M.times (by_rules d) (parts_by_rules a) ∙ sym (product_append M L at (rules r) (rules_in ps))

      pub binarised_weighs : {x : ℕ} {r : Reading} {w : List E} → Reads W fits x r w → tree_weight M wt (binarise W r) ≡ reading_weight W M r
      binarised_weighs {r = r} d = by_rules d ∙ ap (product M at) (sym (nodes_rules zero r)) ∙ product_map M at by_of (nodes zero r)
