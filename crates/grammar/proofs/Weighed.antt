-- The sum of the weights of all plain trees is the cell.
use Rattle.std.proofs.Common.{◌≡◌, ℕ, zero, suc, Bool, true, false, cond, List, [], ◌∷◌, map, length, sym, refl, ap, ◌∙◌}
use Rattle.grammar.specs.Lists.{those, each, Cut, cuts}
use Rattle.grammar.specs.Binarised.{Right, empty, unit, binary, terminal, Binarised, OwnRule, rules_of, Tree, fork, leaf}
use Rattle.grammar.specs.Nullable.{nullable_tree}
use Rattle.grammar.specs.Chains.{ChainStep, Dropped, nothing, the_right, the_left, chosen_chain, reached}
use Rattle.grammar.specs.Strict.{StrictFormRule, strict_rule, strict_rules_of, proper}
use Rattle.grammar.specs.Taken.{step_over, chain_over}
use Rattle.grammar.specs.Semiring.{Ops, Semiring, sum}
use Rattle.grammar.specs.Cells.{tree_weight, drop_weight, chain_weight, strict_weight, over_events, cell_in, cell}
use Rattle.grammar.proofs.PlainTrees.{grown, cores, all_in, all}
use Rattle.grammar.proofs.Sums.{times_zero_right, times_one_right, sum_cong, sum_map, sum_each, sum_times, sum_times_right, sum_those}

module _ (B : Binarised) {V : Type 0} (M : Ops V) (L : Semiring M) (wt : ℕ → ℕ → V) where
  step_over_weight : (x n : ℕ) (d : Dropped) (t : Tree)
      → tree_weight M wt (step_over B x n d t) ≡ M.times (M.times (wt x n) (drop_weight B M wt d)) (tree_weight M wt t)
  step_over_weight x n nothing t = ap (λ a. M.times a (tree_weight M wt t)) (sym (times_one_right M L (wt x n)))
  step_over_weight x n (the_right z) t =
      ap (M.times (wt x n)) (L.times_comm (tree_weight M wt t) (tree_weight M wt (nullable_tree B z))) ∙ sym (L.times_assoc _ _ _)
  step_over_weight x n (the_left y) t = sym (L.times_assoc _ _ _)

  pub chain_over_weight : (c : List ChainStep) (t : Tree) → tree_weight M wt (chain_over B c t) ≡ M.times (chain_weight B M wt c) (tree_weight M wt t)
  chain_over_weight [] t = sym (L.times_one (tree_weight M wt t))
  chain_over_weight (s ∷ c) t = step_over_weight s.from s.number s.dropped (chain_over B c t)
      ∙ ap (M.times _) (chain_over_weight c t) ∙ sym (L.times_assoc _ _ _)

  module _ {E : Type 0} (fits : E → ℕ → Bool) where
    pub grown_weight : (trees : ℕ → List E → List Tree) (cells : ℕ → List E → V)
        → ((a : ℕ) (u : List E) → sum M (tree_weight M wt) (trees a u) ≡ cells a u)
        → (y n : ℕ) (b : Right) (w : List E)
        → sum M (tree_weight M wt) (grown fits trees y n b w) ≡ M.times (wt y n) (over_events M fits cells b w)
    grown_weight trees cells h y n empty w = sym (times_zero_right M L (wt y n))
    grown_weight trees cells h y n (unit z) w = sym (times_zero_right M L (wt y n))
    grown_weight trees cells h y n (terminal p) [] = sym (times_zero_right M L (wt y n))
    grown_weight trees cells h y n (terminal p) (e ∷ []) = (elim (fits e p) as (λ b. sum M (tree_weight M wt) (cond b (leaf y n ∷ []) []) ≡ M.times (wt y n) (cond b M.one M.zero)) [
      | true ↦ L.plus_comm (wt y n) M.zero ∙ L.plus_zero (wt y n) ∙ sym (times_one_right M L (wt y n))
      | false ↦ sym (times_zero_right M L (wt y n))
    ])
    grown_weight trees cells h y n (terminal p) (e ∷ f ∷ w) = sym (times_zero_right M L (wt y n))
    grown_weight trees cells h y n (binary a b) w =
        sum_each M L (tree_weight M wt) (λ c. each (λ s. map (fork y n s) (trees b c.1)) (trees a c.0)) (cuts w)
        ∙ sum_cong M L _ _ (cuts w) (λ c m. one_cut c)
        ∙ sum_times M L (wt y n) (λ (c : Cut E). M.times (cells a c.0) (cells b c.1)) (cuts w)
      where
        one_cut : (c : Cut E) → sum M (tree_weight M wt) (each (λ s. map (fork y n s) (trees b c.1)) (trees a c.0))
            ≡ M.times (wt y n) (M.times (cells a c.0) (cells b c.1))
        one_cut c =
            sum_each M L (tree_weight M wt) (λ s. map (fork y n s) (trees b c.1)) (trees a c.0)
            ∙ sum_cong M L _ (λ s. M.times (wt y n) (M.times (tree_weight M wt s) (cells b c.1))) (trees a c.0)
            (λ s m. sum_map M L (tree_weight M wt) (fork y n s) (trees b c.1)
            ∙ sum_times M L (wt y n) (λ t. M.times (tree_weight M wt s) (tree_weight M wt t)) (trees b c.1)
            ∙ ap (M.times (wt y n)) (sum_times M L (tree_weight M wt s) (tree_weight M wt) (trees b c.1) ∙ ap (M.times (tree_weight M wt s)) (h b c.1)))
            ∙ sum_times M L (wt y n) (λ s. M.times (tree_weight M wt s) (cells b c.1)) (trees a c.0)
            ∙ ap (M.times (wt y n)) (sum_times_right M L (cells b c.1) (tree_weight M wt) (trees a c.0) ∙ ap (λ v. M.times v (cells b c.1)) (h a c.0))

    not_proper : (cells : ℕ → List E → V) (b : Right) (w : List E) → proper b ≡ false → over_events M fits cells b w ≡ M.zero
    not_proper cells empty w e = refl
    not_proper cells (unit y) w e = refl
    not_proper cells (binary y z) w e = absurd (mathlib.Core.Bool.true≢false e)
    not_proper cells (terminal p) w e = absurd (mathlib.Core.Bool.true≢false e)

    module _ (k : ℕ) (w : List E) where
      value : StrictFormRule → V
      value r = M.times (strict_weight B M wt r) (over_events M fits (cell_in B M wt fits k) r.right w)

      reach : ((a : ℕ) (u : List E) → sum M (tree_weight M wt) (all_in B fits k a u) ≡ cell_in B M wt fits k a u) → (x y : ℕ)
          → sum M (tree_weight M wt) (map (chain_over B (chosen_chain B x y)) (cores B fits (all_in B fits k) y w))
          ≡ sum M value (map (strict_rule x y) (those (λ (o : OwnRule). proper o.1) (rules_of B y)))
      unfolding value
      reach ih x y =
          let C = chain_weight B M wt (chosen_chain B x y) in
          sum_map M L (tree_weight M wt) (chain_over B (chosen_chain B x y)) (cores B fits (all_in B fits k) y w)
          ∙ sum_cong M L _ (λ t. M.times C (tree_weight M wt t)) (cores B fits (all_in B fits k) y w)
          (λ t m. chain_over_weight (chosen_chain B x y) t)
          ∙ sum_times M L C (tree_weight M wt) (cores B fits (all_in B fits k) y w)
          ∙ ap (M.times C) (sum_each M L (tree_weight M wt) (λ (o : OwnRule). grown fits (all_in B fits k) y o.0 o.1 w) (rules_of B y))
          ∙ sym (sum_times M L C _ (rules_of B y))
          ∙ sum_cong M L _ (λ o. value (strict_rule x y o)) (rules_of B y)
          (λ o m. ap (M.times C) (grown_weight (all_in B fits k) (cell_in B M wt fits k) ih y o.0 o.1 w) ∙ sym (L.times_assoc _ _ _))
          ∙ sym (sum_those M L (λ (o : OwnRule). proper o.1) (λ o. value (strict_rule x y o)) (rules_of B y)
          (λ o e. ap (M.times _) (not_proper (cell_in B M wt fits k) o.1 w e) ∙ times_zero_right M L _))
          ∙ sym (sum_map M L value (strict_rule x y) (those (λ (o : OwnRule). proper o.1) (rules_of B y)))

    pub total_in : (k x : ℕ) (w : List E) → sum M (tree_weight M wt) (all_in B fits k x w) ≡ cell_in B M wt fits k x w
    unfolding all_in cell_in strict_rules_of value
    total_in zero x w = refl
    total_in (suc k) x w =
        sum_each M L (tree_weight M wt) (λ y. map (chain_over B (chosen_chain B x y)) (cores B fits (all_in B fits k) y w)) (reached B x)
        ∙ sum_cong M L _ _ (reached B x) (λ y m. reach k w (total_in k) x y)
        ∙ sym (sum_each M L (value k w) (λ y. map (strict_rule x y) (those (λ (o : OwnRule). proper o.1) (rules_of B y))) (reached B x))

    -- the sum of the weights of all plain trees is the cell
    pub trees_sum : (x : ℕ) (w : List E) → sum M (tree_weight M wt) (all B fits x w) ≡ cell B M wt fits x w
    unfolding all cell
    trees_sum x w = total_in (length w) x w
