-- Counting and least cost, held at a limit: the laws hold of the values up to the limit, and cells are kept from there to all numbers.
use Rattle.std.proofs.Common.{◌≡◌, ℕ, zero, suc, ◌+◌, ◌*◌, ◌≤◌, min, Bool, true, false, cond, List, [], ◌∷◌, length, refl, ap, ◌∙◌, ap₂, arith}
use native.Mathlib.Bridge.{le_prop}
use mathlib.Core.HLevel.{Σ_prop_path}
use Rattle.grammar.specs.Lists.{cuts}
use Rattle.grammar.specs.Binarised.{Right, empty, unit, binary, terminal, Binarised, Tree, null, over, fork, leaf}
use Rattle.grammar.specs.Nullable.{nullable, nullable_tree}
use Rattle.grammar.specs.Chains.{Dropped, nothing, the_right, the_left, ChainStep, chosen_chain}
use Rattle.grammar.specs.Strict.{strict_rules_of}
use Rattle.grammar.specs.Semiring.{Ops, Semiring, sum}
use Rattle.grammar.specs.Cells.{tree_weight, drop_weight, chain_weight, over_events, cell_in, cell, total}
use Rattle.grammar.specs.Weighings.{Keeps, counts, costs}
use Rattle.grammar.proofs.HeldNumbers.{product_assoc, product_comm, product_sum}

module _ {V U : Type 0} (M : Ops V) (N : Ops U) (f : V → U) (K : Keeps M N f) where
  pub sum_kept : {A : Type 0} (g : A → V) (h : A → U) (xs : List A) → ((a : A) → f (g a) ≡ h a) → f (sum M g xs) ≡ sum N h xs
  sum_kept g h [] e = K.zero_to
  sum_kept g h (x ∷ xs) e = K.plus_to (g x) (sum M g xs) ∙ ap₂ N.plus (e x) (sum_kept g h xs e)

  module _ (wt : ℕ → ℕ → V) where
    abbrev wt' : ℕ → ℕ → U
    wt' x n = f (wt x n)

    pub tree_weight_kept : (s : Tree) → f (tree_weight M wt s) ≡ tree_weight N wt' s
    tree_weight_kept (null x n) = refl
    tree_weight_kept (over x n s) = K.times_to _ _ ∙ ap (N.times (wt' x n)) (tree_weight_kept s)
    tree_weight_kept (fork x n s t) = K.times_to _ _ ∙ ap (N.times (wt' x n)) (K.times_to _ _ ∙ ap₂ N.times (tree_weight_kept s) (tree_weight_kept t))
    tree_weight_kept (leaf x n) = refl

    module _ (B : Binarised) where
      drop_kept : (d : Dropped) → f (drop_weight B M wt d) ≡ drop_weight B N wt' d
      drop_kept nothing = K.one_to
      drop_kept (the_right z) = tree_weight_kept (nullable_tree B z)
      drop_kept (the_left z) = tree_weight_kept (nullable_tree B z)

      chain_kept : (c : List ChainStep) → f (chain_weight B M wt c) ≡ chain_weight B N wt' c
      chain_kept [] = K.one_to
      chain_kept (s ∷ c) = K.times_to _ _ ∙ ap₂ N.times (K.times_to _ _ ∙ ap (N.times _) (drop_kept s.dropped)) (chain_kept c)

      module _ {E : Type 0} (fits : E → ℕ → Bool) where
        over_kept : (c : ℕ → List E → V) (d : ℕ → List E → U) → ((x : ℕ) (u : List E) → f (c x u) ≡ d x u) → (b : Right) (w : List E)
            → f (over_events M fits c b w) ≡ over_events N fits d b w
        over_kept c d h empty w = K.zero_to
        over_kept c d h (unit y) w = K.zero_to
        over_kept c d h (binary y z) w = sum_kept _ _ (cuts w) (λ k. K.times_to _ _ ∙ ap₂ N.times (h y k.0) (h z k.1))
        over_kept c d h (terminal p) [] = K.zero_to
        over_kept c d h (terminal p) (e ∷ []) = (elim (fits e p) as (λ b. f (cond b M.one M.zero) ≡ cond b N.one N.zero) [ true ↦ K.one_to | false ↦ K.zero_to ])
        over_kept c d h (terminal p) (e ∷ e' ∷ w) = K.zero_to

        cell_in_kept : (k x : ℕ) (w : List E) → f (cell_in B M wt fits k x w) ≡ cell_in B N wt' fits k x w
        unfolding cell_in
        cell_in_kept zero x w = K.zero_to
        cell_in_kept (suc k) x w = sum_kept _ _ (strict_rules_of B x)
            (λ r. K.times_to _ _ ∙ ap₂ N.times (K.times_to _ _ ∙ ap (λ v. N.times v (wt' r.end r.number)) (chain_kept (chosen_chain B r.symbol r.end)))
            (over_kept (cell_in B M wt fits k) (cell_in B N wt' fits k) (λ y u. cell_in_kept k y u) r.right w))

        -- cells are kept
        pub cell_kept : (x : ℕ) (w : List E) → f (cell B M wt fits x w) ≡ cell B N wt' fits x w
        unfolding cell
        cell_kept x w = cell_in_kept (length w) x w

        pub total_kept : (x : ℕ) (w : List E) → f (total B M wt fits x w) ≡ total B N wt' fits x w
        total_kept x [] = (elim (nullable B x) as (λ b. f (cond b (tree_weight M wt (nullable_tree B x)) M.zero) ≡ cond b (tree_weight N wt' (nullable_tree B x)) N.zero)
            [ true ↦ tree_weight_kept (nullable_tree B x) | false ↦ K.zero_to ])
        total_kept x (e ∷ w) = cell_kept x (e ∷ w)

-- numbers up to the limit
abbrev pub Upto : ℕ → Type 0
Upto C = (n : ℕ) × (n ≤ C)

module _ (C : ℕ) where
  upto : (a b : Upto C) → a.0 ≡ b.0 → a ≡ b
  upto a b e = Σ_prop_path (λ n. le_prop) e

  unfoldable pub capped_counts : 1 ≤ C → Ops (Upto C)
  capped_counts h = record {
    zero = (0, omega arith);
    one = (1, h);
    plus = λ a b. (min (a.0 + b.0) C, omega arith);
    times = λ a b. (min (a.0 * b.0) C, omega arith);
    weight = λ c. (1, h);
  }

  pub capped_counts_laws : (h : 1 ≤ C) → Semiring (capped_counts h)
  unfolding capped_counts
  capped_counts_laws h = record {
    plus_assoc = λ a b c. upto _ _ (omega arith);
    plus_comm = λ a b. upto _ _ (omega arith);
    plus_zero = λ a. upto _ _ (omega (arith, a.1));
    times_assoc = λ a b c. upto _ _ (product_assoc C a.0 b.0 c.0);
    times_comm = λ a b. upto _ _ (product_comm C a.0 b.0);
    times_one = λ a. upto _ _ (omega (arith, a.1));
    times_zero = λ a. upto _ _ (omega arith);
    distrib = λ a b c. upto _ _ (product_sum C a.0 b.0 c.0);
  }

  -- the capped numbers, taken as numbers
  pub capped_counts_kept : (h : 1 ≤ C) → Keeps (capped_counts h) (counts C) (unfold capped_counts in λ a. a.0)
  unfolding capped_counts
  capped_counts_kept h = record { zero_to = refl; one_to = refl; plus_to = λ a b. refl; times_to = λ a b. refl; weight_to = λ c l. refl }

  unfoldable pub capped_costs : Ops (Upto C)
  capped_costs = record {
    zero = (C, omega arith);
    one = (0, omega arith);
    plus = λ a b. (min a.0 b.0, omega (arith, a.1));
    times = λ a b. (min (a.0 + b.0) C, omega arith);
    weight = λ c. (min c C, omega arith);
  }

  pub capped_costs_laws : Semiring capped_costs
  unfolding capped_costs
  capped_costs_laws = record {
    plus_assoc = λ a b c. upto _ _ (omega arith);
    plus_comm = λ a b. upto _ _ (omega arith);
    plus_zero = λ a. upto _ _ (omega (arith, a.1));
    times_assoc = λ a b c. upto _ _ (omega arith);
    times_comm = λ a b. upto _ _ (omega arith);
    times_one = λ a. upto _ _ (omega (arith, a.1));
    times_zero = λ a. upto _ _ (omega arith);
    distrib = λ a b c. upto _ _ (omega arith);
  }

  pub capped_costs_kept : 65535 ≤ C → Keeps capped_costs (costs C) (unfold capped_costs in λ a. a.0)
  unfolding capped_costs
  capped_costs_kept h = record { zero_to = refl; one_to = refl; plus_to = λ a b. refl; times_to = λ a b. refl; weight_to = λ c l. omega arith }
