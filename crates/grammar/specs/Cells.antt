-- Weights of trees and of strict rules, and the cells of a chart: what the derivations of some events from a symbol weigh.
use Rattle.std.specs.Prelude.{ℕ, zero, suc, ◌+◌, ◌-◌, ◌*◌, ◌/◌, Bool, true, false, cond, ◌||◌, List, [], ◌∷◌, length, ◌==◌, nat_lt}
use Rattle.grammar.specs.{Lists.cuts, Semiring.Ops, Semiring.sum, Nullable.nullable, Nullable.nullable_tree}
use Rattle.grammar.specs.Binarised.{Right, binary, terminal, Binarised, Tree, null, over, fork, leaf}
use Rattle.grammar.specs.Chains.{ChainStep, Dropped, nothing, the_right, the_left, chosen_chain}
use Rattle.grammar.specs.Strict.{StrictFormRule, strict_rules_of}

-- the weight of a tree: the product of its rules' weights, wt x n for rule n of x
abbrev pub tree_weight : {V : Type 0} (M : Ops V) → (ℕ → ℕ → V) → Tree → V
tree_weight M wt (null x n) = wt x n
tree_weight M wt (over x n s) = M.times (wt x n) (tree_weight M wt s)
tree_weight M wt (fork x n s t) = M.times (wt x n) (M.times (tree_weight M wt s) (tree_weight M wt t))
tree_weight M wt (leaf x n) = wt x n

-- the weight of what a unit step drops: of the chosen tree of that symbol
abbrev pub drop_weight : Binarised → {V : Type 0} (M : Ops V) → (ℕ → ℕ → V) → Dropped → V
drop_weight B M wt nothing = M.one
drop_weight B M wt (the_right z) = tree_weight M wt (nullable_tree B z)
drop_weight B M wt (the_left y) = tree_weight M wt (nullable_tree B y)

-- the weight of a unit chain: the product over its rules and what they drop
abbrev pub chain_weight : Binarised → {V : Type 0} (M : Ops V) → (ℕ → ℕ → V) → List ChainStep → V
chain_weight B M wt [] = M.one
chain_weight B M wt (s ∷ c) = M.times (M.times (wt s.from s.number) (drop_weight B M wt s.dropped)) (chain_weight B M wt c)

-- the weight of a strict rule: the product over all rules of its chain, what is dropped there, and its own rule
abbrev pub strict_weight : Binarised → {V : Type 0} (M : Ops V) → (ℕ → ℕ → V) → StrictFormRule → V
strict_weight B M wt r = M.times (chain_weight B M wt (chosen_chain B r.symbol r.end)) (wt r.end r.number)

-- what a right side comes to over the events w, by the cells of its symbols: a terminal, one if w is one event that it fits; two
-- symbols, the sum over the cuts of w of left cell times right cell
abbrev pub over_events : {E : Type 0} {V : Type 0} (M : Ops V) → (E → ℕ → Bool) → (ℕ → List E → V) → Right → List E → V
over_events M fits cell (binary y z) w = sum M (λ (c : List _ × List _). M.times (cell y c.0) (cell z c.1)) (cuts w)
over_events M fits cell (terminal p) (e ∷ []) = cond (fits e p) M.one M.zero
over_events M fits cell _ _ = M.zero

-- the cell of x over w, of at most k events
unfoldable pub cell_in : {E : Type 0} → Binarised → {V : Type 0} (M : Ops V) → (ℕ → ℕ → V) → (E → ℕ → Bool) → ℕ → ℕ → List E → V
cell_in B M wt fits zero x w = M.zero
cell_in B M wt fits (suc k) x w =
    sum M (λ (r : StrictFormRule). M.times (strict_weight B M wt r) (over_events M fits (cell_in B M wt fits k) r.right w)) (strict_rules_of B x)

-- the cell of x over w: the sum, over the strict rules of x, of their weight times what their right side comes to
unfoldable pub cell : {E : Type 0} → Binarised → {V : Type 0} (M : Ops V) → (ℕ → ℕ → V) → (E → ℕ → Bool) → ℕ → List E → V
cell B M wt fits x w = cell_in B M wt fits (length w) x w

-- the right side is a terminal that fits the event
abbrev pub terminal_fits : {E : Type 0} → (E → ℕ → Bool) → E → Right → Bool
terminal_fits fits e (terminal p) = fits e p
terminal_fits fits e _ = false

abbrev pub is_binary : Right → Bool
is_binary (binary y z) = true
is_binary _ = false

-- those two symbols
abbrev pub sides : Right → ℕ × ℕ
sides (binary y z) = (y, z)
sides _ = (0, 0)

-- the total of x over w: its cell; over no events the weight of its chosen tree, or zero if it is not nullable
abbrev pub total : {E : Type 0} → Binarised → {V : Type 0} (M : Ops V) → (ℕ → ℕ → V) → (E → ℕ → Bool) → ℕ → List E → V
total B M wt fits x [] = cond (nullable B x) (tree_weight M wt (nullable_tree B x)) M.zero
total B M wt fits x (e ∷ w) = cell B M wt fits x (e ∷ w)

-- where the column of event e (counted from 1) begins, in a table of S symbols a cell
abbrev pub column_place : ℕ → ℕ → ℕ
column_place S e = e * (e - 1) / 2 * S

-- the number of the refusal that a feed meets where n events are held over a table of m weights, S to a cell; 0 for none
abbrev pub feed_refusal : ℕ → ℕ → ℕ → ℕ
feed_refusal S m n = cond (n == 256 || nat_lt m (column_place S (n + 2))) 11 0
