-- Nullable symbols, found in rounds, and the chosen tree without events of each.
use Rattle.std.specs.Prelude.{◌≡◌, ℕ, zero, suc, ◌≤◌, Bool, true, false, cond, ◌&&◌, ◌||◌}
use Rattle.grammar.specs.Lists.{some_of, first_of}
use Rattle.grammar.specs.Binarised.{Right, empty, unit, binary, terminal, Binarised, Has, OwnRule, rules_of, Tree, null, over, fork, leaf}

-- the right side is made of symbols that pass h alone
abbrev pub ready : (ℕ → Bool) → Right → Bool
ready h empty = true
ready h (unit y) = h y
ready h (binary y z) = h y && h z
ready h (terminal p) = false

-- one round more: the symbols of h, and each symbol with a rule whose right side is made of them
abbrev pub next_round : Binarised → (ℕ → Bool) → ℕ → Bool
next_round B h x = h x || some_of (λ (o : OwnRule). ready h o.1) (rules_of B x)

-- the symbols found nullable in k rounds. Before the first there are none, so the first brings in the symbols with an empty rule
unfoldable pub nullable_after : Binarised → ℕ → ℕ → Bool
nullable_after B zero = λ x. false
nullable_after B (suc k) = next_round B (nullable_after B k)

-- the nullable symbols. Each round that adds any adds a symbol, so as many rounds as there are symbols find all
unfoldable pub nullable : Binarised → ℕ → Bool
nullable B x = nullable_after B B.symbols x

-- the tree of rule n of x, over the trees that f gives for the symbols of its right side
abbrev pub rule_tree : (ℕ → Tree) → ℕ → ℕ → Right → Tree
rule_tree f x n empty = null x n
rule_tree f x n (unit y) = over x n (f y)
rule_tree f x n (binary y z) = fork x n (f y) (f z)
rule_tree f x n (terminal p) = leaf x n

-- the first rule of x whose right side is made of symbols of h
abbrev pub first_ready : Binarised → (ℕ → Bool) → ℕ → OwnRule
first_ready B h x = first_of (λ (o : OwnRule). ready h o.1) (zero, empty) (rules_of B x)

-- the chosen tree of a symbol found in k rounds: the first rule that brought it in, over the chosen trees of its right side
unfoldable pub nullable_tree_in : Binarised → ℕ → ℕ → Tree
nullable_tree_in B zero x = null x zero
nullable_tree_in B (suc k) x = cond (nullable_after B k x) (nullable_tree_in B k x)
    (rule_tree (nullable_tree_in B k) x (first_ready B (nullable_after B k) x).0 (first_ready B (nullable_after B k) x).1)

-- the chosen tree without events of a nullable symbol
unfoldable pub nullable_tree : Binarised → ℕ → Tree
nullable_tree B x = nullable_tree_in B B.symbols x

-- x is one of h, or has a unit rule to one of h, or a binary rule to two of h
pub data Comes (B : Binarised) (h : ℕ → Bool) (x : ℕ) : Type 0 where
  was_in : h x ≡ true → Comes B h x
  over_unit : (n y : ℕ) → Has B x n (unit y) → h y ≡ true → Comes B h x
  over_binary : (n y z : ℕ) → Has B x n (binary y z) → h y ≡ true → h z ≡ true → Comes B h x

-- rule n of x, to the right side b, is the lowest-numbered of the rules of x that are made of symbols found in k rounds
pub record BringsIn (B : Binarised) (k x n : ℕ) (b : Right) : Type 0 where
  pub is_rule : Has B x n b
  pub of_found : ready (nullable_after B k) b ≡ true
  pub lowest : (m : ℕ) (c : Right) → Has B x m c → ready (nullable_after B k) c ≡ true → n ≤ m
