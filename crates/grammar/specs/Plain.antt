-- Plain trees: every part that the strict rules leave out is the chosen one.
use Rattle.std.specs.Prelude.{◌≡◌, ℕ, Bool, true, false, ◌⊎◌, List, [], ◌∷◌}
use Rattle.grammar.specs.Binarised.{Binarised, Tree, over, fork, root, bare}
use Rattle.grammar.specs.Nullable.{nullable_tree}
use Rattle.grammar.specs.Chains.{ChainStep, unit_step, nothing, the_right, the_left, chosen_chain}

-- of a binary rule, by which of its parts have no event: l with a step to the left part, r with a step to the right part, else n
abbrev pub by_parts {ℓ} : {A : Type ℓ} → Bool → Bool → A → A → A → A
by_parts s true l r n = l
by_parts true false l r n = r
by_parts false false l r n = n

-- the longest run of unit steps from the root of a tree with events, between symbols that have events
abbrev pub run : Tree → List ChainStep
run (over x n s) = unit_step x n nothing (root s) ∷ run s
run (fork x n s t) = by_parts (bare s) (bare t)
    (unit_step x n (the_right (root t)) (root s) ∷ run s)
    (unit_step x n (the_left (root s)) (root t) ∷ run t)
    []
run _ = []

-- the part where that run ends
abbrev pub core : Tree → Tree
core (over x n s) = core s
core (fork x n s t) = by_parts (bare s) (bare t) (core s) (core t) (fork x n s t)
core s = s

-- t is a part of s
abbrev pub Part : Tree → Tree → Type 0
Part t (over x n s) = (t ≡ over x n s) ⊎ Part t s
Part t (fork x n s r) = (t ≡ fork x n s r) ⊎ (Part t s ⊎ Part t r)
Part t s = t ≡ s

-- a longest run of unit steps begins at t: t is the whole, or hangs under a binary rule with events in both parts
pub data Starts (t s : Tree) : Type 0 where
  whole : t ≡ s → Starts t s
  on_left : (x n : ℕ) (r : Tree) → Part (fork x n t r) s → (bare t ≡ false) × (bare r ≡ false) → Starts t s
  on_right : (x n : ℕ) (r : Tree) → Part (fork x n r t) s → (bare r ≡ false) × (bare t ≡ false) → Starts t s

-- a plain tree: each part without events is its root's chosen tree, and each longest run of unit steps the chosen chain between its ends
pub record Plain (B : Binarised) (s : Tree) : Type 0 where
  pub null_parts : (t : Tree) → Part t s → bare t ≡ true → t ≡ nullable_tree B (root t)
  pub runs : (t : Tree) → Starts t s → bare t ≡ false → run t ≡ chosen_chain B (root t) (root (core t))
