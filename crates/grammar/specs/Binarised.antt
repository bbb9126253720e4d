-- Binarised rules, the derivation trees made of them, and what a tree derives.
use Rattle.std.specs.Prelude.{◌≡◌, ℕ, ◌+◌, ◌<◌, Bool, true, false, cond, ◌&&◌, List, [], ◌∷◌, ◌++◌, ◌==◌}
use Rattle.grammar.specs.Lists.{Mem}

-- the right side of a binarised rule: nothing, a symbol, two symbols, or a terminal (an event that this pattern fits)
pub data Right : Type 0 where
  empty : Right
  unit : ℕ → Right
  binary : ℕ → ℕ → Right
  terminal : ℕ → Right

-- a binarised rule: the symbol that it is a rule of, the number of the production that it comes from, its right side
pub record Rule : Type 0 where
  pub left : ℕ
  pub number : ℕ
  pub right : Right

-- binarised rules, and the number of symbols: each symbol is below it
pub record Binarised : Type 0 where
  pub rules : List Rule
  pub symbols : ℕ

-- rule n of x, to the right side b
abbrev pub rule : ℕ → ℕ → Right → Rule
rule x n b = record { left = x; number = n; right = b }

-- rule n of x has the right side b
abbrev pub Has : Binarised → ℕ → ℕ → Right → Type 0
Has B x n b = Mem (rule x n b) B.rules

-- a rule of a symbol, without that symbol: its number and its right side
abbrev pub OwnRule : Type 0
OwnRule = ℕ × Right

-- the rules of x among these, in order
abbrev pub rules_in : ℕ → List Rule → List OwnRule
rules_in x [] = []
rules_in x (r ∷ rs) = cond (r.left == x) ((r.number, r.right) ∷ rules_in x rs) (rules_in x rs)

-- the rules of x, in the order of all rules
unfoldable pub rules_of : Binarised → ℕ → List OwnRule
rules_of B x = rules_in x B.rules

-- every rule is a rule of one of the symbols
abbrev pub Bounded : Binarised → Type 0
Bounded B = (r : Rule) → Mem r B.rules → r.left < B.symbols

-- a derivation tree of binarised rules: at each node a symbol and the number of its rule, which is empty, unit, binary or a terminal rule
pub data Tree : Type 0 where
  null : ℕ → ℕ → Tree
  over : ℕ → ℕ → Tree → Tree
  fork : ℕ → ℕ → Tree → Tree → Tree
  leaf : ℕ → ℕ → Tree

-- the symbol at the root
abbrev pub root : Tree → ℕ
root (null x n) = x
root (over x n s) = x
root (fork x n s t) = x
root (leaf x n) = x

-- the number of events of a tree
abbrev pub width : Tree → ℕ
width (null x n) = 0
width (over x n s) = width s
width (fork x n s t) = width s + width t
width (leaf x n) = 1

-- the tree has no event
abbrev pub bare : Tree → Bool
bare (null x n) = true
bare (over x n s) = bare s
bare (fork x n s t) = bare s && bare t
bare (leaf x n) = false

-- `Derives B fits x s w`: s is a derivation tree from x by these rules, and w is its events in order
pub data Derives (B : Binarised) {E : Type 0} (fits : E → ℕ → Bool) : ℕ → Tree → List E → Type 0 where
  by_empty : {x n : ℕ} → Has B x n empty → Derives B fits x (null x n) []
  by_unit : {x n y : ℕ} {s : Tree} {w : List E} → Has B x n (unit y) → Derives B fits y s w → Derives B fits x (over x n s) w
  by_binary : {x n y z : ℕ} {s t : Tree} {u v w : List E} → Has B x n (binary y z)
      → Derives B fits y s u → Derives B fits z t v → u ++ v ≡ w → Derives B fits x (fork x n s t) w
  by_terminal : {x n p : ℕ} {e : E} → Has B x n (terminal p) → fits e p ≡ true → Derives B fits x (leaf x n) (e ∷ [])
