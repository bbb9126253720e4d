-- Unit steps, unit chains, and the chosen chain from a symbol to a symbol.
use Rattle.std.specs.Prelude.{◌≡◌, ℕ, zero, suc, ◌<◌, ◌≤◌, Bool, true, cond, ◌||◌, ◌⊎◌, List, [], ◌∷◌, ◌++◌, length, ◌==◌}
use Rattle.grammar.specs.{Lists.some_of, Lists.first_of, Lists.those, Lists.each, Lists.below, Nullable.nullable}
use Rattle.grammar.specs.Binarised.{Right, unit, binary, Binarised, Has, OwnRule, rules_of}

-- what a unit step drops: nothing, the nullable right symbol of a binary rule, or the left
pub data Dropped : Type 0 where
  nothing : Dropped
  the_right : ℕ → Dropped
  the_left : ℕ → Dropped

-- a unit step from a symbol, by the rule of that number, to a symbol
pub record ChainStep : Type 0 where
  pub from : ℕ
  pub number : ℕ
  pub dropped : Dropped
  pub to : ℕ

abbrev pub unit_step : ℕ → ℕ → Dropped → ℕ → ChainStep
unit_step x n d y = record { from = x; number = n; dropped = d; to = y }

-- a unit step leads from x to y by rule n: a unit rule, or a binary rule whose other symbol, the one dropped, is nullable
abbrev pub Leads : Binarised → ℕ → ℕ → Dropped → ℕ → Type 0
Leads B x n nothing y = Has B x n (unit y)
Leads B x n (the_right z) y = Has B x n (binary y z) × (nullable B z ≡ true)
Leads B x n (the_left z) y = Has B x n (binary z y) × (nullable B z ≡ true)

-- a unit chain leads from x to y: each step begins where the one before it ends
abbrev pub UnitChain : Binarised → ℕ → List ChainStep → ℕ → Type 0
UnitChain B x [] y = x ≡ y
UnitChain B x (s ∷ c) y = (s.from ≡ x) × Leads B s.from s.number s.dropped s.to × UnitChain B s.to c y

-- the unit steps of one rule of x: the left symbol kept comes before the right kept
abbrev pub steps_by : (ℕ → Bool) → ℕ → ℕ → Right → List ChainStep
steps_by b x n (unit y) = unit_step x n nothing y ∷ []
steps_by b x n (binary y z) = cond (b z) (unit_step x n (the_right z) y ∷ []) [] ++ cond (b y) (unit_step x n (the_left y) z ∷ []) []
steps_by b x n _ = []

-- the unit steps from x, in order
unfoldable pub steps : Binarised → ℕ → List ChainStep
steps B x = each (λ (o : OwnRule). steps_by (nullable B) x o.0 o.1) (rules_of B x)

-- one step more: the symbols of h, and those from which a step leads to one
abbrev pub nearer : Binarised → (ℕ → Bool) → ℕ → Bool
nearer B h x = h x || some_of (λ (s : ChainStep). h s.to) (steps B x)

-- a unit chain of at most k steps leads from x to y
unfoldable pub within : Binarised → ℕ → ℕ → ℕ → Bool
within B y zero = λ x. (x == y)
within B y (suc k) = nearer B (within B y k)

-- the first step from x that a chain of at most k steps to y can follow
abbrev pub first_step : Binarised → ℕ → ℕ → ℕ → ChainStep
first_step B y k x = first_of (λ (s : ChainStep). within B y k s.to) (unit_step x zero nothing x) (steps B x)

-- the chosen chain from x to y, where a chain of at most k steps leads there
unfoldable pub chosen_chain_in : Binarised → ℕ → ℕ → ℕ → List ChainStep
chosen_chain_in B y zero x = []
chosen_chain_in B y (suc k) x = cond (within B y k x) (chosen_chain_in B y k x)
    (first_step B y k x ∷ chosen_chain_in B y k (first_step B y k x).to)

-- the chosen chain from x to y: of the fewest steps, its first step the lowest that begins such a chain, the rest chosen likewise
unfoldable pub chosen_chain : Binarised → ℕ → ℕ → List ChainStep
chosen_chain B x y = chosen_chain_in B y B.symbols x

-- the symbols that a unit chain from x reaches, in order
unfoldable pub reached : Binarised → ℕ → List ℕ
reached B x = those (λ y. within B y B.symbols x) (below B.symbols)

-- which symbol of a binary rule a step keeps: 0 for the left (or where there is but one), 1 for the right
abbrev pub side : Dropped → ℕ
side (the_left z) = 1
side _ = 0

-- of two steps from one symbol the first is the lower: by number, then the left symbol kept before the right kept
abbrev pub Lower : ChainStep → ChainStep → Type 0
Lower s q = (s.number < q.number) ⊎ ((s.number ≡ q.number) × (side s.dropped < side q.dropped))

-- c is the chain chosen from x to y: of the fewest steps, its first step the lowest that begins such a chain, the rest what `chosen` gives
pub record IsChosen (B : Binarised) (y : ℕ) (chosen : ℕ → List ChainStep) (x : ℕ) (c : List ChainStep) : Type 0 where
  pub leads : UnitChain B x c y
  pub fewest : (d : List ChainStep) → UnitChain B x d y → length c ≤ length d
  pub lowest : (s : ChainStep) (d : List ChainStep) → c ≡ s ∷ d
      → (q : ChainStep) (e : List ChainStep) → UnitChain B x (q ∷ e) y → length e ≡ length d → (s ≡ q) ⊎ Lower s q
  pub rest : (s : ChainStep) (d : List ChainStep) → c ≡ s ∷ d → d ≡ chosen s.to
