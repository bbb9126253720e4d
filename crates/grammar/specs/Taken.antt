-- The derivation that is taken: the first strict rule that fits, then the shortest left part.
use Rattle.std.specs.Prelude.{◌≡◌, ℕ, Bool, true, ◌&&◌, List, [], ◌∷◌}
use Rattle.grammar.specs.{Lists.First, Lists.Cut, Lists.cuts, Nullable.nullable_tree, Strict.StrictFormRule, Strict.strict_rules_of}
use Rattle.grammar.specs.Binarised.{binary, terminal, Binarised, Tree, over, fork, leaf}
use Rattle.grammar.specs.Chains.{ChainStep, Dropped, nothing, the_right, the_left, chosen_chain}
use Rattle.grammar.specs.{Weighings.yes_no, Cells.over_events, Cells.cell}

-- a unit step over a tree, with the chosen tree of what it drops
abbrev pub step_over : Binarised → ℕ → ℕ → Dropped → Tree → Tree
step_over B x n nothing t = over x n t
step_over B x n (the_right z) t = fork x n t (nullable_tree B z)
step_over B x n (the_left y) t = fork x n (nullable_tree B y) t

abbrev pub chain_over : Binarised → List ChainStep → Tree → Tree
chain_over B [] t = t
chain_over B (s ∷ c) t = step_over B s.from s.number s.dropped (chain_over B c t)

-- the yes/no cell of x over w, where each rule weighs yes
abbrev pub yes_cell : {E : Type 0} → Binarised → (E → ℕ → Bool) → ℕ → List E → Bool
yes_cell B fits x w = cell B yes_no (λ y n. true) fits x w

-- a strict rule fits w: its terminal fits the one event, or a cut has a derivation on each side
abbrev pub rule_fits : {E : Type 0} → Binarised → (E → ℕ → Bool) → List E → StrictFormRule → Bool
rule_fits B fits w r = over_events yes_no fits (yes_cell B fits) r.right w

-- the cut has a derivation from a on its left and from b on its right
abbrev pub cut_fits : {E : Type 0} → Binarised → (E → ℕ → Bool) → ℕ → ℕ → Cut E → Bool
cut_fits B fits a b c = yes_cell B fits a c.0 && yes_cell B fits b c.1

-- s is the derivation of w taken from x: by the first strict rule that fits, and the first cut that does
pub data Takes (B : Binarised) {E : Type 0} (fits : E → ℕ → Bool) : ℕ → Tree → List E → Type 0 where
  takes_terminal : {x p : ℕ} {e : E} (r : StrictFormRule) → First (rule_fits B fits (e ∷ [])) (strict_rules_of B x) r → r.right ≡ terminal p
      → Takes B fits x (chain_over B (chosen_chain B x r.end) (leaf r.end r.number)) (e ∷ [])
  takes_binary : {x a b : ℕ} {s t : Tree} {w : List E} (r : StrictFormRule) (c : Cut E) → First (rule_fits B fits w) (strict_rules_of B x) r → r.right ≡ binary a b
      → First (cut_fits B fits a b) (cuts w) c → Takes B fits a s c.0 → Takes B fits b t c.1
      → Takes B fits x (chain_over B (chosen_chain B x r.end) (fork r.end r.number s t)) w
