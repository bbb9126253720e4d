-- Plain trees by recursion on the tree, and the list of all of them over given events.
use Rattle.std.proofs.Common.{ℕ, zero, suc, Bool, cond, List, [], ◌∷◌, map, length}
use Rattle.grammar.specs.Lists.{each, cuts}
use Rattle.grammar.specs.Binarised.{Right, empty, unit, binary, terminal, Binarised, OwnRule, rules_of, Tree, null, over, fork, leaf, bare}
use Rattle.grammar.specs.Chains.{chosen_chain, reached}
use Rattle.grammar.specs.Plain.{by_parts}
use Rattle.grammar.proofs.Short.{ChosenEmpty, ChosenChain}
use Rattle.grammar.specs.Taken.{chain_over}

-- what a plain tree with events is below its first run: each part without events is the chosen tree of its root, and each longest run
-- of unit steps that begins below a binary rule with events in both parts is the chosen chain
abbrev pub Below : Binarised → Tree → Type 0
Below B (null x n) = Unit {0}
Below B (over x n s) = Below B s
Below B (fork x n s t) = by_parts (bare s) (bare t)
    (ChosenEmpty B t × Below B s)
    (ChosenEmpty B s × Below B t)
    ((ChosenChain B s × Below B s) × (ChosenChain B t × Below B t))
Below B (leaf x n) = Unit {0}

abbrev pub PlainByTree : Binarised → Tree → Type 0
PlainByTree B s = cond (bare s) (ChosenEmpty B s) (ChosenChain B s × Below B s)

-- the trees of one rule of y over w, by the trees of its items: by the cut, the shortest left part first, then by the left tree
abbrev pub grown : {E : Type 0} → (E → ℕ → Bool) → (ℕ → List E → List Tree) → ℕ → ℕ → Right → List E → List Tree
grown fits all y n empty w = []
grown fits all y n (unit z) w = []
grown fits all y n (binary a b) w = each (λ (c : List _ × List _). each (λ s. map (fork y n s) (all b c.1)) (all a c.0)) (cuts w)
grown fits all y n (terminal p) [] = []
grown fits all y n (terminal p) (e ∷ []) = cond (fits e p) (leaf y n ∷ []) []
grown fits all y n (terminal p) (e ∷ f ∷ w) = []

-- the trees over w whose first rule is a binary or terminal rule of y
abbrev pub cores : {E : Type 0} → Binarised → (E → ℕ → Bool) → (ℕ → List E → List Tree) → ℕ → List E → List Tree
cores B fits all y w = each (λ (o : OwnRule). grown fits all y o.0 o.1 w) (rules_of B y)

-- all plain trees of x over at most k events
unfoldable pub all_in : {E : Type 0} → Binarised → (E → ℕ → Bool) → ℕ → ℕ → List E → List Tree
all_in B fits zero x w = []
all_in B fits (suc k) x w = each (λ y. map (chain_over B (chosen_chain B x y)) (cores B fits (all_in B fits k) y w)) (reached B x)

unfoldable pub all : {E : Type 0} → Binarised → (E → ℕ → Bool) → ℕ → List E → List Tree
all B fits x w = all_in B fits (length w) x w
