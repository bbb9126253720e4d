-- Short names for parts of the definitions, for proofs alone.
use Rattle.std.proofs.Common.{◌≡◌, ℕ, ◌+◌, ◌<◌, Bool, true, false, cond, List, ◌++◌, map, length}
use Rattle.grammar.specs.Lists.{Distinct, Sorted, each, below}
use Rattle.grammar.specs.Productions.{Production, Book, head_of, right_of, first_tail}
use Rattle.grammar.specs.Binarised.{Right, terminal, Rule, rule, Binarised, Has, OwnRule, rules_of, Tree, leaf, root, bare}
use Rattle.grammar.specs.Nullable.{nullable_tree}
use Rattle.grammar.specs.Chains.{chosen_chain}
use Rattle.grammar.specs.Strict.{StrictFormRule, proper}
use Rattle.grammar.specs.Plain.{run, core}
use Rattle.grammar.specs.Readings.{Parts}
use Rattle.grammar.specs.Binarise.{binarise_right, stand, one_event}
use Rattle.grammar.specs.Grammars.{Symbol, item_symbol, right_symbols}

-- the rules of one symbol have different numbers
abbrev pub Numbered : Binarised → Type 0
Numbered B = (x : ℕ) → Distinct (map (λ (o : OwnRule). o.0) (rules_of B x))

-- no rule is empty or a unit rule
abbrev pub Proper : Binarised → Type 0
Proper B = (x n : ℕ) (b : Right) → Has B x n b → proper b ≡ true

-- both parts of a binary rule have events: no unit step leads to either
abbrev pub Apart : Tree → Tree → Type 0
Apart s t = (bare s ≡ false) × (bare t ≡ false)

-- the tree is the chosen tree without events of its root
abbrev pub ChosenEmpty : Binarised → Tree → Type 0
ChosenEmpty B s = s ≡ nullable_tree B (root s)

-- the run from the root is the chosen chain between its ends
abbrev pub ChosenChain : Binarised → Tree → Type 0
ChosenChain B s = run s ≡ chosen_chain B (root s) (root (core s))

-- each rule weighs yes
abbrev pub each_yes : ℕ → ℕ → Bool
each_yes x n = true

-- a strict rule as a rule from its symbol to its right side: chain and what was dropped there are no part of it
abbrev pub as_rule : StrictFormRule → Rule
as_rule r = rule r.symbol r.number r.right

-- the binarised rules of production n
abbrev pub binarise_production : Book → ℕ → List Rule
binarise_production W n = binarise_right (head_of W n) n (first_tail W n) (right_of W n)

-- the further rule of symbol 32 + t, to pattern t; no production has the number 255
abbrev pub terminal_rule : ℕ → Rule
terminal_rule t = rule (32 + t) 255 (terminal t)

-- the binarised rules of a book: those of its productions, then one for each pattern
abbrev pub binarised_rules : Book → List Rule
binarised_rules W = each (binarise_production W) (below (length W.productions)) ++ map terminal_rule (below W.patterns)

-- a production of one pattern stands over its event itself
abbrev pub shape : ℕ → ℕ → ℕ → Parts → List Tree → Tree
shape x n z ps ts = cond (one_event ps) (leaf x n) (stand x n z ts)

-- the production of a grammar that a book's production is
abbrev pub written_production : Production → ℕ × List Symbol
written_production p = (p.head, map item_symbol p.right)

-- the production of a grammar that a rule is
abbrev pub rule_production : Rule → ℕ × List Symbol
rule_production r = (r.left, right_symbols r.right)

-- of the rules of one symbol each has a lower number than those after it
abbrev pub Rising : List Rule → Type 0
Rising = Sorted (λ r q. q.left ≡ r.left → r.number < q.number)
