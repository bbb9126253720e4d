-- The binarised form of a book, and of its readings.
use Rattle.std.specs.Prelude.{ℕ, suc, ◌+◌, ◌-◌, ◌<◌, ◌≤◌, Bool, true, false, cond, List, [], ◌∷◌, ◌++◌, map, length, nat_lt}
use Rattle.grammar.specs.{Lists.each, Lists.below, Strict.strict_rules}
use Rattle.grammar.specs.Productions.{Sound, Book, head_of, right_of, first_tail, all_tails}
use Rattle.grammar.specs.Binarised.{Right, empty, unit, binary, terminal, Rule, rule, Binarised, Tree, null, over, fork, leaf}
use Rattle.grammar.specs.Readings.{Reading, Parts, node, no_part, event, part}

-- the right side of a production of one item: a head gives a unit rule, a pattern a terminal rule
abbrev pub one_item : ℕ → Right
one_item y = cond (nat_lt y 32) (unit y) (terminal (y - 32))

-- the binary rules of a right side of two items and more, its tails numbered from z
abbrev pub binaries : ℕ → ℕ → ℕ → ℕ → ℕ → List ℕ → List Rule
binaries x n z a b [] = rule x n (binary a b) ∷ []
binaries x n z a b (c ∷ ys) = rule x n (binary a z) ∷ binaries z n (suc z) b c ys

-- the binarised rules of production n of head x, its tails numbered from z, by its right side
abbrev pub binarise_right : ℕ → ℕ → ℕ → List ℕ → List Rule
binarise_right x n z [] = rule x n empty ∷ []
binarise_right x n z (a ∷ []) = rule x n (one_item a) ∷ []
binarise_right x n z (a ∷ b ∷ ys) = binaries x n z a b ys

-- the binarised form of a book: the rules of its productions in turn, then for each pattern t one further rule of symbol 32 + t, with the
-- number 255, which no production has; and 64 symbols more than it has tails
unfoldable pub binarised : Book → Binarised
binarised W = record {
  rules = each (λ n. binarise_right (head_of W n) n (first_tail W n) (right_of W n)) (below (length W.productions))
      ++ map (λ t. rule (32 + t) 255 (terminal t)) (below W.patterns);
  symbols = 64 + all_tails W.productions;
}

-- binary rules over two trees and more, the tails numbered from z
abbrev pub forks : ℕ → ℕ → ℕ → Tree → Tree → List Tree → Tree
forks x n z s t [] = fork x n s t
forks x n z s t (u ∷ us) = fork x n s (forks z n (suc z) t u us)

-- production n of head x, its tails numbered from z, over the binarised forms of its parts
abbrev pub stand : ℕ → ℕ → ℕ → List Tree → Tree
stand x n z [] = null x n
stand x n z (s ∷ []) = over x n s
stand x n z (s ∷ t ∷ ts) = forks x n z s t ts

-- the parts are one event alone
abbrev pub one_event : Parts → Bool
one_event (event no_part) = true
one_event _ = false

-- the binarised form of a reading, each production replaced by its binarised rules; and of each of its parts for the items ys
abbrev mutual
  pub binarise : Book → Reading → Tree
  binarise W (node n ps) = cond (one_event ps) (leaf (head_of W n) n)
      (stand (head_of W n) n (first_tail W n) (binarise_parts W (right_of W n) ps))

  pub binarise_parts : Book → List ℕ → Parts → List Tree
  binarise_parts W ys no_part = []
  binarise_parts W [] (event ps) = []
  binarise_parts W (y ∷ ys) (event ps) = leaf y 255 ∷ binarise_parts W ys ps
  binarise_parts W [] (part r ps) = []
  binarise_parts W (y ∷ ys) (part r ps) = binarise W r ∷ binarise_parts W ys ps

-- the symbols of a right side are below S, and its pattern is one of T
abbrev pub Within : ℕ → ℕ → Right → Type 0
Within S T empty = Unit {0}
Within S T (unit y) = y < S
Within S T (binary y z) = (y < S) × (z < S)
Within S T (terminal p) = p < T

-- what the productions of every book keep to: its bounds, and at most 1,024 strict rules
pub record Admitted (W : Book) : Type 0 where
  pub sound : Sound W
  pub few_strict : length (strict_rules (binarised W)) ≤ 1024
