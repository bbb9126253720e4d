use Rattle.std.proofs.Common.{◌≡◌, ℕ, List, ◌∷◌, ◌++◌, map, take, string_bytes}
use Rattle.grammar.specs.Lists.{each}
use Rattle.text.specs.Outcomes.{item_kind, word_text}
use Rattle.programs.proofs.rule_text.push_right.Given as goal

-- the items so far
abbrev pub invariant-loop-item : goal.invariant-loop-item
invariant-loop-item l = string_bytes l.out ≡ string_bytes l.fn.out ++ each (λ (v : List ℕ). 32 ∷ v) (map word_text (map item_kind (take l.item-index l.items)))
