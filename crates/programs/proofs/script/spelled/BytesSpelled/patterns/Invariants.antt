use Rattle.std.proofs.Common.{◌≡◌, ◌++◌, List, ℕ, length}
use Rattle.grammar.specs.Lists.{each}
use Rattle.programs.specs.Spelling.{texts_left}
use Rattle.programs.proofs.script.spelled.BytesSpelled.patterns.Given as goal

-- the bytes so far, before those still to come
abbrev pub invariant-loop-word : goal.invariant-loop-word
invariant-loop-word l = l.patterns.items ++ each (λ (w : List ℕ). w) (texts_left l.words) ≡ each (λ (w : List ℕ). w) (texts_left l.fn.words)

abbrev pub decreases-loop-word : goal.decreases-loop-word
decreases-loop-word l = length (texts_left l.words)
