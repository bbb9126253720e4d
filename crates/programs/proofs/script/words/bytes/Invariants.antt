use Rattle.std.proofs.Common.{◌≡◌, length}
use Rattle.programs.specs.Spelling.{texts_left, numbers_said}
use Rattle.programs.proofs.ScriptWords.{numbers_behind}
use Rattle.programs.proofs.script.words.bytes.Given as goal

-- the numbers so far, before those still to come
abbrev pub invariant-loop-word : goal.invariant-loop-word
invariant-loop-word l = numbers_behind 255 l.bytes.items (texts_left l.words) ≡ numbers_said 255 (texts_left l.fn.words)

abbrev pub decreases-loop-word : goal.decreases-loop-word
decreases-loop-word l = length (texts_left l.words)
