use Rattle.std.proofs.Common.{◌≡◌, ◌+◌, ◌≤◌, length, drop}
use Rattle.programs.specs.Output.{line_texts}
use Rattle.programs.specs.ScriptOutput.{first_word}
use Rattle.programs.proofs.script.first_word.Given as goal

-- the first word is among the lines still to come
abbrev pub invariant-loop-line : goal.invariant-loop-line
invariant-loop-line l = record {
  text : l.line-iterator.text.now ≡ l.part.text.now;
  inside : l.line-iterator.from ≤ length l.part.text.now + 1;
  number : l.number ≤ l.part.first + l.line-iterator.from;
  first : first_word l.part.first (line_texts l.part.text.now) ≡ first_word l.number (line_texts (drop l.line-iterator.from l.part.text.now));
}
