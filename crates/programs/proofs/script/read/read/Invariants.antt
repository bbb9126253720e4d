use Rattle.std.proofs.Common.{◌≡◌, ◌+◌, ◌≤◌, ◌++◌, ◌∷◌, [], length, drop, take}
use Rattle.std.specs.Prelude.{IfSome}
use Rattle.programs.specs.Output.{line_texts}
use Rattle.programs.specs.ScriptLines.{read, read_on}
use Rattle.programs.specs.ScriptSaid.{read_so_far}
use Rattle.programs.proofs.script.read.read.Given as goal

-- what the lines still to come say behind those so far is what all of them say
abbrev pub invariant-loop-line : goal.invariant-loop-line
invariant-loop-line g l = record {
  text : l.line-iterator.text.now ≡ l.part.text.now;
  inside : l.line-iterator.from ≤ length l.part.text.now + 1;
  number : l.number ≤ l.part.first + l.line-iterator.from;
  begun : IfSome l.reader.rules (λ from. from ≤ l.line-iterator.from);
  whole : read g.A.Spelled.spelling l.part.first (line_texts l.part.text.now)
      ≡ read_on g.A.Spelled.spelling l.number (read_so_far (take l.line-iterator.from (l.part.text.now ++ (10 ∷ []))) l.reader) (line_texts (drop l.line-iterator.from l.part.text.now));
}
