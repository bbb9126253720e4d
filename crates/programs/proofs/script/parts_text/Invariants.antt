use Rattle.std.proofs.Common.{◌≡◌, ◌+◌, ◌≤◌, ◌++◌, length, take, drop, string_bytes}
use Rattle.programs.specs.Output.{line_texts}
use Rattle.programs.specs.ScriptOutput.{parts, parts_print}
use Rattle.programs.proofs.ScriptParts.{onto, Splits}
use Rattle.programs.proofs.script.parts_text.Given as goal

-- what is printed so far, and what is still to come: the script that was begun with its lines so far, and those of the lines behind
abbrev pub invariant-loop-line : goal.invariant-loop-line
invariant-loop-line l = record {
  text : l.line-iterator.text.now ≡ l.input;
  order : l.from ≤ l.line-iterator.from;
  inside : l.line-iterator.from ≤ length l.input + 1;
  number : l.number ≤ l.line-iterator.from + 1;
  first : l.first ≤ l.from + 1;
  splits : l.line-iterator.from ≤ length l.input → Splits (drop l.from (take l.line-iterator.from l.input));
  whole : parts_print (parts 1 (line_texts l.input))
      ≡ string_bytes l.out ++ parts_print (onto l.first (line_texts (drop l.from (take l.line-iterator.from l.input))) (parts l.number (line_texts (drop l.line-iterator.from l.input))));
}
