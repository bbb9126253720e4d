use Rattle.std.proofs.Common.{◌≡◌, ◌<◌, ◌≤◌, length, drop}
use Rattle.text.specs.Words.{lines}
use Rattle.book.specs.Rules.{held}
use Rattle.book.specs.Loads.{load, load_lines, taken}
use Rattle.book.proofs.rules.Rules.load.Given as goal

-- what the rest of the text gives, the whole gives
abbrev pub invariant-loop-line : goal.invariant-loop-line
invariant-loop-line l = record {
  text : l.line-iterator.text.now ≡ l.text;
  few : l.lines ≤ l.line-iterator.from;
  over : l.self.patterns ≡ l.initial.self.patterns;
  rest : l.line-iterator.from ≤ length l.text → load l.initial.self.patterns (held l.initial.self) l.text ≡ load_lines l.initial.self.patterns (held l.self) l.lines (lines l.line-iterator.from (drop l.line-iterator.from l.text));
  done : length l.text < l.line-iterator.from → load l.initial.self.patterns (held l.initial.self) l.text ≡ taken (held l.self) l.lines;
}
