use Rattle.std.proofs.Common.{◌≡◌}
use Rattle.programs.specs.Output.{divider}
use Rattle.programs.proofs.Dividing.{first_from}
use Rattle.programs.proofs.divide.divide.Given as goal

-- the first line that is % alone is among those still to come
abbrev pub invariant-loop-line : goal.invariant-loop-line
invariant-loop-line l = record {
  text : l.line-iterator.text.now ≡ l.input;
  first : divider l.input ≡ first_from l.input l.line-iterator.from;
}
