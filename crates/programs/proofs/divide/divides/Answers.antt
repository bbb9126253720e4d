use Rattle.std.proofs.Common.{ap₂, ◌∙◌}
use Rattle.grammar.specs.Lists.{same_numbers}
use Rattle.programs.proofs.Dividing.{compared}
use Rattle.programs.proofs.divide.divides.Goals as goal

pub returns : goal.returns
returns c = let same = compared c.eq.result c.bytes.result.now c.as_slice.result.now c.eq.ensures ∙ ap₂ same_numbers c.bytes.ensures c.as_slice.ensures in search same
