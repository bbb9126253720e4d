use Rattle.std.proofs.Common.{rules}
use Rattle.programs.proofs.totals.Tables.totals.Goals as goal

pub returns-clause-answer : goal.returns-clause-answer
returns-clause-answer g c = record {
  verdict = search rules;
  count = search rules;
  least = search rules;
}
