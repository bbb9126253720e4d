use Rattle.std.proofs.Common.{sym, ◌∙◌, arith}
use Rattle.std.proofs.lemmas.Result.{IfOk-weaker}
use Rattle.programs.proofs.Meaning.{output_means}
use Rattle.programs.proofs.Printing.{over_limit, within_limit}
use Rattle.programs.proofs.line.line.Goals as goal

pub returns-then-input-gt-LIMIT-clause-output : goal.returns-then-input-gt-LIMIT-clause-output
returns-then-input-gt-LIMIT-clause-output c = IfOk-weaker c.format.result _ _ (λ s e. e ∙ sym (over_limit c.args.input.now (omega arith))) c.format.ensures.ok

pub returns-clause-output : goal.returns-clause-output
returns-clause-output c = IfOk-weaker c.loaded.result _ _ (λ s e. e ∙ within_limit c.args.input.now c.divide.result.rules.now c.divide.result.traces.now (omega arith) c.divide.ensures.rules c.divide.ensures.traces) c.loaded.ensures

pub returns-then-input-gt-LIMIT-clause-means : goal.returns-then-input-gt-LIMIT-clause-means
returns-then-input-gt-LIMIT-clause-means c = output_means c.args.input.now

pub returns-clause-means : goal.returns-clause-means
returns-clause-means c = output_means c.args.input.now
