use Rattle.std.proofs.Common.{sym, ◌∙◌, arith}
use Rattle.std.proofs.lemmas.Result.{IfOk-weaker}
use Rattle.programs.proofs.ScriptParts.{too_long, short_enough}
use Rattle.programs.proofs.ScriptMeant.{script_means}
use Rattle.programs.proofs.script.script.Goals as goal

pub returns-then-input-gt-LIMIT-clause-output : goal.returns-then-input-gt-LIMIT-clause-output
returns-then-input-gt-LIMIT-clause-output c = IfOk-weaker c.format.result _ _ (λ s e. e ∙ sym (too_long c.args.input.now (omega arith))) c.format.ensures.ok

pub returns-clause-output : goal.returns-clause-output
returns-clause-output c = IfOk-weaker c.parts_text.result _ _ (λ s e. e ∙ short_enough c.args.input.now (omega arith)) c.parts_text.ensures

pub returns-then-input-gt-LIMIT-clause-means : goal.returns-then-input-gt-LIMIT-clause-means
returns-then-input-gt-LIMIT-clause-means c = script_means c.args.input.now

pub returns-clause-means : goal.returns-clause-means
returns-clause-means c = script_means c.args.input.now
