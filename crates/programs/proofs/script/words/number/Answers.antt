use Rattle.std.proofs.Common.{sym, ◌∙◌}
use Rattle.programs.proofs.ScriptWords.{no_digits, of_digits}
use Rattle.programs.proofs.script.words.number.Goals as goal

pub returns-then-not-all_digits-clause-said : goal.returns-then-not-all_digits-clause-said
returns-then-not-all_digits-clause-said c = no_digits c.args.limit c.args.word.now (sym c.all_digits.ensures ∙ c.if-not-all_digits.true)

pub returns-clause-said : goal.returns-clause-said
returns-clause-said c = of_digits c.args.limit c.args.word.now c.number.result (sym c.all_digits.ensures ∙ c.if-not-all_digits.false) c.number.ensures
