use Rattle.programs.specs.Spelling.{texts_left}
use Rattle.programs.proofs.ScriptWords.{none_first, first_is}
use Rattle.programs.proofs.script.words.next_number.Goals as goal

pub returns-in_err-next_word-clause-said : goal.returns-in_err-next_word-clause-said
returns-in_err-next_word-clause-said c = rw c.from_residual.ensures (none_first c.args.limit (texts_left c.args.words.now) c.in_err-next_word.ensures)

pub returns-clause-said : goal.returns-clause-said
returns-clause-said c =
    first_is c.args.limit (texts_left c.args.words.now) c.in_ok-next_word.field-0.now (texts_left c.next_word.new.words) c.number.result c.in_ok-next_word.ensures c.number.ensures.said
