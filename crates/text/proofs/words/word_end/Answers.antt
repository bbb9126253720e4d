use Rattle.std.proofs.Common.{not, length, arith}
use Rattle.std.proofs.lemmas.Bool.{not-true, not-false}
use Rattle.text.specs.Words.{parts}
use Rattle.text.proofs.Wording.{Run, run}
use Rattle.text.proofs.words.word_end.Goals as goal
use Rattle.text.proofs.words.word_end.Goals.{After-word_len}

the_word : (c : goal.After-word_len) → Run (λ b. not (parts b)) c.args.text.now c.args.from (length c.args.text.now) c.word_len.result
the_word c = run (λ b. not (parts b)) c.args.text.now c.args.from (length c.args.text.now) c.word_len.result (omega arith) (omega arith) c.word_len.ensures

pub overflow_add-result : goal.overflow_add-result
overflow_add-result c = let r = the_word c in omega (arith, r.within)

pub returns : goal.returns
returns c = let r = the_word (goal.at.returns c).After-word_len in record { within = (omega arith, r.within); before = λ k a b. not-true _ (r.passed k a b); found = λ l. not-false _ (r.ended l) }
