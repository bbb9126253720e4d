use Rattle.std.proofs.Common.{length, arith}
use Rattle.text.specs.Words.{parts}
use Rattle.text.proofs.Wording.{Run, run}
use Rattle.text.proofs.words.word_start.Goals as goal
use Rattle.text.proofs.words.word_start.Goals.{After-gap_len}

the_gap : (c : goal.After-gap_len) → Run parts c.args.text.now c.args.from (length c.args.text.now) c.gap_len.result
the_gap c = run parts c.args.text.now c.args.from (length c.args.text.now) c.gap_len.result (omega arith) (omega arith) c.gap_len.ensures

pub overflow_add-result : goal.overflow_add-result
overflow_add-result c = let r = the_gap c in omega (arith, r.within)

pub returns : goal.returns
returns c = let r = the_gap (goal.at.returns c).After-gap_len in record { within = (omega arith, r.within); before = r.passed; found = r.ended }
