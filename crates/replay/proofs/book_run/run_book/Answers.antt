use Rattle.std.proofs.Common.{length, ap, ◌∙◌}
use Rattle.replay.proofs.BookTurns.{from_new}
use Rattle.replay.proofs.book_run.run_book.Goals as goal

pub returns-clause-held : goal.returns-clause-held
returns-clause-held g c = from_new _ _ _ _ _ (ap length c.new-book.ensures.table) c.new-book.ensures.none (c.close.ensures.held ∙ c.call_all.ensures.after)
