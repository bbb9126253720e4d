use Rattle.std.proofs.Common.{◌≡◌, length}
use Rattle.book.specs.Books.{open_held}
use Rattle.replay.proofs.BookTurns.{BookMade}
use Rattle.replay.proofs.book_run.call_all.Given as goal

-- the calls so far were made, and the table stays
abbrev pub invariant-loop-place : goal.invariant-loop-place
invariant-loop-place g l =
    BookMade (length l.fn.book.table.patterns.now) (open_held l.fn.book) l.calls l.place l.answers (open_held l.book) × (l.book.table ≡ l.fn.book.table)
