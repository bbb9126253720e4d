use Rattle.book.proofs.Closed.{closed_converted}
use Rattle.book.proofs.books.OpenBook.close.Goals as goal

pub returns-clause-strict : goal.returns-clause-strict
returns-clause-strict g c = closed_converted g.row.A-Event.Denot c.convert-converted.result
