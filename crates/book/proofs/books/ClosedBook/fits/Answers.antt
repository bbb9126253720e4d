use Rattle.book.proofs.FitsAt.{tests_table}
use Rattle.book.proofs.books.ClosedBook.fits.Goals as goal

pub returns-clause-tested : goal.returns-clause-tested
returns-clause-tested g c = tests_table g.A.Alphabet.fits g.A.Alphabet.test g.met.A.Alphabet.tested c.args.self.now.table.patterns.now
