use Rattle.std.proofs.Common.{length, refl}
use Rattle.book.proofs.Running.{strike_runs}
use Rattle.book.proofs.books.OpenBook.strike.Goals as goal

pub returns : goal.returns
returns g c =
    let b = c.args.self.now in
    let says = c.strike.ensures.says in
    record {
      says = says;
      table = refl {a = b.table};
      runs = strike_runs (length b.table.patterns.now) b.rules c.strike.new.self c.strike.result says;
    }
