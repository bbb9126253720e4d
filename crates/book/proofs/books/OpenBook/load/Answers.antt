use Rattle.std.proofs.Common.{length, refl, ap, ◌∙◌, arith}
use Rattle.book.specs.Loads.{load}
use Rattle.book.specs.Rules.{held}
use Rattle.book.proofs.Loading.{load_means}
use Rattle.book.proofs.Running.{load_runs}
use Rattle.book.proofs.books.OpenBook.load.Goals as goal

pub returns : goal.returns
returns g c =
    let b = c.args.self.now in
    let text = c.args.text.now in
    let T = length b.table.patterns.now in
    let is = c.load.ensures.is ∙ ap (λ T. load T (held b.rules) text) b.over in
    record {
      is = is;
      means = load_means T (held b.rules) text (omega (arith, b.table.few));
      table = refl;
      runs = load_runs T text (held b.rules) (held c.load.new.self) c.load.result is;
    }
