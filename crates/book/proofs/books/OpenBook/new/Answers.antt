use Rattle.std.proofs.Common.{length, sym, refl, ◌∙◌}
use Rattle.book.proofs.Running.{none_after}
use Rattle.book.proofs.books.OpenBook.new.Goals as goal

pub returns : goal.returns
returns g c =
    let none = c.none-rules.ensures.none in
    record { none = none; table = refl; runs = none_after (length c.args.table.patterns.now) ∙ sym none }
