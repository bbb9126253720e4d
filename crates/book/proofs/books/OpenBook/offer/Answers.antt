use Rattle.std.proofs.Common.{length, ◌≡◌, ℕ, List, Result, refl, subst, arith}
use Rattle.conversion.specs.Rows.{written}
use Rattle.book.specs.declared.fault.OfferFault.{OfferFault}
use Rattle.book.specs.declared.rules.Rules.{Rules}
use Rattle.book.specs.Rules.{held}
use Rattle.book.specs.Offers.{Offered}
use Rattle.book.proofs.Running.{offer_runs}
use Rattle.book.proofs.books.OpenBook.offer.Goals as goal

-- the rule is offered as it is given, over the patterns of the table
given : (head : ℕ) (items : List ℕ) (c d T S : ℕ) (was is : Rules) (r : Result ℕ OfferFault) → Offered T held (written head items c) was is r → c ≡ d → T ≡ S
    → Offered S held (written head items d) was is r
given head items c d T S was is r h e f =
    subst (λ n. Offered n held (written head items d) was is r) f (subst (λ n. Offered T held (written head items n) was is r) e h)

pub returns : goal.returns
returns g c =
    let b = c.args.self.now in
    let T = length b.table.patterns.now in
    let says = given c.args.head c.args.items.now _ c.args.cost _ T b.rules c.offer.new.self c.offer.result c.offer.ensures.says (omega arith) b.over in
    record {
      says = says;
      table = refl {a = b.table};
      runs = offer_runs T c.args.head c.args.items.now c.args.cost b.rules c.offer.new.self c.offer.result says;
    }
