use Rattle.std.proofs.Common.{◌≡◌, ◌<◌, ◌≤◌, length, get_or, rules, tests}
use Rattle.std.specs.Prelude.{IfSome, MatchOption}
use Rattle.std.specs.List.{HoldsAt}
use Rattle.book.proofs.FitsAt.{answer_is}
use Rattle.book.proofs.table.PatternTable.fits.Goals as goal

pub returns : goal.returns
returns g c =
    let ps = c.args.self.now.patterns.now in
    let t = c.args.number in
    let there : IfSome c.get.result (λ p. p.now ≡ get_or ps t p.now) = search rules in
    let where_it_is : MatchOption c.get.result (length ps ≤ t) (λ p. (t < length ps) × HoldsAt (λ q. p.now ≡ q) ps t) = search rules in
    answer_is g.A.Alphabet.fits g.A.Alphabet.test g.met.A.Alphabet.tested ps t c.args.event _ c.get.result there where_it_is (search (rules, tests))
