use Rattle.std.proofs.Common.{◌+◌, ◌∙◌, leb, rules, tests}
use Rattle.std.proofs.lemmas.Iterator.{YieldsList-from_slice}
use Rattle.std.proofs.lemmas.Iterator.Search.{any_from_yields_List}
use Rattle.book.proofs.Some.{some_is_any}
use Rattle.book.proofs.offers.some_unknown.Goals as goal

pub returns : goal.returns
returns c =
    let xs = c.args.items.now in
    any_from_yields_List (leb (32 + c.args.patterns)) _ _ _ c.any.ensures.ran (YieldsList-from_slice xs cc) (λ x b q k. search (rules, tests)) ∙ some_is_any (leb (32 + c.args.patterns)) xs
