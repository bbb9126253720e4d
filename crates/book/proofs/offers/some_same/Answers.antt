use Rattle.std.proofs.Common.{◌∙◌, rules, tests}
use Rattle.std.proofs.lemmas.Iterator.{YieldsList-from_slice}
use Rattle.std.proofs.lemmas.Iterator.Search.{any_from_yields_List}
use Rattle.conversion.specs.Rows.{production_of}
use Rattle.book.specs.Offers.{same_rule}
use Rattle.book.proofs.Some.{some_map_is_any}
use Rattle.book.proofs.offers.some_same.Goals as goal

pub returns : goal.returns
returns c =
    let p = production_of c.args.rule.now in
    let xs = c.args.rules.now in
    any_from_yields_List (λ q. same_rule p (production_of q)) _ _ _ c.any.ensures.ran (YieldsList-from_slice xs cc) (λ x b q k. search (rules, tests)) ∙ some_map_is_any (same_rule p) production_of xs
