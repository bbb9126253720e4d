use Rattle.grammar.proofs.BinarisedRules.{binarised_bounded, binarised_within, binarised_rising, binarised_size}
use Rattle.grammar.proofs.Offers.{binarised_few}
use Rattle.grammar.proofs.well_formed.Goals as goal

pub returns : goal.returns
returns c = λ W S. record
    { lefts = binarised_bounded W S; rights = binarised_within W S; by_number = binarised_rising W S; few_rules = binarised_few W S; few_symbols = binarised_size W S }
