use Rattle.conversion.specs.Binarised.{rows_book}
use Rattle.conversion.proofs.Joined.{ends}
use Rattle.conversion.proofs.form.convert.Goals as goal

pub chains-chains-requires-clause-ends : goal.chains-chains-requires-clause-ends
chains-chains-requires-clause-ends c =
    ends (rows_book c.args.productions.now c.args.patterns) c.binarise-binarised.result c.binarise-binarised.ensures c.requires
