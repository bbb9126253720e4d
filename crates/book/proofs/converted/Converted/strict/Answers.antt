use Rattle.std.proofs.Common.{rules}
use Rattle.book.specs.Rules.{rules_book}
use Rattle.book.proofs.Closed.{strict_lent}
use Rattle.book.proofs.converted.Converted.strict.Goals as goal

pub returns : goal.returns
returns c =
    let k = c.args.self.now in
    let lent = strict_lent (rules_book k.rules) k.form c.strict.result.now c.strict.ensures k.rules.admitted k.formed in
    search rules
