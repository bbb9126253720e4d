use Rattle.std.proofs.Common.{◌≡◌, sum_by, ◌∙◌, rules}
use Rattle.grammar.specs.Productions.{tails}
use Rattle.conversion.specs.Rows.{production_of}
use Rattle.conversion.specs.declared.production.Production.{Production}
use Rattle.conversion.proofs.Tails.{tails_summed}
use Rattle.conversion.proofs.productions.all_tails.Goals as goal

pub returns : goal.returns
returns c =
    let summed : c.sum.result ≡ sum_by (λ (p : Production). tails (production_of p).right) c.args.productions.now = search rules in
    summed ∙ tails_summed production_of c.args.productions.now
