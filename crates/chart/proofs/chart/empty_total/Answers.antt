use Rattle.std.proofs.Common.{subst, arith}
use Rattle.book.specs.declared.converted.Converted.{Converted}
use Rattle.book.specs.Books.{closed_book}
use Rattle.chart.specs.Weights.{rules_book, NullableWeights}
use Rattle.chart.proofs.NullableWeights.{empty_weight}
use Rattle.chart.proofs.chart.empty_total.Goals as goal

pub returns : goal.returns
returns g c fits =
    let M = g.W.Weighing.ops in
    let f = g.W.Values.Bank.item c.nullable_weights.result in
    let h = subst (λ (k : Converted). NullableWeights M (rules_book k.rules) f) c.converted.ensures c.nullable_weights.ensures in
    empty_weight M (closed_book c.args.book.now) fits f h _ c.get.result c.get.ensures (omega arith)
