use Rattle.std.proofs.Common.{◌+◌, ap, ◌∙◌, arith}
use Rattle.std.proofs.lemmas.List.{get_or_read}
use Rattle.chart.proofs.Adding.{added_one}
use Rattle.chart.proofs.cells.add.Goals as goal

pub returns : goal.returns
returns g c =
    let M = g.W.Weighing.ops in
    let a = c.args in
    let was = a.weights.now in
    added_one M g.met.W.Weighing.semiring a.symbols a.cell a.symbol _ a.more c.plus-sum.result was (omega arith) c.requires.symbol c.requires.room
    (c.plus-sum.ensures ∙ ap (λ v. M.plus v a.more) (get_or_read was (a.cell + a.symbol) c.index-weights-at.result (omega (arith, c.requires.symbol, c.requires.room)) c.index-weights-at.is M.zero))
