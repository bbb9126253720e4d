use Rattle.std.proofs.Common.{ap, ◌∙◌}
use Rattle.grammar.specs.Weights.{binarised_weight}
use Rattle.conversion.specs.Views.{right_side_of}
use Rattle.chart.specs.Weights.{rules_book}
use Rattle.chart.specs.Inner.{right_weight}
use Rattle.chart.proofs.NullableWeights.{turn_none, turn_other, turn_more}
use Rattle.chart.proofs.OfBook.{rules_sound}
use Rattle.chart.proofs.nullable.round.Goals as goal
use Rattle.chart.proofs.nullable.round.Goals.{in-Some+then-by-round, in-Some+else-by-round, in_default}

pub loop-symbol-preserved : goal.loop-symbol-preserved
loop-symbol-preserved g c =
    let M = g.W.Weighing.ops in
    let L = g.met.W.Weighing.semiring in
    let rules = c.args.converted.now.rules in
    let W = rules_book rules in
    let S = rules_sound rules in
    let item = g.W.Values.Bank.item in
    let k = c.args.round in
    let s = c.loop-symbol.symbol in
    let was = c.loop-symbol.bank in
    let is = c.match-brought.bank in
    let amid = c.loop-symbol.invariant in
    elim c.match-brought.branch [
      | in-Some+then-by-round w ↦
          turn_more M L W S item k s was is amid w.in-Some.by w.in-Some.ensures w.if-by-round.true g.W.Values.Bank.size g.met.W.Weighing.wide
          w.brought_weight-weight.result (w.brought_weight-weight.ensures ∙ ap (λ r. M.times (binarised_weight (rules_book r) M s w.in-Some.by.number) (right_weight M (item was) (right_side_of w.in-Some.by.right))) w.rules.ensures) w.put.new.self w.put.ensures w.bank-is
      | in-Some+else-by-round w ↦ turn_other M L W S item k s was is amid w.in-Some.by w.in-Some.ensures w.if-by-round.false w.bank-is
      | in_default w ↦ turn_none M L W S item k s was is amid w.in_default.ensures w.bank-is
    ]
