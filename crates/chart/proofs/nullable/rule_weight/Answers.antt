use Rattle.std.proofs.Common.{arith}
use Rattle.std.proofs.lemmas.Bool.{cond_below}
use Rattle.grammar.specs.Productions.{cost_of}
use Rattle.book.proofs.Held.{cost_same}
use Rattle.chart.specs.Weights.{rules_book}
use Rattle.chart.proofs.nullable.rule_weight.Goals as goal

pub returns-then-symbol-lt-HEADS : goal.returns-then-symbol-lt-HEADS
returns-then-symbol-lt-HEADS g c =
    let M = g.W.Weighing.ops in
    let W = rules_book c.args.rules.now in
    let cost = cost_same W c.args.number in
    let head = cond_below c.args.symbol 32 (M.weight (cost_of W c.args.number)) M.one (omega arith) in
    cc
