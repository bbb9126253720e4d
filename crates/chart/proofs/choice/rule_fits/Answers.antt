use Rattle.std.proofs.Common.{◌+◌, ◌&&◌, eqb, sym, ap, ◌∙◌, subst, arith}
use Rattle.grammar.specs.Lists.{span}
use Rattle.grammar.specs.Taken.{yes_cell}
use Rattle.grammar.specs.Binarise.{binarised, Within}
use Rattle.grammar.proofs.Spans.{span_length}
use Rattle.conversion.specs.Views.{right_side_of, strict_rule_of}
use Rattle.chart.specs.Events.{chart_book, chart_fits}
use Rattle.chart.specs.Inner.{chart_rules}
use Rattle.chart.proofs.OfBook.{book_sound}
use Rattle.chart.proofs.Choices.{symbols_least, strict_right, terminal_fits_one, binary_fits, found_fits}
use Rattle.chart.proofs.choice.rule_fits.Goals as goal

pub pattern_fits-requires-clause-pattern : goal.pattern_fits-requires-clause-pattern
pattern_fits-requires-clause-pattern g c =
    let k = c.args.chart.now in
    let W = chart_book k in
    let S = book_sound k.book.now in
    let t = subst (Within (binarised W).symbols W.patterns) (ap right_side_of c.in-Terminal.is) (strict_right W S (strict_rule_of c.args.rule) c.requires.rule) in
    let few = S.few_patterns in
    let least = symbols_least W in
    (omega arith, omega arith)

pub first_cut-requires-clause-symbols : goal.first_cut-requires-clause-symbols
first_cut-requires-clause-symbols g c =
    let k = c.args.chart.now in
    let W = chart_book k in
    subst (Within (binarised W).symbols W.patterns) (ap right_side_of c.in-Binary.is) (strict_right W (book_sound k.book.now) (strict_rule_of c.args.rule) c.requires.rule)

pub returns-in-Terminal : goal.returns-in-Terminal
returns-in-Terminal g c test es h =
    let k = c.args.chart.now in
    let W = chart_book k in
    let S = book_sound k.book.now in
    let a = c.args in
    let t = c.in-Terminal.t in
    let q = ap right_side_of c.in-Terminal.is in
    let w = span es a.start a.count in
    let long = span_length es a.start a.count (omega (arith, h.many, c.requires.part)) in
    let pattern = subst (Within (binarised W).symbols W.patterns) q (strict_right W S (strict_rule_of a.rule) c.requires.rule) in
    c.pattern_fits.ensures test es h ∙ ap (λ n. eqb n 1 && yes_cell (chart_rules k) (chart_fits test k) (32 + t) w) (sym long)
    ∙ sym (terminal_fits_one W S (chart_fits test k) t pattern w (strict_rule_of a.rule) q)

pub returns-in-Binary : goal.returns-in-Binary
returns-in-Binary g c test es h =
    let k = c.args.chart.now in
    let B = chart_rules k in
    let fits = chart_fits test k in
    let a = c.args in
    c.is_some.ensures
    ∙ found_fits B fits c.in-Binary.y c.in-Binary.z es a.start a.count (omega (arith, h.many, c.requires.part)) c.first_cut.result (c.first_cut.ensures.first test es h)
    ∙ sym (binary_fits B fits c.in-Binary.y c.in-Binary.z (span es a.start a.count) (strict_rule_of a.rule) (ap right_side_of c.in-Binary.is))
