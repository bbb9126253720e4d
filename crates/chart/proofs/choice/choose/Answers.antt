use Rattle.std.proofs.Common.{◌∙◌, sym, subst, arith}
use Rattle.grammar.specs.Lists.{Mem, First, span}
use Rattle.grammar.specs.Strict.{strict_rules_of}
use Rattle.grammar.specs.Taken.{rule_fits}
use Rattle.grammar.proofs.Spans.{span_length}
use Rattle.conversion.specs.Views.{strict_rule_of}
use Rattle.chart.specs.Events.{chart_book, chart_fits}
use Rattle.chart.specs.Inner.{chart_rules, ChoiceAt, ChoiceTaken}
use Rattle.chart.proofs.OfBook.{book_sound}
use Rattle.chart.proofs.Choices.{cell_some, step_at, step_goes}
use Rattle.chart.proofs.choice.choose.Goals as goal

pub returns-in_err-rule-clause-taken : goal.returns-in_err-rule-clause-taken
returns-in_err-rule-clause-taken g c test es h =
    let k = c.args.chart.now in
    let a = c.args in
    let long = span_length es a.start a.count (omega (arith, h.many, c.requires.part)) in
    subst (ChoiceTaken (chart_rules k) (chart_fits test k) a.symbol es a.start a.count) (sym c.from_residual.ensures)
    (cell_some (chart_rules k) (chart_fits test k) a.symbol (span es a.start a.count) (omega (arith, long, c.requires.part)) ∙ c.in_err-rule.ensures.first test es h)

pub own_rule-requires-clause-rule : goal.own_rule-requires-clause-rule
own_rule-requires-clause-rule g c =
    let r = c.in_ok-rule.rule in
    subst (λ y. Mem (strict_rule_of r) (strict_rules_of (chart_rules c.args.chart.now) y)) (sym c.in-None.ensures) c.in_ok-rule.ensures.rule

pub returns-in-Some-clause-at : goal.returns-in-Some-clause-at
returns-in-Some-clause-at g c =
    let k = c.args.chart.now in
    let r = c.in_ok-rule.rule in
    assumption (step_at (chart_book k) (book_sound k.book.now) c.args.symbol (strict_rule_of r) c.in_ok-rule.ensures.rule c.in-Some.step c.in-Some.ensures)

pub returns-in-Some-clause-taken : goal.returns-in-Some-clause-taken
returns-in-Some-clause-taken g c test es h =
    let k = c.args.chart.now in
    let a = c.args in
    let r = c.in_ok-rule.rule in
    let long = span_length es a.start a.count (omega (arith, h.many, c.requires.part)) in
    step_goes (chart_book k) (book_sound k.book.now) a.symbol (strict_rule_of r) c.in_ok-rule.ensures.rule c.in-Some.step c.in-Some.ensures
    (chart_fits test k) (span es a.start a.count) (omega (arith, long, c.requires.part)) (c.in_ok-rule.ensures.first test es h)

pub returns-in-None-clause-at : goal.returns-in-None-clause-at
returns-in-None-clause-at g c = subst (λ y. ChoiceAt (chart_rules c.args.chart.now) y c.args.count c.own_rule.result) c.in-None.ensures c.own_rule.ensures.at

pub returns-in-None-clause-taken : goal.returns-in-None-clause-taken
returns-in-None-clause-taken g c test es h =
    let k = c.args.chart.now in
    let a = c.args in
    let B = chart_rules k in
    let fits = chart_fits test k in
    let r = c.in_ok-rule.rule in
    subst (λ y. ChoiceTaken B fits y es a.start a.count c.own_rule.result) c.in-None.ensures
    (c.own_rule.ensures.taken test es h
    (subst (λ y. First (rule_fits B fits (span es a.start a.count)) (strict_rules_of B y) (strict_rule_of r)) (sym c.in-None.ensures) (c.in_ok-rule.ensures.first test es h)))
