use Rattle.grammar.specs.Binarise.{binarised}
use Rattle.std.proofs.Common.{◌<◌, Some, subst}
use Rattle.conversion.specs.Linked.{Chosen}
use Rattle.conversion.specs.Views.{strict_rule_of}
use Rattle.book.specs.Rules.{rules_book}
use Rattle.book.specs.declared.converted.Converted.{Converted}
use Rattle.chart.specs.Events.{chart_book}
use Rattle.chart.proofs.OfBook.{book_sound}
use Rattle.chart.proofs.Choices.{no_step, a_step}
use Rattle.chart.proofs.choice.first_step.Goals as goal

pub returns-in-Some-Steps : goal.returns-in-Some-Steps
returns-in-Some-Steps g c =
    let k = c.args.chart.now in
    let x = c.args.symbol in
    let r = c.args.rule in
    let told = subst (λ (q : Converted). x < 128 → r.end < 128 → Chosen (binarised (rules_book q.rules)) x r.end (Some c.in-Some-Steps.field-0)) c.converted.ensures c.in-Some-Steps.ensures.means in
    a_step (chart_book k) (book_sound k.book.now) x (strict_rule_of r) c.requires c.in-Some-Steps.field-0-0 c.in-Some-Steps.step (rw c.in-Some-Steps.field-0-is at told)

pub returns-in-Some-Empty : goal.returns-in-Some-Empty
returns-in-Some-Empty g c =
    let k = c.args.chart.now in
    no_step (chart_book k) (book_sound k.book.now) c.args.symbol (strict_rule_of c.args.rule) c.requires c.chain.result (λ j s e. cc) (rw c.converted.ensures at c.chain.ensures.means)

pub returns-in-Some-Empty-2 : goal.returns-in-Some-Empty-2
returns-in-Some-Empty-2 g c =
    let k = c.args.chart.now in
    no_step (chart_book k) (book_sound k.book.now) c.args.symbol (strict_rule_of c.args.rule) c.requires c.chain.result (λ j s e. cc) (rw c.converted.ensures at c.chain.ensures.means)
