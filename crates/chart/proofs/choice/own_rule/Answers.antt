use Rattle.std.proofs.Common.{sym, ap, true≢false, inl, inr}
use Rattle.grammar.specs.Lists.{span}
use Rattle.grammar.specs.Binarised.{empty, unit, binary, terminal}
use Rattle.conversion.specs.Views.{right_side_of, strict_rule_of}
use Rattle.chart.specs.Events.{chart_book, chart_fits}
use Rattle.chart.specs.Inner.{cut_after}
use Rattle.chart.proofs.OfBook.{book_sound}
use Rattle.chart.proofs.Choices.{own_has, own_within, own_proper, own_leaf, own_fork, own_cut}
use Rattle.chart.proofs.choice.own_rule.Goals as goal

pub first_cut-requires-clause-symbols : goal.first_cut-requires-clause-symbols
first_cut-requires-clause-symbols g c =
    let k = c.args.chart.now in
    own_within (chart_book k) (book_sound k.book.now) (strict_rule_of c.args.rule) c.requires.rule (binary c.in-Binary.y c.in-Binary.z) (ap right_side_of c.in-Binary.is)

pub returns-in_err-cut-in-Binary-clause-taken : goal.returns-in_err-cut-in-Binary-clause-taken
returns-in_err-cut-in-Binary-clause-taken g c test es h f =
    let k = c.args.chart.now in
    let a = c.args in
    absurd (own_cut (chart_book k) (book_sound k.book.now) (strict_rule_of a.rule) c.requires.rule (chart_fits test k) (span es a.start a.count) f c.in-Binary.y c.in-Binary.z
    (ap right_side_of c.in-Binary.is) (c.in_err-cut-in-Binary.ensures.first test es h))

pub returns-in-Terminal-clause-at : goal.returns-in-Terminal-clause-at
returns-in-Terminal-clause-at g c =
    let k = c.args.chart.now in
    (c.in-Terminal.field-0, own_has (chart_book k) (book_sound k.book.now) (strict_rule_of c.args.rule) c.requires.rule (terminal c.in-Terminal.field-0) (ap right_side_of c.in-Terminal.is))

pub returns-in-Terminal-clause-taken : goal.returns-in-Terminal-clause-taken
returns-in-Terminal-clause-taken g c test es h f =
    let k = c.args.chart.now in
    let a = c.args in
    own_leaf (chart_book k) (book_sound k.book.now) (strict_rule_of a.rule) c.requires.rule (chart_fits test k) (span es a.start a.count) f c.in-Terminal.field-0 (ap right_side_of c.in-Terminal.is)

pub returns-in_ok-cut-in-Binary-clause-at : goal.returns-in_ok-cut-in-Binary-clause-at
returns-in_ok-cut-in-Binary-clause-at g c =
    let k = c.args.chart.now in
    let cut = c.in_ok-cut-in-Binary.ensures.inside in
    (own_has (chart_book k) (book_sound k.book.now) (strict_rule_of c.args.rule) c.requires.rule (binary c.in-Binary.y c.in-Binary.z) (ap right_side_of c.in-Binary.is), cut.0, cut.1)

pub returns-in_ok-cut-in-Binary-clause-taken : goal.returns-in_ok-cut-in-Binary-clause-taken
returns-in_ok-cut-in-Binary-clause-taken g c test es h f =
    let k = c.args.chart.now in
    let a = c.args in
    own_fork (chart_book k) (book_sound k.book.now) (strict_rule_of a.rule) c.requires.rule (chart_fits test k) (span es a.start a.count) f c.in-Binary.y c.in-Binary.z
    (cut_after es a.start a.count c.in_ok-cut-in-Binary.cut) (ap right_side_of c.in-Binary.is) (c.in_ok-cut-in-Binary.ensures.first test es h)

pub returns-in-Empty-clause-taken : goal.returns-in-Empty-clause-taken
returns-in-Empty-clause-taken g c test es h f =
    let k = c.args.chart.now in
    let own = own_proper (chart_book k) (book_sound k.book.now) (strict_rule_of c.args.rule) c.requires.rule in
    absurd (true≢false (sym (elim c.in-Empty.is [ inl e ↦ own empty (ap right_side_of e) | inr e ↦ own (unit e.0) (ap right_side_of e.1) ])))
