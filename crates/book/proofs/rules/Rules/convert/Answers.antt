use Rattle.std.proofs.Common.{sym, subst}
use Rattle.grammar.specs.Productions.{Sound}
use Rattle.conversion.specs.Binarised.{rows_book}
use Rattle.book.specs.Rules.{rules_book}
use Rattle.book.proofs.Props.{admitted_of}
use Rattle.book.proofs.rules.Rules.convert.Goals as goal

pub convert-form-requires : goal.convert-form-requires
convert-form-requires c =
    let b = c.args.self in
    subst (λ rows. Sound (rows_book rows b.patterns)) (sym c.deref.ensures.0) (admitted_of (rules_book b) b.admitted).sound
