use Rattle.std.proofs.Common.{sym, subst}
use Rattle.grammar.specs.Binarise.{Admitted}
use Rattle.conversion.specs.Binarised.{rows_book}
use Rattle.book.proofs.NoRules.{admitted_without_rules}
use Rattle.book.proofs.rules.Rules.none.Goals as goal

pub invariant_of-result : goal.invariant_of-result
invariant_of-result c =
    let T = c.args.patterns in
    record { admitted = ∣ subst (λ rows. Admitted (rows_book rows T)) (sym c.new.ensures) (admitted_without_rules T c.requires) ∣₁ }
