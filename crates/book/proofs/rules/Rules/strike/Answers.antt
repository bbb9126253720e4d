use Rattle.std.proofs.Common.{◌≡◌, List, [], ◌∷◌, ◌++◌, length, Some, None, Option, ap, ◌∙◌, subst, append-nil, arith}
use Rattle.std.specs.Option.{option_to_list}
use Rattle.std.proofs.lemmas.List.{length-map, length_push}
use Rattle.conversion.specs.Rows.{production_of}
use Rattle.conversion.specs.Binarised.{rows_book}
use Rattle.conversion.specs.declared.production.Production.{Production}
use Rattle.grammar.specs.Binarise.{Admitted}
use Rattle.book.specs.declared.rules.Rules.{Rules}
use Rattle.book.specs.Rules.{held}
use Rattle.book.proofs.Held.{many}
use Rattle.book.proofs.Striking.{some_held, held_struck, struck_admitted}
use Rattle.book.proofs.rules.Rules.strike.Goals as goal

-- the rules without what was taken keep to the bounds
taken_admitted : (b : Rules) (rows : List Production) (taken : Option Production) → b.rows.items ≡ rows ++ option_to_list taken → ∥ Admitted (rows_book rows b.patterns) ∥₁
taken_admitted b rows (Some last) e = struck_admitted b rows last e
taken_admitted b rows None e = subst (λ l. ∥ Admitted (rows_book l b.patterns) ∥₁) (e ∙ append-nil rows) b.admitted

pub invariant_of-self : goal.invariant_of-self
invariant_of-self c = record { admitted = taken_admitted c.args.self.now c.pop.new.self.items c.pop.result c.pop.ensures.items }

pub returns-clause-says : goal.returns-clause-says
returns-clause-says c =
    let b = c.args.self.now in
    let rows = c.pop.new.self.items in
    let last = c.in_ok-ok_or.field-0 in
    let some : c.pop.result ≡ Some last = c.in_ok-ok_or.ensures.ok_part in
    let e : b.rows.items ≡ rows ++ (last ∷ []) = c.pop.ensures.items ∙ ap (λ o. rows ++ option_to_list o) some in (
      some_held (held b) (omega (arith, many b, ap length e, length_push rows last)),
      omega (arith, c.len.ensures.value, length-map rows production_of),
      held_struck b rows last e,
    )
