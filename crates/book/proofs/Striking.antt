-- The rules held, with one less.
use Rattle.std.proofs.Common.{◌≡◌, ◌≤◌, List, [], ◌∷◌, ◌++◌, map, length, sym, refl, ap, ◌∙◌, subst, arith}
use Rattle.std.proofs.lemmas.List.{map-append}
use Rattle.grammar.specs.Productions.{Production}
use Rattle.grammar.specs.Binarise.{Admitted}
use Rattle.grammar.proofs.Struck.{struck_fits}
use Rattle.conversion.specs.Rows.{production_of}
use Rattle.conversion.specs.declared.production.Production.{Production as Row}
use Rattle.conversion.specs.Binarised.{rows_book}
use Rattle.book.specs.declared.rules.Rules.{Rules}
use Rattle.book.specs.Rules.{held}
use Rattle.book.specs.Offers.{book}
use Rattle.book.specs.Strikes.{all_but_last, strike_refusal}
use Rattle.book.proofs.Props.{admitted_of}

-- where a rule is held a strike is not refused
pub some_held : (rules : List Production) → 1 ≤ length rules → strike_refusal rules ≡ 0
some_held [] h = absurd (omega arith)
some_held (p ∷ ps) h = refl

-- all but the last of a list with one more at the end
pub before_last : {A : Type 0} (xs : List A) (a : A) → all_but_last (xs ++ (a ∷ [])) ≡ xs
before_last [] a = refl
before_last (x ∷ []) a = refl
before_last (x ∷ y ∷ ys) a = ap (λ l. x ∷ l) (before_last (y ∷ ys) a)

-- the rules without the last keep to the bounds
pub struck_admitted : (b : Rules) (rows : List Row) (last : Row) → b.rows.items ≡ rows ++ (last ∷ []) → ∥ Admitted (rows_book rows b.patterns) ∥₁
struck_admitted b rows last e =
    let held_then = ap (map production_of) e ∙ map-append production_of rows (last ∷ []) in
    let a = admitted_of (rows_book b.rows.items b.patterns) b.admitted in
    ∣ struck_fits (book b.patterns (map production_of rows)) (production_of last) (subst (λ l. Admitted (book b.patterns l)) held_then a) ∣₁

-- what is then held
pub held_struck : (b : Rules) (rows : List Row) (last : Row) → b.rows.items ≡ rows ++ (last ∷ []) → map production_of rows ≡ all_but_last (held b)
held_struck b rows last e =
    sym (ap all_but_last (ap (map production_of) e ∙ map-append production_of rows (last ∷ [])) ∙ before_last (map production_of rows) (production_of last))
