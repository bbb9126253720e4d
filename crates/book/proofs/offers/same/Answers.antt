use Rattle.std.proofs.Common.{◌≡◌, ◌&&◌, sym, ap, ap₂, ◌∙◌, rules, arith}
use Rattle.std.proofs.lemmas.Bool.{eq-eqb}
use Rattle.std.proofs.lemmas.Slice.Eq.{slice_eq-Decides, compares_Decides}
use Rattle.std.proofs.lemmas.Bool.Decides.{same_from_decides, Decides-eqb}
use Rattle.grammar.specs.Lists.{same_numbers}
use Rattle.conversion.specs.Rows.{production_of}
use Rattle.book.proofs.offers.same.Goals as goal

-- equal numbers before a comparison of lists leave that comparison
pub returns-then-head : goal.returns-then-head
returns-then-head c =
    let a = c.args.a.now in
    let b = c.args.b.now in
    let xs = c.right.result.now in
    let ys = c.right-then-head.result.now in
    let e : c.eq.result ≡ same_numbers xs ys = same_from_decides c.eq.result (same_numbers xs ys) (slice_eq-Decides Decides-eqb xs ys c.eq.result c.eq.ensures) (compares_Decides same_numbers (search rules) xs ys) in
    let h : (production_of a).head ≡ (production_of b).head = omega arith in
    e ∙ ap₂ same_numbers c.right.ensures c.right-then-head.ensures ∙ sym (ap (λ t. t && same_numbers (production_of a).right (production_of b).right) (eq-eqb _ _ h))
