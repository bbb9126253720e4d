use Rattle.std.proofs.Common.{◌≡◌, map, slice_index, sym, ap, ◌∙◌, arith}
use Rattle.std.proofs.lemmas.Grind.{common_steps}
use Rattle.std.proofs.lemmas.Simd.{map-map}
use Rattle.grammar.specs.Productions.{Production as Written}
use Rattle.conversion.specs.declared.production.Production.{Production}
use Rattle.conversion.specs.Rows.{production_of}
use Rattle.book.proofs.rules.Rules.cost.Goals as goal

pub returns : goal.returns
returns c =
    let rows = c.args.self.now.rows.items in
    let h : c.map_or.result ≡ slice_index (map (λ (p : Production). p.cost) rows) c.args.number = grind (arith, common_steps) in
    h ∙ ap (λ l. slice_index l c.args.number) (sym (map-map (λ (p : Written). p.cost) production_of rows))
