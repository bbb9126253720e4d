use Rattle.std.proofs.Common.{◌≡◌, ◌≤◌, string_bytes, ap, ◌∙◌, arith}
use Rattle.std.proofs.lemmas.Grind.{common_steps}
use Rattle.text.specs.Outcomes.{line_text}
use Rattle.conversion.specs.Rows.{production_of}
use Rattle.book.specs.Loads.{load}
use Rattle.book.proofs.Loading.{round_trip}
use Rattle.programs.proofs.rule_text.rule_text.Goals as goal

pub returns-clause-loads : goal.returns-clause-loads
returns-clause-loads c = λ T held few taken.
    let p = production_of c.args.rule.now in
    let line : string_bytes c.write.new.self ≡ line_text p = grind (arith, common_steps) in
    let low : p.cost ≤ 65535 = omega (arith, c.cost.ensures, c.cost.type_inv) in
    ap (load T held) line ∙ round_trip T held p few low taken
