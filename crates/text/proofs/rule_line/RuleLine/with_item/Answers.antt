use Rattle.std.proofs.Common.{◌∙◌, arith}
use Rattle.std.proofs.lemmas.List.{length-set}
use Rattle.text.proofs.Items.{set_below}
use Rattle.text.proofs.rule_line.RuleLine.with_item.Goals as goal

pub invariant_of-line : goal.invariant_of-line
invariant_of-line c =
    let l = c.args.self in
    record { sized = length-set l.items l.len c.args.item ∙ l.sized; short = omega arith; named = l.named; known = set_below l.items 64 l.len c.args.item (omega arith) l.known c.requires; held = l.held }
