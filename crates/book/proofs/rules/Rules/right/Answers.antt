use Rattle.std.proofs.Common.{◌<◌, ◌≤◌, length, get_or, sym, ap, ◌∙◌, arith}
use Rattle.book.proofs.Held.{right_there, right_past}
use Rattle.book.proofs.rules.Rules.right.Goals as goal

pub returns-in-Some : goal.returns-in-Some
returns-in-Some c =
    let r = c.args.self.now in
    let h = c.in-Some.ensures in
    let e = c.deref.ensures.0 in
    let p = c.in-Some.rule.now in
    let there : c.args.number < length r.rows.items = omega (arith, h.lookup.3.0, ap length e) in
    c.right.ensures ∙ right_there r.rows.items r.patterns c.args.number p there (h.lookup.3.1 p ∙ ap (λ l. get_or l c.args.number p) e)

pub returns-in-None : goal.returns-in-None
returns-in-None c =
    let r = c.args.self.now in
    let h = c.in-None.ensures in
    let past : length r.rows.items ≤ c.args.number = omega (arith, h.lookup.3, ap length c.deref.ensures.0) in
    sym (right_past r.rows.items r.patterns c.args.number past)
