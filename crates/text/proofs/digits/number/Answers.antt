use Rattle.std.proofs.Common.{ℕ, ◌+◌, ◌-◌, ◌*◌, ◌≤◌, List, [], ◌∷◌, get_or, drop, sym, ◌∙◌, arith}
use Rattle.std.proofs.lemmas.List.{at_drop_more}
use Rattle.text.proofs.Short.{decimal_after}
use Rattle.text.proofs.digits.number.Goals as goal

grows : (n : ℕ) (ds : List ℕ) → n ≤ decimal_after n ds
grows n [] = omega arith
grows n (d ∷ ds) = omega (arith, grows (n * 10 + (d - 48)) ds)

pub returns-then-n-limit : goal.returns-then-n-limit
returns-then-n-limit c =
    let ds = c.args.digits.now in
    let i = c.loop-d.d-index in
    let e = sym (at_drop_more (decimal_after c.loop-d.n) ds i 0 c.loop-d-test.true) ∙ c.loop-d.invariant.1 in
    omega (arith, e, grows (c.loop-d.n * 10 + (get_or ds i 0 - 48)) (drop (i + 1) ds), c.if-n-limit.true)
