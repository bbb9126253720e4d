use Rattle.std.proofs.Common.{◌≡◌, true, false, not, map, Ok, Err, Result, sym, ap, ◌∙◌, true≢false, rules}
use Rattle.std.specs.Result.{OnOk, OnErr, is_err}
use Rattle.conversion.specs.Views.{strict_rule_of}
use Rattle.conversion.proofs.Found.{found_room, found_full}
use Rattle.conversion.proofs.strict.StrictRules.push.Goals as goal

at_err : {T E P : Type 0} (r : Result T E) → is_err r ≡ true → OnErr r P → P
at_err (Ok x) e h = absurd (true≢false (sym e))
at_err (Err y) e h = h

at_ok : {T E P : Type 0} (r : Result T E) → is_err r ≡ false → OnOk r P → P
at_ok (Ok x) e h = h
at_ok (Err y) e h = absurd (true≢false e)

pub returns-then-is_err : goal.returns-then-is_err
returns-then-is_err c l h =
    let s = c.args.self.now in
    let e = sym c.is_err.ensures.value ∙ c.if-is_err.true in
    let f = found_full strict_rule_of s.rules.items c.args.rule s.complete l (at_err _ e c.try_push.ensures.full) h in
    let over = f.1 in
    (ap (λ v. map strict_rule_of v.items) (at_err _ e c.try_push.ensures.err) ∙ f.0, search rules)

pub returns-else-is_err : goal.returns-else-is_err
returns-else-is_err c l h =
    let s = c.args.self.now in
    let e = sym c.is_err.ensures.value ∙ c.if-is_err.false in
    let f = found_room strict_rule_of s.rules.items c.args.rule s.complete l (c.try_push.ensures.variant.0 (c.is_err.ensures.negation ∙ ap not c.if-is_err.false)) h in
    (ap (map strict_rule_of) (at_ok _ e c.try_push.ensures.ok) ∙ f.0, f.1)
