use Rattle.std.proofs.Common.{◌+◌, length, refl, sym, ap, ◌∙◌, arith}
use Rattle.programs.proofs.Dividing.{behind, first_from, all_lines, passed, before, after, all_before, none_after}
use Rattle.programs.proofs.divide.divide.Goals as goal

pub loop-line-init : goal.loop-line-init
loop-line-init c =
    let xs = c.args.input.now in
    let s = c.into_iter-line-iterator.ensures.into_iter_gives in
    record {
      text = ap (λ s. s.text.now) s ∙ c.of-line-items.ensures.text;
      first = all_lines xs ∙ ap (first_from xs) (sym (ap (λ s. s.from) s ∙ c.of-line-items.ensures.from));
    }

pub returns-then-divides-clause-rules : goal.returns-then-divides-clause-rules
returns-then-divides-clause-rules c =
    let i = c.loop-line.invariant in
    let t = sym c.if-divides.ensures in
    let b = before c.args.input.now c.loop-line.line-iterator c.next.new.self c.in-Some.line i.text c.in-Some.ensures.steps i.first t in
    search b

pub returns-then-divides-clause-traces : goal.returns-then-divides-clause-traces
returns-then-divides-clause-traces c =
    let i = c.loop-line.invariant in
    let t = sym c.if-divides.ensures in
    ap (λ r. r.now) c.unwrap_or.ensures ∙ behind c.args.input.now (length c.in-Some.line.text.now + 1) c.get.result _ (search c.get.ensures.lookup.0) refl
    ∙ after c.args.input.now c.loop-line.line-iterator c.next.new.self c.in-Some.line i.text c.in-Some.ensures.steps i.first t

pub loop-line-preserved : goal.loop-line-preserved
loop-line-preserved c =
    let i = c.loop-line.invariant in
    let f = sym c.if-divides.ensures in
    record {
      text = c.in-Some.ensures.steps.same ∙ i.text;
      first = i.first ∙ passed c.args.input.now c.loop-line.line-iterator c.next.new.self c.in-Some.line i.text c.in-Some.ensures.steps f;
    }

pub returns-clause-rules : goal.returns-clause-rules
returns-clause-rules c = let i = c.loop-line.invariant in all_before c.args.input.now c.loop-line.line-iterator.from i.first (omega (arith, c.in-None.ensures.steps.0, ap length i.text))

pub returns-clause-traces : goal.returns-clause-traces
returns-clause-traces c = let i = c.loop-line.invariant in none_after c.args.input.now c.loop-line.line-iterator.from i.first (omega (arith, c.in-None.ensures.steps.0, ap length i.text))
