use Rattle.std.proofs.Common.{◌≡◌, ◌≤◌, ◌++◌, [], ◌∷◌, Ok, Err, length, take, drop, sym, ap, ◌∙◌, subst, arith}
use Rattle.std.specs.Prelude.{IfSome}
use Rattle.std.proofs.lemmas.Result.{err_from_is_err_and}
use Rattle.programs.specs.Output.{line_texts}
use Rattle.programs.specs.Said.{script_said}
use Rattle.programs.specs.ScriptLines.{behind_line, read}
use Rattle.programs.specs.ScriptSaid.{LineGives, read_so_far}
use Rattle.programs.specs.declared.script.fault.Cause.TheVariants.{NoEnd}
use Rattle.programs.proofs.Texts.{next_texts}
use Rattle.programs.proofs.ScriptReading.{before_line, behind_it, on_ok, on_end, no_line, end_missed, end_reached, fault_given}
use Rattle.programs.proofs.script.read.read.Goals as goal

pub returns-in_err-take_line : goal.returns-in_err-take_line
returns-in_err-take_line g c =
    let S = g.A.Spelled.spelling in
    let i = c.loop-line.invariant in
    let xs = c.args.part.text.now in
    let was = c.loop-line.line-iterator in
    let l = c.in-Some.line in
    let h = c.in-Some.ensures.steps in
    let w = drop l.from l.text.now in
    let p = err_from_is_err_and c.from_residual.result c.from_residual.ensures.1 in
    let f = λ (u : Unit {0}). read_so_far (l.text.now ++ (10 ∷ [])) c.take_line.new.reader in
    rw (p.1, p.2) (fault_given S f script_said c.loop-line.number (read_so_far (take was.from (xs ++ (10 ∷ []))) c.loop-line.reader) w (line_texts (drop was.from xs)) (line_texts (drop c.next.new.self.from xs))
    (read S c.args.part.first (line_texts xs)) c.in_err-take_line.field-0.0 i.whole (next_texts xs was c.next.new.self l i.text h)
    (subst (λ t. LineGives c.loop-line.number f (Err c.in_err-take_line.field-0.0) (behind_line S (read_so_far t c.loop-line.reader) w)) (before_line xs was c.next.new.self l i.text h) c.in_err-take_line.ensures.gives))

pub loop-line-preserved : goal.loop-line-preserved
loop-line-preserved g c =
    let S = g.A.Spelled.spelling in
    let i = c.loop-line.invariant in
    let xs = c.args.part.text.now in
    let was = c.loop-line.line-iterator in
    let is = c.next.new.self in
    let l = c.in-Some.line in
    let h = c.in-Some.ensures.steps in
    let w = drop l.from l.text.now in
    let new = c.take_line.new.reader in
    record {
      text = h.same ∙ i.text;
      inside = omega (arith, h.past, h.ends.inside, ap length i.text);
      number = omega (arith, h.past, h.begins, l.inside, i.number);
      begun = subst (λ n. IfSome new.rules (λ from. from ≤ n)) (sym h.past) c.in_ok-take_line.ensures.within;
      whole = i.whole
          ∙ on_ok S c.loop-line.number (read_so_far (take was.from (xs ++ (10 ∷ []))) c.loop-line.reader) (read_so_far (take is.from (xs ++ (10 ∷ []))) new) w (line_texts (drop was.from xs)) (line_texts (drop is.from xs))
          (next_texts xs was is l i.text h)
          (ap (λ t. behind_line S (read_so_far t c.loop-line.reader) w) (sym (before_line xs was is l i.text h)) ∙ c.in_ok-take_line.ensures.gives ∙ ap (λ t. Ok (read_so_far t new)) (behind_it xs was is l i.text h));
    }

pub returns-then-is_some : goal.returns-then-is_some
returns-then-is_some g c =
    let i = c.loop-line.invariant in
    let xs = c.args.part.text.now in
    let from = c.loop-line.line-iterator.from in
    let r = c.loop-line.reader in
    let said : read g.A.Spelled.spelling c.args.part.first (line_texts xs) ≡ Err (c.loop-line.number, NoEnd) = i.whole
    ∙ on_end g.A.Spelled.spelling c.loop-line.number (read_so_far (take from (xs ++ (10 ∷ []))) r) (line_texts (drop from xs)) (no_line xs from (omega (arith, c.in-None.ensures.steps.0, ap length i.text)))
    ∙ end_missed c.loop-line.number (script_said r.script) (λ f. drop f (take from (xs ++ (10 ∷ [])))) r.rules (sym c.is_some.ensures ∙ c.if-is_some.true) in
    search said

pub returns : goal.returns
returns g c =
    let i = c.loop-line.invariant in
    let xs = c.args.part.text.now in
    let from = c.loop-line.line-iterator.from in
    let r = c.loop-line.reader in
    i.whole ∙ on_end g.A.Spelled.spelling c.loop-line.number (read_so_far (take from (xs ++ (10 ∷ []))) r) (line_texts (drop from xs)) (no_line xs from (omega (arith, c.in-None.ensures.steps.0, ap length i.text)))
    ∙ end_reached c.loop-line.number (script_said r.script) (λ f. drop f (take from (xs ++ (10 ∷ [])))) r.rules (sym c.is_some.ensures ∙ c.if-is_some.false)
