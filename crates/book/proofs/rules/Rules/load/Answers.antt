use Rattle.std.proofs.Common.{◌≡◌, suc, ◌+◌, ◌<◌, ◌≤◌, Bool, length, drop, Ok, sym, ap, ◌∙◌, ⊎_elim, arith}
use Rattle.std.proofs.lemmas.Result.{err_from_is_err_and}
use Rattle.std.proofs.lemmas.Bool.{cases_lt}
use Rattle.text.specs.Turns.{words_of, outcome_of}
use Rattle.text.specs.Words.{lines}
use Rattle.book.specs.Faults.{load_number, load_place}
use Rattle.book.specs.Rules.{held}
use Rattle.book.specs.Loads.{first_place, offer_line, line_is, load, load_lines, taken}
use Rattle.book.proofs.Loading.{line_taken, line_refuses, text_ends}
use Rattle.book.proofs.rules.Rules.load.Goals as goal

pub returns-in_err-load_line-clause-is : goal.returns-in_err-load_line-clause-is
returns-in_err-load_line-clause-is c =
    let p = err_from_is_err_and c.from_residual.result c.from_residual.ensures.1 in
    let i = c.loop-line.invariant in
    let f = c.in_err-load_line.field-0.0 in
    let T = c.args.self.now.patterns in
    let xs = c.args.text.now in
    let l = c.in-Some.line in
    let b = held c.loop-line.self in
    let n = c.loop-line.lines in
    let stops = c.in_err-load_line.ensures.is n ∙ ap (λ P. offer_line P b n (first_place (words_of l)) (outcome_of l)) i.over in
    rw (p.1, p.2) (sym (line_refuses T xs c.loop-line.line-iterator c.next.new.self l (load T (held c.args.self.now) xs) b (held c.load_line.new.self) n (load_number f) (load_place f) i.text c.in-Some.ensures.steps i.rest stops))

pub loop-line-preserved-then-branch : goal.loop-line-preserved-then-branch
loop-line-preserved-then-branch c =
    let i = c.loop-line.invariant in
    let h = c.in_ok-load_line.ensures in
    let g = c.in-Some.ensures.steps in
    let T = c.args.self.now.patterns in
    let xs = c.args.text.now in
    let l = c.in-Some.line in
    let b = held c.loop-line.self in
    let a = held c.load_line.new.self in
    let n = c.loop-line.lines in
    let k : n + 1 ≡ suc n = omega arith in
    let o = ap (taken a) k ∙ ap (λ (v : Bool). line_is n a (Ok v)) (sym c.if-branch.true) ∙ h.is n ∙ ap (λ P. offer_line P b n (first_place (words_of l)) (outcome_of l)) i.over in
    let rest = line_taken T xs c.loop-line.line-iterator c.next.new.self l (load T (held c.args.self.now) xs) b a n (n + 1) i.text g i.rest o in
    record {
      text = g.same ∙ i.text;
      few = omega (arith, i.few, g.past, g.begins, l.inside);
      over = h.over ∙ i.over;
      rest = rest.0;
      done = rest.1;
    }

pub loop-line-preserved : goal.loop-line-preserved
loop-line-preserved c =
    let i = c.loop-line.invariant in
    let h = c.in_ok-load_line.ensures in
    let g = c.in-Some.ensures.steps in
    let T = c.args.self.now.patterns in
    let xs = c.args.text.now in
    let l = c.in-Some.line in
    let b = held c.loop-line.self in
    let a = held c.load_line.new.self in
    let n = c.loop-line.lines in
    let o = ap (λ (v : Bool). line_is n a (Ok v)) (sym c.if-branch.false) ∙ h.is n ∙ ap (λ P. offer_line P b n (first_place (words_of l)) (outcome_of l)) i.over in
    let rest = line_taken T xs c.loop-line.line-iterator c.next.new.self l (load T (held c.args.self.now) xs) b a n n i.text g i.rest o in
    record {
      text = g.same ∙ i.text;
      few = omega (arith, i.few, g.past, g.begins, l.inside);
      over = h.over ∙ i.over;
      rest = rest.0;
      done = rest.1;
    }

pub returns-clause-is : goal.returns-clause-is
returns-clause-is c =
    let i = c.loop-line.invariant in
    let T = c.args.self.now.patterns in
    let xs = c.args.text.now in
    let from = c.loop-line.line-iterator.from in
    let b = held c.loop-line.self in
    let n = c.loop-line.lines in
    ⊎_elim
    (λ (g : length xs < from). sym (i.done g))
    (λ (g : from ≤ length xs).
    let s : from ≡ length xs = omega (arith, c.in-None.ensures.steps.0, ap length i.text) in
    sym (i.rest g ∙ ap (λ k. load_lines T b n (lines k (drop k xs))) s ∙ text_ends T b n xs))
    (cases_lt (length xs) from)
