use Rattle.std.proofs.Common.{◌≡◌, ◌+◌, ◌-◌, ◌≤◌, ◌++◌, length, take, drop, string_bytes, sym, refl, ap, ◌∙◌, subst, append_assoc, arith}
use Rattle.std.specs.Prelude.{codes}
use Rattle.std.proofs.lemmas.List.{take_all, drop_all, length-take}
use Rattle.programs.specs.Output.{line_texts}
use Rattle.programs.specs.ScriptOutput.{part, parts, part_print, parts_print}
use Rattle.programs.proofs.Texts.{texts_none}
use Rattle.programs.proofs.Dividing.{behind}
use Rattle.programs.proofs.ScriptReading.{no_line, rules_whole}
use Rattle.programs.proofs.ScriptParts.{onto, onto_none, splits_none, Splits, turn, bar_turn, splits_more, print_last}
use Rattle.programs.proofs.script.parts_text.Goals as goal

pub loop-line-init : goal.loop-line-init
loop-line-init c =
    let xs = c.args.input.now in
    let s = c.into_iter-line-iterator.ensures.into_iter_gives in
    let z : c.into_iter-line-iterator.result.from ≡ 0 = ap (λ s. s.from) s ∙ c.of-line-items.ensures.from in
    let to = c.into_iter-line-iterator.result.from in
    record {
      text = ap (λ s. s.text.now) s ∙ c.of-line-items.ensures.text;
      order = omega arith;
      inside = omega (arith, z);
      number = omega (arith, z);
      first = omega arith;
      splits = λ k. subst (λ n. Splits (take n xs)) (sym z) splits_none;
      whole = ap parts_print (sym (onto_none 1 (line_texts xs)))
          ∙ ap (λ ls. parts_print (onto 1 ls (parts 1 (line_texts xs)))) (sym texts_none)
          ∙ ap (λ n. parts_print (onto 1 (line_texts (take n xs)) (parts 1 (line_texts (drop n xs))))) (sym z)
          ∙ ap (λ o. o ++ parts_print (onto 1 (line_texts (take to xs)) (parts 1 (line_texts (drop to xs))))) (sym c.new-out.ensures.bytes);
    }

pub loop-line-preserved : goal.loop-line-preserved
loop-line-preserved c =
    let i = c.loop-line.invariant in
    let xs = c.args.input.now in
    let was = c.loop-line.line-iterator in
    let l = c.in-Some.line in
    let h = c.in-Some.ensures.steps in
    let out = string_bytes c.loop-line.out in
    record {
      text = h.same ∙ i.text;
      order = omega (arith, h.past, h.begins, l.inside, i.order);
      inside = omega (arith, h.past, h.ends.inside, ap length i.text);
      number = omega (arith, h.past, h.begins, l.inside, i.number);
      first = i.first;
      splits = splits_more xs was c.next.new.self l i.text h c.loop-line.from i.order i.splits;
      whole = i.whole ∙ ap (λ ps. out ++ parts_print ps) (turn xs was c.next.new.self l i.text h c.loop-line.from i.order i.splits c.loop-line.first c.loop-line.number (sym c.divides.ensures ∙ c.if-divides.false));
    }

pub loop-line-preserved-then-divides : goal.loop-line-preserved-then-divides
loop-line-preserved-then-divides c =
    let i = c.loop-line.invariant in
    let xs = c.args.input.now in
    let was = c.loop-line.line-iterator in
    let is = c.next.new.self in
    let l = c.in-Some.line in
    let h = c.in-Some.ensures.steps in
    let from = c.loop-line.from in
    let first = c.loop-line.first in
    let n = c.loop-line.number in
    let out = string_bytes c.loop-line.out in
    let bar = codes "%\n" in
    let p = part_print (part first (line_texts (drop from (take was.from xs)))) in
    let more = parts_print (onto (n + 1) (line_texts (drop is.from (take is.from xs))) (parts (n + 1) (line_texts (drop is.from xs)))) in
    let text : take (l.from - from) (drop from xs) ≡ drop from (take was.from xs) = rules_whole xs from l.from (omega (arith, h.begins, i.order)) ∙ ap (λ k. drop from (take k xs)) h.begins in
    let before : string_bytes c.push_part.new.out ≡ out ++ p = c.in_ok-push_part.ensures ∙ ap (λ t. out ++ part_print (part first (line_texts t))) text in
    let printed : string_bytes c.writeln.new.self ≡ (out ++ p) ++ bar = cc (before, c.in_ok-writeln.ensures.bytes) in
    record {
      text = h.same ∙ i.text;
      order = omega (arith, h.past);
      inside = omega (arith, h.past, h.ends.inside, ap length i.text);
      number = omega (arith, h.past, h.begins, l.inside, i.number);
      first = omega (arith, h.begins, l.inside, i.number);
      splits = λ k. subst (λ m. Splits (drop m (take is.from xs))) h.past (subst Splits (sym (drop_all is.from (take is.from xs) (omega (arith, length-take is.from xs)))) splits_none);
      whole = i.whole
          ∙ ap (λ t. out ++ t) (bar_turn xs was is l i.text h from i.order i.splits first n (sym c.divides.ensures ∙ c.if-divides.true))
          ∙ sym (append_assoc out p (bar ++ more)) ∙ sym (append_assoc (out ++ p) bar more)
          ∙ ap (λ o. o ++ more) (sym printed)
          ∙ ap (λ m. string_bytes c.writeln.new.self ++ parts_print (onto (n + 1) (line_texts (drop m (take is.from xs))) (parts (n + 1) (line_texts (drop is.from xs))))) h.past;
    }

pub returns : goal.returns
returns c =
    let i = c.loop-line.invariant in
    let xs = c.args.input.now in
    let from = c.loop-line.from in
    let to = c.loop-line.line-iterator.from in
    let first = c.loop-line.first in
    let out = string_bytes c.loop-line.out in
    let long : length xs ≤ to = omega (arith, c.in-None.ensures.steps.0, ap length i.text) in
    let text : c.unwrap_or-text.result.now ≡ drop from (take to xs) = ap (λ r. r.now) c.unwrap_or-text.ensures ∙ behind xs from c.get.result _ (search c.get.ensures.lookup.0) refl
    ∙ ap (drop from) (sym (take_all to xs long)) in
    c.in_ok-push_part-2.ensures ∙ ap (λ t. out ++ part_print (part first (line_texts t))) text
    ∙ sym (i.whole ∙ ap (λ t. out ++ t) (print_last first c.loop-line.number (line_texts (drop from (take to xs))) (line_texts (drop to xs)) (no_line xs to long)))
