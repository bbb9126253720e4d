use Rattle.std.proofs.Common.{length, drop, sym, ap, ◌∙◌, arith}
use Rattle.text.specs.Turns.{piece_of, words_left}
use Rattle.programs.specs.Output.{line_texts}
use Rattle.programs.proofs.Texts.{next_texts}
use Rattle.programs.proofs.ScriptSaying.{words_at}
use Rattle.programs.proofs.ScriptReading.{no_line}
use Rattle.programs.proofs.ScriptParts.{first_passes, first_found, first_none}
use Rattle.programs.proofs.script.first_word.Goals as goal

pub returns-in-Some-next : goal.returns-in-Some-next
returns-in-Some-next c =
    let i = c.loop-line.invariant in
    let xs = c.args.part.text.now in
    let was = c.loop-line.line-iterator in
    let l = c.in-Some.line in
    let all = words_at c.words-words.result l.text.now l.from c.words-words.ensures.text c.words-words.ensures.from in
    sym (i.first ∙ first_found c.loop-line.number l.from (drop l.from l.text.now) (line_texts (drop was.from xs)) (line_texts (drop c.next.new.self.from xs)) (piece_of c.in-Some-next.word) (words_left c.next-in-loop-line.new.self)
    (next_texts xs was c.next.new.self l i.text c.in-Some.ensures.steps) (all ∙ c.in-Some-next.ensures.steps))

pub loop-line-preserved : goal.loop-line-preserved
loop-line-preserved c =
    let i = c.loop-line.invariant in
    let xs = c.args.part.text.now in
    let was = c.loop-line.line-iterator in
    let l = c.in-Some.line in
    let h = c.in-Some.ensures.steps in
    let all = words_at c.words-words.result l.text.now l.from c.words-words.ensures.text c.words-words.ensures.from in
    record {
      text = h.same ∙ i.text;
      inside = omega (arith, h.past, h.ends.inside, ap length i.text);
      number = omega (arith, h.past, h.begins, l.inside, i.number);
      first = i.first ∙ first_passes c.loop-line.number l.from (drop l.from l.text.now) (line_texts (drop was.from xs)) (line_texts (drop c.next.new.self.from xs)) (next_texts xs was c.next.new.self l i.text h) (all ∙ c.in_default.ensures.steps.0);
    }

pub returns : goal.returns
returns c =
    let i = c.loop-line.invariant in
    let xs = c.args.part.text.now in
    let from = c.loop-line.line-iterator.from in
    sym (i.first ∙ first_none c.loop-line.number (line_texts (drop from xs)) (no_line xs from (omega (arith, c.in-None.ensures.steps.0, ap length i.text))))
