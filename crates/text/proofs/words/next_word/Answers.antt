use Rattle.std.proofs.Common.{◌≡◌, ◌+◌, ◌<◌, length, get_or, ap, ◌∙◌, arith, rules}
use Rattle.text.specs.Words.{parts}
use Rattle.text.proofs.Wording.{words_from, words_past, word_at, stretch, length_stretch, ends_later}
use Rattle.text.proofs.words.next_word.Goals as goal

pub returns-then-from-text-clause-is : goal.returns-then-from-text-clause-is
returns-then-from-text-clause-is c = words_past c.args.text.now c.args.from (omega arith)

pub returns-then-place-text-clause-is : goal.returns-then-place-text-clause-is
returns-then-place-text-clause-is c =
    let xs = c.args.text.now in
    let s = c.word_start-place.ensures in
    words_from xs c.args.from c.word_start-place.result s.within.0 (omega arith) s.before ∙ words_past xs c.word_start-place.result (omega arith)

pub returns : goal.returns
returns c =
    let xs = c.args.text.now in
    let p = c.word_start-place.result in
    let q = c.word_end-past.result in
    let s = c.word_start-place.ensures in
    let t = c.word_end-past.ensures in
    let grown : p < q = ends_later xs p q t.within.0 (omega arith) (λ l. s.found (omega arith)) t.found in
    let gap = words_from xs c.args.from p s.within.0 (omega arith) s.before in
    let word = word_at xs p q grown t.within.1 t.before t.found in
    let long = length_stretch xs p q t.within.0 t.within.1 in
    let end : p + length (stretch xs p q) ≡ q = omega (arith, long) in
    record {
      found = record { later = s.within.0; skipped = s.before; some = omega (arith, long); part = search rules; inside = omega (arith, long); plain = λ k a b. t.before k a (omega (arith, long)); ended = λ l. ap (λ n. parts (get_or xs n 0)) end ∙ t.found (omega (arith, long)) };
      is = cc;
      past = (omega (arith, length_stretch xs p q t.within.0 t.within.1), omega (arith, length_stretch xs p q t.within.0 t.within.1));
    }
