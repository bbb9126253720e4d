use Rattle.std.proofs.Common.{◌≡◌, ◌++◌, [], length, map, drop, string_bytes, ap, ◌∙◌, arith}
use Rattle.std.proofs.lemmas.List.{length-map}
use Rattle.book.specs.Runs.{after}
use Rattle.replay.specs.Calls.{call_of}
use Rattle.replay.specs.Answers.{said, book_answer, book_answers}
use Rattle.grammar.specs.Lists.{each}
use Rattle.programs.specs.Calls.{calls_book, calls_fits, calls_answers}
use Rattle.programs.specs.Said.{chart_line}
use Rattle.programs.specs.Printed.{answer_text, lines_text}
use Rattle.programs.proofs.ScriptLines.{after_none, seen_parts, many_answers}
use Rattle.programs.proofs.script.run.calls_text.Goals as goal

pub split_at-requires : goal.split_at-requires
split_at-requires g c =
    let T = length c.args.calls.now.patterns.now in
    let n = many_answers (after T) (book_answer T) [] (map call_of c.args.calls.now.book.now) ∙ length-map c.args.calls.now.book.now call_of in
    let all : map said c.in_ok-all.all.items ≡ calls_answers c.args.sizes.weights c.args.calls.now = search c.in_ok-all.ensures in
    let s = seen_parts said c.deref.result.now _ _ (length c.args.calls.now.book.now) n (ap (map said) c.deref.ensures.value ∙ all) in
    omega (arith, s.0)

pub push_lines-requires-clause-answers : goal.push_lines-requires-clause-answers
push_lines-requires-clause-answers g c =
    let T = length c.args.calls.now.patterns.now in
    let n = many_answers (after T) (book_answer T) [] (map call_of c.args.calls.now.book.now) ∙ length-map c.args.calls.now.book.now call_of in
    let all : map said c.in_ok-all.all.items ≡ calls_answers c.args.sizes.weights c.args.calls.now = search c.in_ok-all.ensures in
    let s = seen_parts said c.deref.result.now _ _ (length c.args.calls.now.book.now) n (ap (map said) c.deref.ensures.value ∙ all) in
    let back : map said c.split_at.result.1.now ≡ map said (drop (length c.args.calls.now.book.now) c.deref.result.now) = search (c.split_at.ensures.back) in
    let rest = back ∙ s.2 in
    search rest

pub returns : goal.returns
returns g c =
    let T = length c.args.calls.now.patterns.now in
    let calls = map call_of c.args.calls.now.book.now in
    let n = many_answers (after T) (book_answer T) [] (map call_of c.args.calls.now.book.now) ∙ length-map c.args.calls.now.book.now call_of in
    let all : map said c.in_ok-all.all.items ≡ calls_answers c.args.sizes.weights c.args.calls.now = search c.in_ok-all.ensures in
    let s = seen_parts said c.deref.result.now _ _ (length c.args.calls.now.book.now) n (ap (map said) c.deref.ensures.value ∙ all) in
    let lines = lines_text (calls_book c.args.calls.now) (calls_fits g.A.Alphabet.test c.args.calls.now) c.args.sizes.weights c.args.sizes.nodes [] (map chart_line c.args.lines.now) in
    let front : map said c.split_at.result.0.now ≡ book_answers T [] calls = search (c.split_at.ensures.front, s.1) in
    let first : string_bytes c.push_answers.new.out ≡ string_bytes c.new-out.result ++ each answer_text (map said c.split_at.result.0.now) = search c.in_ok-push_answers.ensures in
    after_none (string_bytes c.new-out.result) (string_bytes c.push_answers.new.out) (each answer_text (map said c.split_at.result.0.now)) (each answer_text (book_answers T [] calls)) (string_bytes c.push_lines.new.out) lines
    c.new-out.ensures.bytes first (ap (each answer_text) front) c.in_ok-push_lines.ensures
