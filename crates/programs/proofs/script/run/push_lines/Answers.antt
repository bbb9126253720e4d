use Rattle.std.proofs.Common.{◌≡◌, ◌+◌, ◌<◌, ◌++◌, length, drop, map, get_or, take, string_bytes, sym, ap, ◌∙◌, Ok, arith}
use Rattle.std.proofs.Math.ListN.{get_or-map}
use Rattle.std.proofs.lemmas.List.{length-map, take-map, drop_all}
use Rattle.replay.specs.declared.answer.Answer.TheVariants.{Offered}
use Rattle.replay.specs.Calls.{chart_call_of}
use Rattle.replay.specs.Answers.{said}
use Rattle.chart.specs.Runs.{held_events}
use Rattle.programs.specs.Calls.{calls_book, calls_symbols, calls_fits}
use Rattle.programs.specs.Said.{asked, chart_line}
use Rattle.programs.specs.Printed.{answer_text, line_text}
use Rattle.programs.proofs.ScriptLines.{no_line, answered, call_printed, asked_printed, asked_calls, asked_held, sofar_same, all_printed, held}
use Rattle.programs.proofs.script.run.push_lines.Goals as goal
use Rattle.programs.proofs.script.run.push_lines.Goals.{in-Call+then-made-answers+in_ok-writeln-in-Call, in-Call+else-made-answers, in-Ask+in_ok-push_asked-in-Ask}

pub loop-line-init : goal.loop-line-init
loop-line-init g c =
    no_line (calls_book c.args.calls.now) (calls_fits g.A.Alphabet.test c.args.calls.now) c.args.sizes.weights c.args.sizes.nodes _ _ _ (string_bytes c.args.out.now) c.requires.calls c.requires.answers

pub loop-line-preserved : goal.loop-line-preserved
loop-line-preserved g c =
    let W = calls_book c.args.calls.now in
    let fits = calls_fits g.A.Alphabet.test c.args.calls.now in
    let m = c.args.sizes.weights in
    let n = c.args.sizes.nodes in
    let chart = c.args.calls.now.chart.now in
    let cs = map chart_call_of chart in
    let lines = c.args.lines.now in
    let ls = map chart_line lines in
    let answers = c.args.answers.now in
    let i = c.loop-line.line-index in
    let made = c.loop-line.made in
    let was = string_bytes c.args.out.now in
    let out = string_bytes c.loop-line.out in
    let s = c.loop-line.invariant in
    let d = chart_line c.line-item.result in
    let h : i < length ls = omega (arith, c.loop-line-test.true, length-map lines chart_line) in
    let at : get_or ls i d ≡ chart_line c.line-item.result = get_or-map chart_line lines i c.line-item.result ∙ ap chart_line (sym c.line-item.is) in
    elim c.match-line.branch [
      | in-Call+then-made-answers+in_ok-writeln-in-Call w ↦
          let none = Offered (Ok 0) in
          let p : string_bytes w.writeln.new.self ≡ out ++ answer_text (get_or (map said answers) made (said none)) = search (w.in_ok-writeln-in-Call.ensures.bytes, get_or-map said answers made none) in
          let k : c.match-line.made ≡ made + 1 = search w.made-is in
          sofar_same W fits m n cs ls (map said answers) (i + 1) (made + 1) c.match-line.made was (string_bytes w.writeln.new.self) (string_bytes c.match-line.out) k (ap string_bytes w.out-is)
          (call_printed W fits m n cs ls (map said answers) i made was out s d _ h (at ∙ ap chart_line w.in-Call.is) (said none) (string_bytes w.writeln.new.self) p)
      | in-Call+else-made-answers w ↦
          let there : made < length (map said answers) = answered W fits m n cs ls (map said answers) i made was out s d _ h (at ∙ ap chart_line w.in-Call.is) in
          absurd (omega (arith, there, w.if-made-answers.false, length-map answers said))
      | in-Ask+in_ok-push_asked-in-Ask w ↦
          let q = w.in-Ask.question in
          let es = held W fits m n cs ls (map said answers) made in
          let same : held_events (calls_symbols c.args.calls.now) m (map chart_call_of (take made chart)) ≡ es = ap (held_events (calls_symbols c.args.calls.now) m) (sym (take-map chart_call_of made chart)) in
          let p : string_bytes w.push_asked.new.out ≡ out ++ line_text W fits m n es (asked q) = search (w.in_ok-push_asked-in-Ask.ensures, same) in
          sofar_same W fits m n cs ls (map said answers) (i + 1) made c.match-line.made was (string_bytes w.push_asked.new.out) (string_bytes c.match-line.out) w.made-is (ap string_bytes w.out-is)
          (asked_printed W fits m n cs ls (map said answers) i made was out s d (asked q) h (at ∙ ap chart_line w.in-Ask.is) (asked_calls q (drop (i + 1) ls)) (asked_held W m es q) (string_bytes w.push_asked.new.out) p)
    ]

pub returns : goal.returns
returns g c =
    let lines = c.args.lines.now in
    let past : drop c.loop-line.line-index (map chart_line lines) ≡ _ = drop_all c.loop-line.line-index (map chart_line lines) (omega (arith, c.loop-line-test.false, length-map lines chart_line)) in
    all_printed (calls_book c.args.calls.now) (calls_fits g.A.Alphabet.test c.args.calls.now) c.args.sizes.weights c.args.sizes.nodes _ _ _ c.loop-line.line-index c.loop-line.made (string_bytes c.args.out.now) (string_bytes c.loop-line.out) c.loop-line.invariant past
