use Rattle.std.proofs.Common.{◌≡◌, length, string_bytes, ap, ◌∙◌}
use Rattle.std.proofs.lemmas.List.{length-map}
use Rattle.chart.specs.Nodes.{node_of, nodes_of}
use Rattle.chart.specs.Readings.{reading_answer}
use Rattle.programs.specs.Calls.{calls_book, calls_fits, calls_events}
use Rattle.programs.specs.Scripts.{a_reading}
use Rattle.programs.specs.Printed.{line_text, reading_text, reading_says, reading_writes, standing}
use Rattle.programs.proofs.Printing.{printed}
use Rattle.programs.proofs.TakenNodes.{reading_printed}
use Rattle.programs.proofs.script.run.push_taken.Goals as goal

pub returns : goal.returns
returns g c =
    let W = calls_book c.args.calls.now in
    let fits = calls_fits g.A.Alphabet.test c.args.calls.now in
    let m = c.args.weights in
    let es = calls_events m c.args.calls.now in
    let t = nodes_of c.args.nodes.now in
    let a = reading_answer c.in_ok-answer.answer in
    let shown : reading_text a (standing a (nodes_of c.reading.new.nodes)) ≡ line_text W fits m (length c.args.nodes.now) es a_reading =
    reading_printed W c.requires fits es t a (nodes_of c.reading.new.nodes) c.in_ok-answer.ensures.answers
    ∙ ap (λ n. reading_text (reading_says W fits n es) (reading_writes W fits n es)) (length-map c.args.nodes.now node_of) in
    printed c.push_reading.result (string_bytes c.push_reading.new.out) (string_bytes c.args.out.now) _ _ shown c.push_reading.ensures
