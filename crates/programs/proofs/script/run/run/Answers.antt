use Rattle.std.proofs.Common.{◌≡◌, ◌∙◌}
use Rattle.std.proofs.lemmas.Result.{IfOk-weaker}
use Rattle.book.specs.Faults.{table_number}
use Rattle.book.specs.Tables.{table_refusal}
use Rattle.programs.specs.Said.{script_said}
use Rattle.programs.proofs.ScriptMeaning.{table_refused, print_means}
use Rattle.programs.proofs.script.run.run.Goals as goal

pub returns-in-Err-clause-printed : goal.returns-in-Err-clause-printed
returns-in-Err-clause-printed g c =
    let refused : table_refusal c.deref.result.now ≡ table_number c.in-Err.fault = search c.in-Err.ensures in
    let text = table_refused g.A.Alphabet.test (script_said c.args.script.now) c.deref.result.now c.in-Err.fault c.number.result c.deref.ensures.value refused c.number.ensures in
    IfOk-weaker c.format.result _ _ (λ s e. e ∙ text) c.format.ensures.ok

pub returns-in-Err-clause-means : goal.returns-in-Err-clause-means
returns-in-Err-clause-means g c = λ cheap. print_means (script_said c.args.script.now) cheap g.A.Alphabet.fits g.A.Alphabet.test g.met.A.Alphabet.tested

pub returns-clause-means : goal.returns-clause-means
returns-clause-means g c = λ cheap. print_means (script_said c.args.script.now) cheap g.A.Alphabet.fits g.A.Alphabet.test g.met.A.Alphabet.tested
