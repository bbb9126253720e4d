use Rattle.grammar.proofs.StrictForm.{strict_forms}
use Rattle.grammar.proofs.strict_form.Goals as goal

pub returns : goal.returns
returns g c = strict_forms _
