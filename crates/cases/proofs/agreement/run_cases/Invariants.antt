use Rattle.std.proofs.Common.{◌≤◌, take, Ok}
use Rattle.std.specs.Fn.{FnReturnsAt}
use Rattle.cases.specs.Agreement.{Agreeing}
use Rattle.cases.proofs.agreement.run_cases.Given as goal

abbrev pub invariant-loop-case : goal.invariant-loop-case
invariant-loop-case g l = (l.agreed ≤ l.case-index) × Agreeing (λ c b. FnReturnsAt g.F.Fn l.agrees c (Ok b)) (take l.case-index l.cases) l.agreed
