use Rattle.std.proofs.Common.{◌<◌, ◌≤◌, length, ap, arith, Ok}
use Rattle.std.proofs.lemmas.Fn.{says_at}
use Rattle.cases.specs.Agreement.{none}
use Rattle.cases.proofs.Agreed.{agrees_more, differs_more, all_told}
use Rattle.cases.proofs.agreement.run_cases.Goals as goal
use Rattle.cases.proofs.agreement.run_cases.Goals.{then-branch, else-branch+in_ok-println}

pub loop-case-init : goal.loop-case-init
loop-case-init g c = (omega arith, none)

pub loop-case-preserved : goal.loop-case-preserved
loop-case-preserved g c =
    let there : c.loop-case.case-index < length c.args.cases.now = search in
    elim c.if-branch.branch [
      | then-branch w ↦ (
        omega (arith, c.loop-case.invariant.0, w.agreed-is),
        agrees_more _ c.args.cases.now c.loop-case.case-index _ _ c.case-item.result c.case-item.result there c.case-item.is w.agreed-is
            (says_at g.F.Fn c.in_ok-agrees.ensures (ap Ok w.if-branch.true)) c.loop-case.invariant.1,
      )
      | else-branch+in_ok-println w ↦ (
        omega (arith, c.loop-case.invariant.0, w.agreed-is),
        differs_more _ c.args.cases.now c.loop-case.case-index _ _ c.case-item.result c.case-item.result there c.case-item.is w.agreed-is
            (says_at g.F.Fn c.in_ok-agrees.ensures (ap Ok w.if-branch.false)) c.loop-case.invariant.1,
      )
    ]

pub returns : goal.returns
returns g c = let past : length c.args.cases.now ≤ c.loop-case.case-index = search in all_told _ c.args.cases.now c.loop-case.case-index _ past c.loop-case.invariant.1
