use Rattle.std.proofs.Common.{List, [], ◌∷◌, get_or, sym, ◌∙◌, subst}
use Rattle.std.proofs.lemmas.List.{take_all}
use Rattle.conversion.specs.declared.right.BinarisedRule.{BinarisedRule}
use Rattle.conversion.specs.declared.right.Right.TheVariants.{Empty}
use Rattle.conversion.specs.declared.strict.StrictRules.{StrictRules}
use Rattle.conversion.proofs.Found.{Appends, by_end, appends_same, appends_nothing, by_end_one, by_end_other, by_end_improper, through_more}
use Rattle.conversion.proofs.strict.StrictRules.through.Goals as goal
use Rattle.conversion.proofs.strict.StrictRules.through.Goals.{then-rule-end+then-proper, else-rule-end, else-rule-end-via-then-rule-end+else-proper, else-rule-end-via-else-rule-end}

pub loop-rule-preserved : goal.loop-rule-preserved
loop-rule-preserved c =
    let rules = c.args.rules.now in
    let i = c.loop-rule.rule-index in
    let none : BinarisedRule = record { left = 0; number = 0; right = Empty } in
    let r : BinarisedRule = get_or rules i none in
    let x = c.args.symbol in
    let y = c.args.end in
    let was = c.loop-rule.self in
    let is = c.if-rule-end.self in
    through_more c.args.self.now was is rules i none x y c.loop-rule-test.true c.loop-rule.invariant
    (elim c.if-rule-end.branch [
      | then-rule-end+then-proper w ↦
          subst (λ (s : StrictRules). Appends was s (by_end (r ∷ []) x y)) (sym w.self-is)
          (appends_same was w.push.new.self _ _ (sym (by_end_one r x y w.if-rule-end.true (sym w.proper.ensures ∙ w.if-proper.true))) w.push.ensures)
      | else-rule-end w ↦ elim w.else-rule-end.branch [
        | else-rule-end-via-then-rule-end+else-proper v ↦
            appends_nothing was is _ w.self-is (by_end_improper r x y v.if-rule-end.true (sym v.proper.ensures ∙ v.if-proper.false))
        | else-rule-end-via-else-rule-end v ↦ appends_nothing was is _ w.self-is (by_end_other r x y v.if-rule-end.false)
      ]
    ])

pub returns : goal.returns
returns c =
    let rules = c.args.rules.now in
    subst (λ (rs : List BinarisedRule). Appends c.args.self.now c.loop-rule.self (by_end rs c.args.symbol c.args.end)) (take_all c.loop-rule.rule-index rules c.loop-rule-test.false) c.loop-rule.invariant
