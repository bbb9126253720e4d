use Rattle.std.proofs.Common.{◌≡◌, cond, [], sym, ap, ◌∙◌, subst, arith}
use Rattle.conversion.specs.declared.strict.StrictRules.{StrictRules}
use Rattle.conversion.proofs.Found.{Appends, by_end, by_ends, appends_none, appends_same, appends_more, appends_nothing, by_ends_none, by_ends_more, symbol_found}
use Rattle.conversion.proofs.strict.StrictRules.of.Goals as goal
use Rattle.conversion.proofs.strict.StrictRules.of.Goals.{then-reaches, else-reaches}

pub loop-end-init : goal.loop-end-init
loop-end-init c =
    let s = c.args.self.now in
    appends_same s s _ _ (sym (by_ends_none c.args.binarised.now.rules.items c.args.chains.now c.args.symbol)) (appends_none s)

pub loop-end-preserved : goal.loop-end-preserved
loop-end-preserved c =
    let rules = c.args.binarised.now.rules.items in
    let chains = c.args.chains.now in
    let x = c.args.symbol in
    let y = c.loop-end.end in
    let start = c.args.self.now in
    let was = c.loop-end.self in
    let is = c.if-reaches.self in
    appends_same start is _ _ (sym (by_ends_more rules chains x y))
    (appends_more start was is _ _ c.loop-end.invariant
    (elim c.if-reaches.branch [
      | then-reaches w ↦
          subst (λ (s : StrictRules). Appends was s _) (sym w.self-is)
          (appends_same was w.through.new.self (by_end w.deref.result.now x y) _
          (ap (λ rs. by_end rs x y) w.deref.ensures.0 ∙ ap (λ b. cond b (by_end rules x y) []) (sym w.if-reaches.true ∙ c.reaches.ensures)) w.through.ensures)
      | else-reaches w ↦ appends_nothing was is _ w.self-is (ap (λ b. cond b (by_end rules x y) []) (sym c.reaches.ensures ∙ w.if-reaches.false))
    ]))

pub returns : goal.returns
returns c =
    let b = c.args.binarised.now in
    let all : c.loop-end.end ≡ 128 = omega arith in
    appends_same c.args.self.now c.loop-end.self _ _
    (ap (by_ends b.rules.items c.args.chains.now c.args.symbol) all
    ∙ symbol_found b.rules.items c.args.chains.now b.symbols b.bounded c.requires.chosen 128 (omega arith) c.args.symbol b.most c.requires.symbol) c.loop-end.invariant
