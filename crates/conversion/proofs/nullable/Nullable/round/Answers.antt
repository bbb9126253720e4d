use Rattle.std.proofs.Common.{◌≡◌, ◌+◌, ◌<◌, ◌≤◌, Bool, not, ◌&&◌, List, map, length, get_or, take, set, is_some, Some, None, Option, refl, sym, ap, ◌∙◌, subst, ap₂, true≢false, arith}
use Rattle.std.proofs.lemmas.List.{take_all}
use Rattle.grammar.specs.Nullable.{ready}
use Rattle.conversion.specs.Views.{right_side_of, rule_of}
use Rattle.conversion.specs.Binarised.{grammar_of}
use Rattle.conversion.specs.Rounds.{sooner}
use Rattle.conversion.specs.declared.nullable.Brought.{Brought}
use Rattle.conversion.specs.declared.right.Right.TheVariants.{Empty}
use Rattle.conversion.specs.declared.right.BinarisedRule.{BinarisedRule}
use Rattle.conversion.proofs.Bringing.{TableAmid, table_start, table_end, turn_same, turn_more}
use Rattle.conversion.proofs.nullable.Nullable.round.Goals as goal
use Rattle.conversion.proofs.nullable.Nullable.round.Goals.{then-holds-ready, else-holds-ready}

pub loop-rule-init : goal.loop-rule-init
loop-rule-init c =
    let b = c.args.binarised.now in
    (table_start (grammar_of b) b.bounded c.args.round c.args.self.now c.requires, λ e. refl)

pub loop-rule-preserved : goal.loop-rule-preserved
loop-rule-preserved c =
    let b = c.args.binarised.now in
    let B = grammar_of b in
    let lent = c.deref-rule-items.ensures.0 in
    let rules = b.rules.items in
    let k = c.args.round in
    let i = c.loop-rule.rule-index in
    let d : BinarisedRule = record { left = 0; number = 0; right = Empty } in
    let r : BinarisedRule = get_or c.deref-rule-items.result.now i d in
    let here : r ≡ get_or rules i d = ap (λ l. get_or l i d) lent in
    let below : i < length rules = omega (arith, ap length lent, c.loop-rule-test.true) in
    let t : List (Option Brought) = c.loop-rule.self.brought in
    let test : BinarisedRule → Bool = λ q. not (is_some (get_or t q.left None)) && ready (λ y. sooner k (get_or t y None)) (right_side_of q.right) in
    let is : (not c.holds.result && c.ready.result) ≡ test (get_or rules i d) = ap₂ (λ x y. not x && y) c.holds.ensures c.ready.ensures ∙ ap test here in
    elim c.if-holds-ready.branch [
      | then-holds-ready w ↦ (
        subst (λ u. TableAmid B k (map rule_of (take (i + 1) rules)) u)
            (sym (ap (λ n. n.brought) w.self-is ∙ w.put.ensures ∙ ap (λ (q : BinarisedRule). set t q.left (Some (record { round = k; number = q.number; right = q.right }))) here))
            (turn_more rules b.symbols b.most b.bounded k i d below t c.loop-rule.invariant.0 c.loop-rule.self.sized (sym is ∙ w.if-holds-ready.true)),
        λ e. absurd (true≢false (sym w.grew-is ∙ e)),
      )
      | else-holds-ready w ↦ (
        subst (λ u. TableAmid B k (map rule_of (take (i + 1) rules)) u) (sym (ap (λ n. n.brought) w.self-is))
            (turn_same rules b.symbols b.most b.bounded k i d below t c.loop-rule.invariant.0 (sym is ∙ w.if-holds-ready.false)),
        λ e. ap (λ n. n.brought) w.self-is ∙ c.loop-rule.invariant.1 (sym w.grew-is ∙ e),
      )
    ]

pub returns-clause-more : goal.returns-clause-more
returns-clause-more c =
    let b = c.args.binarised.now in
    let all : length b.rules.items ≤ c.loop-rule.rule-index = omega (arith, ap length c.deref-rule-items.ensures.0, c.loop-rule-test.false) in
    table_end (grammar_of b) b.bounded c.args.round c.loop-rule.self
    (subst (λ rs. TableAmid (grammar_of b) c.args.round (map rule_of rs) c.loop-rule.self.brought) (take_all c.loop-rule.rule-index b.rules.items all) c.loop-rule.invariant.0)
