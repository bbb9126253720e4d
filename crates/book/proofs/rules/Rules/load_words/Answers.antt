use Rattle.std.proofs.Common.{◌≡◌, ℕ, List, [], length, take, Ok, Option, sym, ap, ◌∙◌, arith}
use Rattle.text.specs.Words.{Piece}
use Rattle.text.specs.Outcomes.{nothing, rule, line, in_nine, production_said, line_said}
use Rattle.text.specs.Turns.{words_of, outcome_of}
use Rattle.text.specs.declared.rule_line.RuleLine.{RuleLine}
use Rattle.conversion.specs.Rows.{written}
use Rattle.grammar.specs.Productions.{Production}
use Rattle.book.specs.Offers.{refusal}
use Rattle.book.specs.Rules.{held}
use Rattle.book.specs.Loads.{first_place, stopped}
use Rattle.book.proofs.Loading.{line_admitted, line_refused}
use Rattle.book.proofs.Refused.{some_refusal}
use Rattle.book.proofs.rules.Rules.load_words.Goals as goal

-- the rule of a line, as it is offered
offered_rule : (l : RuleLine) (h : ℕ) (is : List ℕ) (c : ℕ) → h ≡ l.head → is ≡ take l.len l.items → c ≡ l.cost → written h is c ≡ production_said l
offered_rule l h is c p q r = ap (λ z. written z is c) p ∙ ap (λ z. written l.head z c) q ∙ ap (written l.head (take l.len l.items)) r

-- the words of a line that gives a rule are some
some_words : (end : ℕ) (ws : List Piece) (p : Production) → rule p ≡ in_nine (line end ws) → ws ≡ [] → ⊥
some_words end ws p o e = not_rule (o ∙ ap (λ v. in_nine (line end v)) e)
  where
    not_rule : rule p ≡ nothing → ⊥
    not_rule q = cc

pub returns-in-Ok-clause-is : goal.returns-in-Ok-clause-is
returns-in-Ok-clause-is c n =
    let b = c.args.self.now in
    let p = written c.head.result c.right.result.now c.cost.result in
    let q = offered_rule c.in-Some.rule c.head.result c.right.result.now c.cost.result c.head.ensures c.right.ensures c.cost.ensures in
    let o = ap rule q ∙ ap (λ (v : Option RuleLine). line_said (Ok v)) (sym c.in-Some.is) ∙ c.in_ok-rule.ensures in
    let s = c.in-Ok.ensures.says in
    line_admitted b.patterns (held b) (held c.offer.new.self) n (first_place (words_of c.args.line)) (outcome_of c.args.line) p o s.0 s.2

pub returns-in-Err-clause-is : goal.returns-in-Err-clause-is
returns-in-Err-clause-is c n =
    let b = c.args.self.now in
    let ws = words_of c.args.line in
    let p = written c.head.result c.right.result.now c.cost.result in
    let q = offered_rule c.in-Some.rule c.head.result c.right.result.now c.cost.result c.head.ensures c.right.ensures c.cost.ensures in
    let o = ap rule q ∙ ap (λ (v : Option RuleLine). line_said (Ok v)) (sym c.in-Some.is) ∙ c.in_ok-rule.ensures in
    let s = c.in-Err.ensures.says in
    let some : refusal b.patterns (held b) p ≡ 0 → ⊥ = λ z. omega (arith, s.0, some_refusal c.in-Err.field-0) in
    ap (stopped (held c.offer.new.self) 24) (c.first_place.ensures (some_words (length c.args.line.text.now) ws p o))
    ∙ line_refused b.patterns (held b) (held c.offer.new.self) n (first_place ws) (outcome_of c.args.line) p o some (ap held s.1)
