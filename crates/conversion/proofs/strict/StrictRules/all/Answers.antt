use Rattle.std.proofs.Common.{◌≡◌, List, sym, ap, ◌∙◌, subst, arith}
use Rattle.grammar.specs.Lists.{each, below}
use Rattle.grammar.specs.Strict.{StrictFormRule, strict_rules_of}
use Rattle.conversion.specs.Views.{strict_rule_of}
use Rattle.conversion.specs.Binarised.{grammar_of}
use Rattle.conversion.specs.Forms.{Holds}
use Rattle.conversion.proofs.Each.{each_more}
use Rattle.conversion.proofs.Found.{found_none, strict_rules_found}
use Rattle.conversion.proofs.strict.StrictRules.all.Goals as goal

pub loop-symbol-init : goal.loop-symbol-init
loop-symbol-init c = found_none strict_rule_of c.new.result.items c.new.ensures

pub loop-symbol-preserved : goal.loop-symbol-preserved
loop-symbol-preserved c =
    let f = strict_rules_of (grammar_of c.args.binarised.now) in
    let x = c.loop-symbol.symbol in
    subst (λ (l : List StrictFormRule). Holds l c.of.new.self) (sym (each_more f x)) (c.of.ensures (each f (below x)) c.loop-symbol.invariant)

pub returns : goal.returns
returns c =
    let b = c.args.binarised.now in
    let all : c.loop-symbol.symbol ≡ 128 = omega arith in
    subst (λ (l : List StrictFormRule). Holds l c.loop-symbol.out)
    (ap (λ n. each (strict_rules_of (grammar_of b)) (below n)) all ∙ strict_rules_found b.rules.items c.args.chains.now b.symbols b.bounded c.requires 128 (omega arith) b.most) c.loop-symbol.invariant
