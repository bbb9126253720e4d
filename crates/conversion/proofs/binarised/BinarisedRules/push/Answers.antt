use Rattle.conversion.specs.Views.{binarised_of}
use Rattle.grammar.specs.Binarised.{Bounded}
use Rattle.std.proofs.Common.{List, sym, subst}
use Rattle.conversion.specs.declared.right.BinarisedRule.{BinarisedRule}
use Rattle.conversion.proofs.Bounds.{bounded_push}
use Rattle.conversion.proofs.binarised.BinarisedRules.push.Goals as goal

pub invariant_of-self-clause-bounded : goal.invariant_of-self-clause-bounded
invariant_of-self-clause-bounded c =
    let b = c.args.self.now in
    subst (λ (rs : List BinarisedRule). Bounded (binarised_of rs b.symbols)) (sym c.push.ensures.items) (bounded_push b.rules.items b.symbols _ b.bounded c.requires.bounded)
