use Rattle.std.proofs.Common.{◌≡◌, sym, subst, rules}
use Rattle.grammar.specs.Binarise.{binarised}
use Rattle.conversion.specs.Linked.{link, Chosen}
use Rattle.book.specs.Rules.{rules_book}
use Rattle.book.proofs.Formed.{form_of}
use Rattle.book.proofs.converted.Converted.chain.Goals as goal

pub returns-clause-means : goal.returns-clause-means
returns-clause-means c low high =
    let k = c.args.self.now in
    let W = rules_book k.rules in
    let x = c.args.from in
    let y = c.args.to in
    let is : c.chain.result ≡ link k.form.chains x y = search rules in
    subst (Chosen (binarised W) x y) (sym is) ((form_of W k.form k.formed).chains x y low high)
