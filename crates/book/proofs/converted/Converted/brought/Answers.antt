use Rattle.std.proofs.Common.{◌≡◌, get_or, None, sym, subst, rules}
use Rattle.grammar.specs.Binarise.{binarised}
use Rattle.conversion.specs.Held.{BroughtIn}
use Rattle.book.specs.Rules.{rules_book}
use Rattle.book.proofs.Formed.{form_of}
use Rattle.book.proofs.converted.Converted.brought.Goals as goal

pub returns : goal.returns
returns c =
    let k = c.args.self.now in
    let W = rules_book k.rules in
    let x = c.args.symbol in
    let is : c.brought.result ≡ get_or k.form.nullable.brought x None = search rules in
    subst (BroughtIn (binarised W) x) (sym is) ((form_of W k.form k.formed).nullable x)
