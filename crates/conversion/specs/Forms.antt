-- The strict form of a book, as a conversion leaves it.
use Rattle.std.specs.Prelude.{◌≡◌, List, map, length, take, nat_le}
use Rattle.grammar.specs.{Productions.Book, Strict.StrictFormRule, Strict.strict_rules, Binarise.binarised}
use Rattle.conversion.specs.declared.{form.StrictForm.StrictForm, strict.StrictRules.StrictRules}
use Rattle.conversion.specs.{Views.strict_rule_of, Held.Nullables, Linked.ChainsWithin}

-- the strict rules that found room are the first 1,024 of the list, and say whether these are all
abbrev pub Holds : List StrictFormRule → StrictRules → Type 0
Holds l s = (map strict_rule_of s.rules.items ≡ take 1024 l) × (s.complete ≡ nat_le (length l) 1024)

-- f is the strict form of W: how many symbols, what brought each nullable symbol in, the chosen chains, the strict rules as far as there is room
pub record FormOf (W : Book) (f : StrictForm) : Type 0 where
  pub symbols : f.binarised.symbols ≡ (binarised W).symbols
  pub nullable : Nullables (binarised W) f.nullable
  pub chains : ChainsWithin (binarised W) (binarised W).symbols f.chains
  pub strict : Holds (strict_rules (binarised W)) f.strict
