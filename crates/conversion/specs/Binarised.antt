-- The book of productions, and the grammar of binarised rules.
use Rattle.std.specs.Prelude.{ℕ, List, map}
use Rattle.grammar.specs.{Binarised.Binarised, Productions.Book, Productions.book}
use Rattle.conversion.specs.declared.{production.Production.Production, binarised.BinarisedRules.BinarisedRules}
use Rattle.conversion.specs.{Rows.production_of, Views.binarised_of}

-- the book of rows and a number of patterns
abbrev pub rows_book : List Production → ℕ → Book
rows_book rows T = book T (map production_of rows)

-- the grammar that binarised rules are
abbrev pub grammar_of : BinarisedRules → Binarised
grammar_of b = binarised_of b.rules.items b.symbols
