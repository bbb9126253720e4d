-- The rules that a book holds.
use Rattle.std.specs.Prelude.{ℕ, List, map, slice_index}
use Rattle.grammar.specs.Productions.{Production, Book}
use Rattle.conversion.specs.{Rows.production_of, Binarised.rows_book}
use Rattle.book.specs.declared.rules.Rules.{Rules}

-- the rules held, numbered from 0 as they were admitted
abbrev pub held : Rules → List Production
held b = map production_of b.rows.items

abbrev pub rules_book : Rules → Book
rules_book b = rows_book b.rows.items b.patterns

-- the cost of rule n, or 0 where there is no such rule
abbrev pub cost_of : List Production → ℕ → ℕ
cost_of rules n = slice_index (map (λ (p : Production). p.cost) rules) n
