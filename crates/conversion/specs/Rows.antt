-- The productions that rows stand for.
use Rattle.std.specs.Prelude.{take}
use Rattle.grammar.specs.Productions.{Production as Written}
pub use Rattle.grammar.specs.Productions.{written}
use Rattle.conversion.specs.declared.production.Production.{Production}

-- the production that a row stands for: its right side is the row's first items
abbrev pub production_of : Production → Written
production_of p = written p.head (take p.len p.items) p.cost
