-- Strict rules: binary and terminal rules alone, unit chains and parts without events worked in.
use Rattle.std.specs.Prelude.{◌≡◌, ℕ, ◌<◌, Bool, true, false, ◌⊎◌, List, map}
use Rattle.grammar.specs.{Lists.those, Lists.each, Lists.below, Chains.reached}
use Rattle.grammar.specs.Binarised.{Right, empty, unit, rule, Binarised, OwnRule, rules_of}

-- a strict rule: its symbol, the symbol that the chosen chain leads to, the number and right side of a binary or terminal rule of that
pub record StrictFormRule : Type 0 where
  pub symbol : ℕ
  pub end : ℕ
  pub number : ℕ
  pub right : Right

-- two symbols or a terminal
abbrev pub proper : Right → Bool
proper empty = false
proper (unit y) = false
proper _ = true

-- the strict rule of x that a rule of y gives
abbrev pub strict_rule : ℕ → ℕ → OwnRule → StrictFormRule
strict_rule x y o = record { symbol = x; end = y; number = o.0; right = o.1 }

-- the strict rules of x, by the symbol reached, then by number: one for each binary or terminal rule of each symbol that a unit chain reaches
unfoldable pub strict_rules_of : Binarised → ℕ → List StrictFormRule
strict_rules_of B x = each (λ y. map (strict_rule x y) (those (λ (o : OwnRule). proper o.1) (rules_of B y))) (reached B x)

unfoldable pub strict_rules : Binarised → List StrictFormRule
strict_rules B = each (strict_rules_of B) (below B.symbols)

-- strict rules are ordered by symbol, then by end, then by number
abbrev pub Before : StrictFormRule → StrictFormRule → Type 0
Before r q = (r.symbol < q.symbol) ⊎ ((r.symbol ≡ q.symbol) × ((r.end < q.end) ⊎ ((r.end ≡ q.end) × (r.number < q.number))))

-- the strict rules as rules, each from its symbol to its right side: chain and what was dropped there are no part of it
unfoldable pub strict_form : Binarised → Binarised
strict_form B = record { rules = map (λ (r : StrictFormRule). rule r.symbol r.number r.right) (strict_rules B); symbols = B.symbols }
