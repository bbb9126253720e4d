-- Words of private contracts: no promise to a caller rests on these.
use Rattle.std.specs.Prelude.{ℕ, ◌<◌, Bool, false, List, Some, None, Option, nat_lt, slice_index_or}
use Rattle.grammar.specs.{Lists.Mem, Lists.each, Binarised.Rule, Binarised.Binarised, Nullable.nullable, Nullable.nullable_after}
use Rattle.grammar.specs.Chains.{ChainStep, steps_by}
use Rattle.conversion.specs.Held.{BroughtWhere}
use Rattle.conversion.specs.declared.{nullable.Brought.Brought, nullable.Nullable.Nullable, chain.Chain.Chain}
use Rattle.conversion.specs.declared.chain.Chain.TheVariants.{Empty, Steps}

-- a round before k brought it in
abbrev pub sooner : ℕ → Option Brought → Bool
sooner k None = false
sooner k (Some b) = nat_lt b.round k

-- a chain of fewer than n steps is there
abbrev pub shorter : ℕ → Option Chain → Bool
shorter n None = false
shorter n (Some Empty) = nat_lt 0 n
shorter n (Some (Steps k s)) = nat_lt k n

-- the unit steps of a grammar, by rule
abbrev pub all_steps : Binarised → List ChainStep
all_steps B = each (λ (r : Rule). steps_by (nullable B) r.left r.number r.right) B.rules

-- every unit step leads to a symbol below the bound
abbrev pub EndsBelow : Binarised → Type 0
EndsBelow B = (s : ChainStep) → Mem s (all_steps B) → s.to < B.symbols

-- the table of the symbols found nullable in k rounds
abbrev pub NullablesAfter : Binarised → ℕ → Nullable → Type 0
NullablesAfter B k n = (x : ℕ) → BroughtWhere B (nullable_after B k x) x (slice_index_or n.brought x None)
