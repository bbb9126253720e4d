-- What the table of chosen chains says.
use Rattle.std.specs.Prelude.{◌≡◌, ℕ, suc, ◌<◌, Bool, true, false, [], Some, None, Option, slice_index_or}
use Rattle.grammar.specs.{Binarised.Binarised, Chains.within, Chains.first_step}
use Rattle.conversion.specs.Views.{step_of}
use Rattle.conversion.specs.declared.{chain.UnitStep.UnitStep, chain.Chain.Chain}
use Rattle.conversion.specs.declared.{chain.Chain.TheVariants.Empty, chain.Chain.TheVariants.Steps, chain.Chains.Chains}

-- the table's chain from x to y
abbrev pub link : Chains → ℕ → ℕ → Option Chain
link c x y = slice_index_or (slice_index_or c.links x []) y None

-- k is the fewest steps from x to y, one and j more, and s the first step with a chain of at most j steps after it
abbrev pub Shortest : Binarised → ℕ → ℕ → ℕ → UnitStep → Type 0
Shortest B x y k s = (j : ℕ) × (k ≡ suc j) × (within B y j x ≡ false) × (within B y (suc j) x ≡ true) × (step_of s ≡ first_step B y j x)

-- where a chain leads from x to y, the chosen one; else none
abbrev pub ChosenWhere : Binarised → Bool → ℕ → ℕ → Option Chain → Type 0
ChosenWhere B h x y None = h ≡ false
ChosenWhere B h x y (Some Empty) = x ≡ y
ChosenWhere B h x y (Some (Steps k s)) = (h ≡ true) × Shortest B x y k s

-- the table of the chosen chains of at most n steps
abbrev pub ChainsWithin : Binarised → ℕ → Chains → Type 0
ChainsWithin B n c = (x y : ℕ) → x < 128 → y < 128 → ChosenWhere B (within B y n x) x y (link c x y)

-- whether a chain leads from x to y, and the chosen one
abbrev pub Chosen : Binarised → ℕ → ℕ → Option Chain → Type 0
Chosen B x y o = ChosenWhere B (within B y B.symbols x) x y o
