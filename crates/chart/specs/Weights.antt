-- The weights that a chart works from: of binarised rules, of the chosen derivations of nothing, of strict rules.
use Rattle.std.specs.Prelude.{◌≡◌, ℕ, ◌<◌, cond, List, map}
use Rattle.grammar.specs.{Semiring.Ops, Productions.Book, Nullable.nullable, Nullable.nullable_tree, Lists.Mem, Strict.strict_rules}
use Rattle.grammar.specs.{Cells.tree_weight, Weights.binarised_weight, Weights.strict_weight_of, Binarise.binarised}
use Rattle.conversion.specs.Views.{strict_rule_of}
pub use Rattle.book.specs.Rules.{rules_book}
use Rattle.chart.specs.declared.weighed.WeighedRule.{WeighedRule}

-- the weight of the chosen tree without events of the nullable symbol x
abbrev pub blank_weight : {V : Type 0} → Ops V → Book → ℕ → V
blank_weight M W x = tree_weight M (binarised_weight W M) (nullable_tree (binarised W) x)

-- f gives each nullable symbol the weight of its chosen tree, and the others zero
abbrev pub NullableWeights : {V : Type 0} → Ops V → Book → (ℕ → V) → Type 0
NullableWeights M W f = (x : ℕ) → x < 128 → f x ≡ cond (nullable (binarised W) x) (blank_weight M W x) M.zero

-- the list has the strict rules of a book in their order, each with its weight
pub record Weighs {V : Type 0} (M : Ops V) (W : Book) (rs : List (WeighedRule V)) : Type 0 where
  pub rules : map (λ (r : WeighedRule V). strict_rule_of r.rule) rs ≡ strict_rules (binarised W)
  pub weights : (r : WeighedRule V) → Mem r rs → r.weight ≡ strict_weight_of W M (strict_rule_of r.rule)
