-- The weights of a book's rules, strict rules and readings, and the cells and totals of its chart.
use Rattle.std.specs.Prelude.{ℕ, zero, ◌+◌, Bool, cond, List, [], ◌∷◌, nat_lt}
use Rattle.grammar.specs.{Productions.Book, Productions.cost_of, Semiring.Ops, Semiring.product, Strict.StrictFormRule}
use Rattle.grammar.specs.{Cells.strict_weight, Cells.cell, Cells.total, Readings.Reading, Nodes.Node, Nodes.nodes, Binarise.binarised}

-- the weight of a reading: the product, over its nodes, of the weights of their productions' costs
abbrev pub reading_weight : Book → {V : Type 0} (M : Ops V) → Reading → V
reading_weight W M r = product M (λ (k : Node). M.weight (cost_of W k.rule)) (nodes zero r)

-- the cost of a reading, by its nodes: the sum of their productions' costs
abbrev pub reading_cost : Book → List Node → ℕ
reading_cost W [] = 0
reading_cost W (k ∷ ks) = cost_of W k.rule + reading_cost W ks

-- the weight of binarised rule n of x: a production's cost counts at its head, and tails and symbols 32 + t weigh one
abbrev pub binarised_weight : Book → {V : Type 0} (M : Ops V) → ℕ → ℕ → V
binarised_weight W M x n = cond (nat_lt x 32) (M.weight (cost_of W n)) M.one

-- the weight of a strict rule of a book
abbrev pub strict_weight_of : (W : Book) {V : Type 0} (M : Ops V) → StrictFormRule → V
strict_weight_of W M = strict_weight (binarised W) M (binarised_weight W M)

-- the cell of the symbol x over the events w
abbrev pub cell_of : (W : Book) {V : Type 0} (M : Ops V) {E : Type 0} (fits : E → ℕ → Bool) (x : ℕ) (w : List E) → V
cell_of W M fits x w = cell (binarised W) M (binarised_weight W M) fits x w

-- the total over the events w: head 0's
abbrev pub total_of : (W : Book) {V : Type 0} (M : Ops V) {E : Type 0} (fits : E → ℕ → Bool) (w : List E) → V
total_of W M fits w = total (binarised W) M (binarised_weight W M) fits 0 w
