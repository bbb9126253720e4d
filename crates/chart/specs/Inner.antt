-- Words of private contracts: no promise to a caller rests on these.
use Rattle.std.specs.Prelude.{◌≡◌, length, ℕ, suc, ◌<◌, ◌≤◌, true, cond, ◌⊎◌, List, ◌==◌, nat_eq, ◌+◌, ◌-◌, Bool, false, ◌∷◌, Some, None, Option, [], ◌++◌, slice_index_or, min, nat_lt}
use Rattle.grammar.specs.Lists.{Mem, those, First, Cut, some_of, cuts, span, each}
use Rattle.grammar.specs.{Semiring.Ops, Semiring.sum, Cells.is_binary, Cells.sides, Cells.column_place, Cells.terminal_fits}
use Rattle.grammar.specs.Binarised.{binary, terminal, Binarised, Has, Tree, fork, leaf, Rule, null, over, width, Right, empty, unit}
use Rattle.grammar.specs.Chains.{Leads, chosen_chain, Dropped, nothing, the_right, the_left}
use Rattle.grammar.specs.Strict.{strict_rules_of, StrictFormRule}
use Rattle.grammar.specs.Taken.{step_over, yes_cell, rule_fits, cut_fits, Takes}
use Rattle.grammar.specs.{Binarise.binarised, Binarise.binarise_right, Weighings.yes_no, Nodes.Node, Nodes.tree_nodes}
use Rattle.grammar.specs.{Nullable.nullable, Nullable.nullable_tree, Nullable.nullable_after, Productions.Book, Weights.strict_weight_of}
use Rattle.grammar.specs.Answers.{limit, filled}
use Rattle.conversion.specs.Views.{right_side_of, drop_of, step_of, strict_rule_of}
use Rattle.conversion.specs.declared.{strict.StrictRule.StrictRule, chain.UnitStep.UnitStep}
use Rattle.book.specs.declared.alphabet.Alphabet.{Ghosts}
use Rattle.weighing.specs.declared.{weighing.Weighing.Ghosts as Weighings, bank.Bank.Ghosts as Banks}
use Rattle.chart.specs.{Events.Holds, Events.chart_book, Events.chart_fits, Table.cell_place, Table.SameOutside, Table.cell_at}
use Rattle.chart.specs.{Weights.blank_weight, Nodes.nodes_of}
use Rattle.chart.specs.declared.{column.Column.Column, pairs.Pair.Pair, chart.Chart.Chart, choice.Choice.Choice}
use Rattle.chart.specs.declared.choice.Choice.TheVariants.{Step, Leaf, Fork}
use Rattle.chart.specs.declared.node_table.NodeTable.{NodeTable}

-- the same column of the same table, by the same book and rules
pub record SameColumn {A K E P V U : Type 0} {G : Ghosts A E P} {H : Weighings K V U} {B : Banks U V} (was is : Column A K E P V U G H B) : Type 0 where
  pub book : is.book ≡ was.book
  pub rules : is.rules ≡ was.rules
  pub symbols : is.symbols ≡ was.symbols
  pub end : is.end ≡ was.end
  pub long : length is.weights.now ≡ length was.weights.now
  pub table : is.weights.ghost_name ≡ was.weights.ghost_name

-- to the cell of S symbols at a place so much was added, by symbol, and nothing else has changed
abbrev pub Added : {V : Type 0} → Ops V → ℕ → ℕ → (ℕ → V) → List V → List V → Type 0
Added M S place more was is = SameOutside M.zero place (place + S) was is
    × ((x : ℕ) → x < S → cell_at M is place x ≡ M.plus (cell_at M was place x) (more x))

-- to the cell of each start i below k in the column of event e so much was added, by start and symbol, and nothing else has changed
abbrev pub AddedStarts : {V : Type 0} → Ops V → ℕ → ℕ → ℕ → (ℕ → ℕ → V) → List V → List V → Type 0
AddedStarts M S e k more was is = SameOutside M.zero (column_place S e) (cell_place S e k) was is
    × ((i x : ℕ) → i < k → x < S → cell_at M is (cell_place S e i) x ≡ M.plus (cell_at M was (cell_place S e i) x) (more i x))

-- the places a ≤ j < b hold zero, and nothing else has changed
abbrev pub Cleared : {V : Type 0} → Ops V → ℕ → ℕ → List V → List V → Type 0
Cleared M a b was is = SameOutside M.zero a b was is × ((j : ℕ) → a ≤ j → j < b → slice_index_or is j M.zero ≡ M.zero)

-- what the strict terminal rules of x that fit an event weigh together
abbrev pub over_event : {V E : Type 0} → Book → Ops V → (E → ℕ → Bool) → E → ℕ → V
over_event W M fits e x =
    sum M (strict_weight_of W M) (those (λ (r : StrictFormRule). terminal_fits fits e r.right) (strict_rules_of (binarised W) x))

-- what the strict binary rules of x come to over a left and a right cell
abbrev pub over_parts : {V : Type 0} → Book → Ops V → (ℕ → V) → (ℕ → V) → ℕ → V
over_parts W M left right x =
    sum M (λ (r : StrictFormRule). M.times (strict_weight_of W M r) (M.times (left (sides r.right).0) (right (sides r.right).1)))
    (those (λ (r : StrictFormRule). is_binary r.right) (strict_rules_of (binarised W) x))

-- what the pairs of the symbol x come to over a left cell
abbrev pub pairs_sum : {V : Type 0} → Ops V → (ℕ → V) → ℕ → List (Pair V) → V
pairs_sum M left x ps = sum M (λ (p : Pair _). M.times (left p.left) p.weight) (those (λ (p : Pair _). nat_eq p.symbol x) ps)

-- the pairs are of the first S symbols
abbrev pub PairsWithin : {V : Type 0} → ℕ → List (Pair V) → Type 0
PairsWithin S ps = (p : Pair _) → Mem p ps → (p.symbol < S) × (p.left < S)

-- over a right cell a strict rule of a weight has come to the pairs: where it is binary, for every left cell they come to so much more
pub record PairAdded {V : Type 0} (M : Ops V) (r : StrictRule) (w : V) (right : ℕ → V) (was is : List (Pair V)) : Type 0 where
  pub sums : (left : ℕ → V) (x : ℕ) → pairs_sum M left x is ≡ M.plus (pairs_sum M left x was)
      (cond (r.symbol == x) (cond (is_binary (right_side_of r.right)) (M.times w (M.times (left (sides (right_side_of r.right)).0) (right (sides (right_side_of r.right)).1))) M.zero) M.zero)
  pub pairs : (p : Pair V) → Mem p is → Mem p was ⊎ ((is_binary (right_side_of r.right) ≡ true) × (p.symbol ≡ r.symbol) × (p.left ≡ (sides (right_side_of r.right)).0))
  pub few : length is ≤ suc (length was)

-- f gives each symbol that k rounds found nullable the weight of its chosen tree, and the others zero
abbrev pub WeightsAfter : {V : Type 0} → Ops V → Book → ℕ → (ℕ → V) → Type 0
WeightsAfter M W k f = (x : ℕ) → x < 128 → f x ≡ cond (nullable_after (binarised W) k x) (blank_weight M W x) M.zero

-- the weight of a right side without events, whose symbols weigh what f gives
abbrev pub right_weight : {V : Type 0} → Ops V → (ℕ → V) → Right → V
right_weight M f empty = M.one
right_weight M f (unit y) = f y
right_weight M f (binary y z) = M.times (f y) (f z)
right_weight M f (terminal p) = M.zero

-- the weight of what a unit step drops, where symbols weigh what f gives
abbrev pub dropped_weight : {V : Type 0} → Ops V → (ℕ → V) → Dropped → V
dropped_weight M f nothing = M.one
dropped_weight M f (the_right z) = f z
dropped_weight M f (the_left y) = f y

-- the binarised rules of the book that a chart was cut from
abbrev pub chart_rules : {A K E P V U : Type 0} {G : Ghosts A E P} {H : Weighings K V U} {B : Banks U V} → Chart A K E P V U G H B → Binarised
chart_rules c = binarised (chart_book c)

-- for every test of patterns, and all events that a yes/no chart holds by it
abbrev pub ForHeld : {A K E P U : Type 0} {G : Ghosts A E P} {H : Weighings K Bool U} {B : Banks U Bool} → Chart A K E P Bool U G H B
    → ((E → ℕ → Bool) → List E → Type 0) → Type 0
ForHeld c X = (test : _ → _ → Bool) (es : List _) → Holds yes_no test c es → X (chart_fits test c) es

-- the first strict rule of x that fits w, if there is one
abbrev pub FirstRule : {E : Type 0} → Binarised → (E → ℕ → Bool) → ℕ → List E → Option StrictRule → Type 0
FirstRule B fits x w None = some_of (rule_fits B fits w) (strict_rules_of B x) ≡ false
FirstRule B fits x w (Some r) = First (rule_fits B fits w) (strict_rules_of B x) (strict_rule_of r)

-- the cut of the n events from place i on, after m of them
abbrev pub cut_after : {E : Type 0} → List E → ℕ → ℕ → ℕ → Cut E
cut_after es i n m = (span es i m, span es (i + m) (n - m))

-- the first cut of these events with a derivation from y on its left and from z on its right, by the number of events on the left
abbrev pub FirstCut : {E : Type 0} → Binarised → (E → ℕ → Bool) → ℕ → ℕ → List E → ℕ → ℕ → Option ℕ → Type 0
FirstCut B fits y z es i n None = some_of (cut_fits B fits y z) (cuts (span es i n)) ≡ false
FirstCut B fits y z es i n (Some m) = First (cut_fits B fits y z) (cuts (span es i n)) (cut_after es i n m)

-- m events are the left part of a cut of n
abbrev pub CutsInside : ℕ → Option ℕ → Type 0
CutsInside n None = Unit {0}
CutsInside n (Some m) = (0 < m) × (m < n)

-- the first step of the chosen chain from x to y, or none where y is x
abbrev pub FirstStep : Binarised → ℕ → ℕ → Option UnitStep → Type 0
FirstStep B x y None = y ≡ x
FirstStep B x y (Some u) = chosen_chain B x y ≡ step_of u ∷ chosen_chain B u.to y

-- the number of a choice's production
abbrev pub choice_number : Choice → ℕ
choice_number (Step u) = u.number
choice_number (Leaf k) = k
choice_number (Fork k y z m) = k

-- what is chosen at x over n events is a rule of x: a unit step, a terminal rule, or a binary rule and a cut of n
abbrev pub ChoiceAt : Binarised → ℕ → ℕ → Option Choice → Type 0
ChoiceAt B x n None = Unit {0}
ChoiceAt B x n (Some (Step u)) = (u.from ≡ x) × Leads B x u.number (drop_of u.dropped) u.to
ChoiceAt B x n (Some (Leaf k)) = (t : ℕ) × Has B x k (terminal t)
ChoiceAt B x n (Some (Fork k y z m)) = Has B x k (binary y z) × (0 < m) × (m < n)

-- by this choice a derivation of the n events from place i on is taken from x, over those taken of its parts; by none there is none
abbrev pub ChoiceTaken : {E : Type 0} → Binarised → (E → ℕ → Bool) → ℕ → List E → ℕ → ℕ → Option Choice → Type 0
ChoiceTaken B fits x es i n None = yes_cell B fits x (span es i n) ≡ false
ChoiceTaken B fits x es i n (Some (Step u)) = (s : Tree) × Takes B fits u.to s (span es i n)
    × Takes B fits x (step_over B x u.number (drop_of u.dropped) s) (span es i n)
ChoiceTaken B fits x es i n (Some (Leaf k)) = Takes B fits x (leaf x k) (span es i n)
ChoiceTaken B fits x es i n (Some (Fork k y z m)) = (s : Tree) × ((t : Tree) × Takes B fits y s (span es i m) × Takes B fits z t (span es (i + m) (n - m))
    × Takes B fits x (fork x k s t) (span es i n))

-- into the table, which held t, the nodes ks were written from its beginning, as many as it takes
pub record Wrote (t ks : List Node) (s : NodeTable) : Type 0 where
  pub places : nodes_of s.nodes.now ≡ filled ks t
  pub written : s.written ≡ min (limit (length t)) (length ks)
  pub full : s.full ≡ nat_lt (limit (length t)) (length ks)

-- how many more nodes are written until the table is full
abbrev pub room : NodeTable → ℕ
room s = limit (length s.nodes.now) - s.written + cond s.full 0 1

-- the same table, with no more room than it had
pub record SameTable (was is : NodeTable) : Type 0 where
  pub table : is.nodes.ghost_name ≡ was.nodes.ghost_name
  pub long : length is.nodes.now ≡ length was.nodes.now
  pub less : room is ≤ room was

-- rule k of x, with rules of tails that follow it, comes from a right side of these items, none of which is a tail
abbrev pub RuleOver : Binarised → ℕ → ℕ → List ℕ → Type 0
RuleOver B x k ys = (z : ℕ) × (64 ≤ z) × ((r : Rule) → Mem r (binarise_right x k z ys) → Mem r B.rules) × ((y : ℕ) → Mem y ys → y < 64)

-- a symbol that is an item itself, or a tail that stands for these items
abbrev pub Stands : Binarised → ℕ → List ℕ → Type 0
Stands B x ys = (x < 64) ⊎ ((64 ≤ x) × ((k : ℕ) × RuleOver B x k ys))

-- the nodes of a tree without that of its root, with i events before it
abbrev pub below_root : ℕ → Tree → List Node
below_root i (null x n) = []
below_root i (over x n s) = tree_nodes i s
below_root i (fork x n s t) = tree_nodes i s ++ tree_nodes (i + width s) t
below_root i (leaf x n) = []

-- the nodes of the chosen trees of the items, in turn, each with so many events before it
abbrev pub blank_nodes : Binarised → ℕ → List ℕ → List Node
blank_nodes B at ys = each (λ y. tree_nodes at (nullable_tree B y)) ys

-- each item is a nullable head
abbrev pub AllBlank : Binarised → List ℕ → Type 0
AllBlank B ys = (y : ℕ) → Mem y ys → (y < 32) × (nullable B y ≡ true)
