-- The nodes of a reading, and of its binarised form.
use Rattle.std.specs.Prelude.{◌≡◌, ℕ, zero, suc, ◌+◌, Bool, cond, List, [], ◌∷◌, ◌++◌, length, nat_lt}
use Rattle.grammar.specs.Binarised.{Tree, null, over, fork, leaf, width}
use Rattle.grammar.specs.Readings.{Reading, Parts, node, no_part, event, part, Reads}
use Rattle.grammar.specs.Productions.{Book, head_of}

-- the number of events of a reading
abbrev mutual
  pub events : Reading → ℕ
  events (node n ps) = events_in ps

  pub events_in : Parts → ℕ
  events_in no_part = zero
  events_in (event ps) = suc (events_in ps)
  events_in (part r ps) = events r + events_in ps

-- a node: the number of its production, how many events there are before it, and how many it has
pub record Node : Type 0 where
  pub rule : ℕ
  pub first : ℕ
  pub count : ℕ

-- the nodes of a reading with i events before it: the node first, then the nodes of its parts
abbrev mutual
  pub nodes : ℕ → Reading → List Node
  nodes i (node n ps) = record { rule = n; first = i; count = events_in ps } ∷ nodes_in i ps

  pub nodes_in : ℕ → Parts → List Node
  nodes_in i no_part = []
  nodes_in i (event ps) = nodes_in (suc i) ps
  nodes_in i (part r ps) = nodes i r ++ nodes_in (i + events r) ps

-- the node of rule n of x, if x is a head, before the nodes l
abbrev pub mark : ℕ → ℕ → ℕ → ℕ → List Node → List Node
mark x n i k l = cond (nat_lt x 32) (record { rule = n; first = i; count = k } ∷ l) l

-- the nodes of a tree of binarised rules with i events before it: one for each rule of a head, in the same order
abbrev pub tree_nodes : ℕ → Tree → List Node
tree_nodes i (null x n) = mark x n i 0 []
tree_nodes i (over x n s) = mark x n i (width s) (tree_nodes i s)
tree_nodes i (fork x n s t) = mark x n i (width s + width t) (tree_nodes i s ++ tree_nodes (i + width s) t)
tree_nodes i (leaf x n) = mark x n i 1 []

-- of the events w, with i before them, those of the node k are read from its production's head, by its production
pub record Span (W : Book) {E : Type 0} (fits : E → ℕ → Bool) (w : List E) (i : ℕ) (k : Node) : Type 0 where
  pub before : List E
  pub inside : List E
  pub after : List E
  pub ps : Parts
  pub cut : before ++ (inside ++ after) ≡ w
  pub starts : i + length before ≡ k.first
  pub long : length inside ≡ k.count
  pub reads : Reads W fits (head_of W k.rule) (node k.rule ps) inside
