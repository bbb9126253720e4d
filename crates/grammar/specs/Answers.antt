-- The reading that is taken, and what the call for it answers and writes.
use Rattle.std.specs.Prelude.{◌≡◌, ℕ, min, Bool, cond, List, [], ◌++◌, length, take, drop, nat_le}
use Rattle.grammar.specs.{Productions.Book, Nullable.nullable_tree, Taken.Takes, Readings.Reading, Readings.Reads}
use Rattle.grammar.specs.{Nodes.Node, Nodes.nodes, Binarise.binarise, Binarise.binarised, PlainReadings.Unread}

-- the reading that is taken: its binarised form is the derivation taken from head 0, over no events the chosen tree of head 0
pub data Taken (W : Book) {E : Type 0} (fits : E → ℕ → Bool) : Reading → List E → Type 0 where
  of_nothing : {r : Reading} → Reads W fits 0 r [] → binarise W r ≡ nullable_tree (binarised W) 0 → Taken W fits r []
  of_events : {r : Reading} {w : List E} → Reads W fits 0 r w → Takes (binarised W) fits 0 (binarise W r) w → Taken W fits r w

-- how many nodes a table of n places takes
abbrev pub limit : ℕ → ℕ
limit n = min 65535 n

-- the table t after the nodes ks were written into it from its beginning, as many as it takes
abbrev pub filled : List Node → List Node → List Node
filled ks t = take (limit (length t)) ks ++ drop (min (limit (length t)) (length ks)) t

-- what the call answers: none; or the number of nodes; or a refusal, by its number
pub data Answer : Type 0 where
  none : Answer
  number : ℕ → Answer
  refused : ℕ → Answer

-- the answer for the nodes ks and a table of n places
abbrev pub answer : List Node → ℕ → Answer
answer ks n = cond (nat_le (length ks) (limit n)) (number (length ks)) (refused 13)

-- `Answers W fits w t a t'`: over the events w, with the table t, the call answers a and leaves t'
pub data Answers (W : Book) {E : Type 0} (fits : E → ℕ → Bool) (w : List E) (t : List Node) : Answer → List Node → Type 0 where
  is_none : Unread W fits w → Answers W fits w t none t
  is_read : (r : Reading) → Taken W fits r w → Answers W fits w t (answer (nodes 0 r) (length t)) (filled (nodes 0 r) t)
