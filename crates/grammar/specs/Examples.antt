-- Five small books, and what the definitions say of them, in one list. The events a and b are 0 and 1, and pattern t fits the event t.
use Rattle.std.specs.Prelude.{◌≡◌, ℕ, ◌<◌, List, [], ◌∷◌, length, nat_eq}
use Rattle.grammar.specs.{Productions.Book, Productions.written, Productions.book, Strict.strict_rules, Weighings.counts}
use Rattle.grammar.specs.{Readings.Reading, Nodes.Node, Nodes.nodes, Binarise.binarised, Weights.total_of, PlainReadings.Unread}
use Rattle.grammar.specs.{Answers.Taken, Cells.feed_refusal}

-- 0 → a 0 b, 0 → a b
abbrev pub book_a : Book
book_a = book 2 (written 0 (32 ∷ 0 ∷ 33 ∷ []) 0 ∷ written 0 (32 ∷ 33 ∷ []) 0 ∷ [])

-- 0 → 1, 1 → a
abbrev pub book_b : Book
book_b = book 2 (written 0 (1 ∷ []) 0 ∷ written 1 (32 ∷ []) 0 ∷ [])

-- 0 → 1 a, 1 → 2, 2 → nothing
abbrev pub book_c : Book
book_c = book 2 (written 0 (1 ∷ 32 ∷ []) 0 ∷ written 1 (2 ∷ []) 0 ∷ written 2 [] 0 ∷ [])

-- 0 → 0 0, 0 → a, 0 → nothing
abbrev pub book_d : Book
book_d = book 2 (written 0 (0 ∷ 0 ∷ []) 0 ∷ written 0 (32 ∷ []) 0 ∷ written 0 [] 0 ∷ [])

-- 0 → 1 a 1, 0 → a a, 1 → 2, 1 → 2 b b, 2 → a 0, 2 → a b, 2 → nothing
abbrev pub book_e : Book
book_e = book 2 (written 0 (1 ∷ 32 ∷ 1 ∷ []) 0 ∷ written 0 (32 ∷ 32 ∷ []) 0 ∷ written 1 (2 ∷ []) 0 ∷ written 1 (2 ∷ 33 ∷ 33 ∷ []) 0 ∷ written 2 (32 ∷ 0 ∷ []) 0
    ∷ written 2 (32 ∷ 33 ∷ []) 0 ∷ written 2 [] 0 ∷ [])

-- the node of production n with its first event and its number of events
abbrev pub at : ℕ → ℕ → ℕ → Node
at n i k = record { rule = n; first = i; count = k }

-- the reading taken of w has the nodes ks
abbrev pub HasNodes : Book → List ℕ → List Node → Type 0
HasNodes W w ks = (r : Reading) × Taken W nat_eq r w × (nodes 0 r ≡ ks)

-- a table of m weights holds n events of a book, and no more: with fewer held a feed is not refused
abbrev pub HoldsEvents : Book → ℕ → ℕ → Type 0
HoldsEvents W m n = ((k : ℕ) → k < n → feed_refusal (binarised W).symbols m k ≡ 0) × (feed_refusal (binarised W).symbols m n ≡ 11)

-- strict rules, readings taken with their nodes, traces without a reading, counts, and sizes of tables
pub record Shown : Type 0 where
  pub a_strict : length (strict_rules (binarised book_a)) ≡ 5
  pub a_aabb : HasNodes book_a (0 ∷ 0 ∷ 1 ∷ 1 ∷ []) (at 0 0 4 ∷ at 1 1 2 ∷ [])
  pub a_aab : Unread book_a nat_eq (0 ∷ 0 ∷ 1 ∷ [])
  pub a_195 : HoldsEvents book_a 195 2
  pub a_194 : HoldsEvents book_a 194 1
  pub b_a : HasNodes book_b (0 ∷ []) (at 0 0 1 ∷ at 1 0 1 ∷ [])
  pub c_a : HasNodes book_c (0 ∷ []) (at 0 0 1 ∷ at 1 0 0 ∷ at 2 0 0 ∷ [])
  pub c_aa : Unread book_c nat_eq (0 ∷ 0 ∷ [])
  pub d_empty : HasNodes book_d [] (at 2 0 0 ∷ [])
  pub d_a : total_of book_d (counts 4294967295) nat_eq (0 ∷ []) ≡ 1
  pub d_aaa : total_of book_d (counts 4294967295) nat_eq (0 ∷ 0 ∷ 0 ∷ []) ≡ 2
  pub e_strict : length (strict_rules (binarised book_e)) ≡ 15
  pub e_a : HasNodes book_e (0 ∷ []) (at 0 0 1 ∷ at 2 0 0 ∷ at 6 0 0 ∷ at 2 1 0 ∷ at 6 1 0 ∷ [])
