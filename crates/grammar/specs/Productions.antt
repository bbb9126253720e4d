-- Books as they are written: productions, their numbers, and the tails that their right sides take.
use Rattle.std.specs.Prelude.{◌≡◌, ℕ, zero, ◌+◌, ◌<◌, ◌≤◌, List, [], ◌∷◌, ◌++◌, length, take, ◌≢◌, slice_index_or}
use Rattle.grammar.specs.Lists.{Mem, Sorted}

-- a production: its head, the items of its right side, its cost. An item below 32 is that head, 32 + t is pattern t
pub record Production : Type 0 where
  pub head : ℕ
  pub right : List ℕ
  pub cost : ℕ

abbrev pub written : ℕ → List ℕ → ℕ → Production
written h right c = record { head = h; right = right; cost = c }

-- the number of tails of a right side (the new symbols that cut it in two again and again): two fewer than its items, or none
abbrev pub tails : List ℕ → ℕ
tails [] = zero
tails (a ∷ []) = zero
tails (a ∷ b ∷ ys) = length ys

abbrev pub all_tails : List Production → ℕ
all_tails [] = zero
all_tails (p ∷ ps) = tails p.right + all_tails ps

-- a book: its productions, numbered from 0, and how many patterns there are
pub record Book : Type 0 where
  pub productions : List Production
  pub patterns : ℕ

-- the book of these productions over T patterns
abbrev pub book : ℕ → List Production → Book
book T ps = record { productions = ps; patterns = T }

abbrev pub offered : Book → Production → Book
offered W p = book W.patterns (W.productions ++ (p ∷ []))

-- n is the number of a production
abbrev pub Numbers : Book → ℕ → Type 0
Numbers W n = n < length W.productions

-- production n. What stands for it where n is no production's number does not matter
unfoldable pub production : Book → ℕ → Production
production W n = slice_index_or W.productions n (written zero [] zero)

abbrev pub head_of : Book → ℕ → ℕ
head_of W n = (production W n).head

abbrev pub right_of : Book → ℕ → List ℕ
right_of W n = (production W n).right

abbrev pub cost_of : Book → ℕ → ℕ
cost_of W n = (production W n).cost

-- the number of tails that the productions before production n take
unfoldable pub tails_before : Book → ℕ → ℕ
tails_before W n = all_tails (take n W.productions)

-- the first tail of production n: tails are the symbols from 64 on, by production, then by position
abbrev pub first_tail : Book → ℕ → ℕ
first_tail W n = 64 + tails_before W n

pub record SameRule (p q : Production) : Type 0 where
  pub same_head : p.head ≡ q.head
  pub same_right : p.right ≡ q.right

-- the bounds that every book keeps
pub record Sound (W : Book) : Type 0 where
  pub heads : (p : Production) → Mem p W.productions → p.head < 32
  pub items : (p : Production) (y : ℕ) → Mem p W.productions → Mem y p.right → y < 32 + W.patterns
  pub short : (p : Production) → Mem p W.productions → length p.right ≤ 8
  pub cheap : (p : Production) → Mem p W.productions → p.cost ≤ 65535
  pub different : Sorted (λ p q. SameRule p q → ⊥) W.productions
  pub few_patterns : W.patterns ≤ 32
  pub few_rules : length W.productions ≤ 64
  pub few_tails : all_tails W.productions ≤ 64

-- no production has an empty right side, or one head alone there
abbrev pub ProperBook : Book → Type 0
ProperBook W = (p : Production) → Mem p W.productions → (p.right ≢ []) × ((y : ℕ) → y < 32 → p.right ≢ y ∷ [])
