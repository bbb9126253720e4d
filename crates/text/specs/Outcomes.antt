-- What the words of a line give.
use Rattle.std.specs.Prelude.{◌≡◌, ℕ, ◌+◌, ◌-◌, ◌<◌, ◌≤◌, Bool, true, false, cond, ◌⊎◌, List, [], ◌∷◌, ◌++◌, map, length, take, Some, None, Ok, Err, codes, decimal, Option, Result, nat_le, nat_lt, slice_index}
use Rattle.std.specs.Option.{option_map_or}
use Rattle.grammar.specs.{Lists.Mem, Lists.each, Productions.Production}
pub use Rattle.grammar.specs.Productions.{written}
use Rattle.text.specs.{Faults.line_fault_number, Faults.line_fault_place, Numbers.is_numeral, Numbers.said_number}
use Rattle.text.specs.Kinds.{Kind, arrow, blank, head, pattern, cost, unknown, kind, word_of, place_of}
use Rattle.text.specs.Words.{Piece, piece}
use Rattle.text.specs.declared.{fault.LineFault.LineFault, rule_line.RuleLine.RuleLine, token.Token.Token}

-- what a line gives: nothing, a rule, or a refusal with its number and its byte place
pub data Outcome : Type 0 where
  nothing : Outcome
  rule : Production → Outcome
  fault : ℕ → ℕ → Outcome

-- the number of the refusal of a word that may not stand where it does: unknown, over its limit, or else out of place
abbrev pub refusal_of : Kind → ℕ
refusal_of (head n) = cond (nat_lt 31 n) 21 22
refusal_of (pattern n) = cond (nat_lt 31 n) 21 22
refusal_of (cost n) = cond (nat_lt 65535 n) 21 22
refusal_of unknown = 20
refusal_of _ = 22

abbrev pub head_of : Kind → Option ℕ
head_of (head n) = cond (nat_le n 31) (Some n) None
head_of _ = None

-- an item within its limit: head h is h, pattern t is 32 + t
abbrev pub item_of : Kind → Option ℕ
item_of (head n) = cond (nat_le n 31) (Some n) None
item_of (pattern n) = cond (nat_le n 31) (Some (32 + n)) None
item_of _ = None

abbrev pub cost_of : Kind → Option ℕ
cost_of (cost n) = cond (nat_le n 65535) (Some n) None
cost_of _ = None

abbrev pub is_arrow : Kind → Bool
is_arrow arrow = true
is_arrow _ = false

abbrev pub is_blank : Kind → Bool
is_blank blank = true
is_blank _ = false

-- the refusal of a word where it stands
abbrev pub misplaced : Piece → Outcome
misplaced w = fault (refusal_of (kind w.bytes)) w.place

-- no word may come
abbrev pub no_more : Outcome → List Piece → Outcome
no_more o [] = o
no_more o (w ∷ ws) = misplaced w

-- behind the right side: at most a cost
abbrev pub cost_part : ℕ → List ℕ → List Piece → Outcome
cost_part h is [] = rule (written h is 0)
cost_part h is (w ∷ ws) = option_map_or (λ c. no_more (rule (written h is c)) ws) (cost_of (kind w.bytes)) (misplaced w)

-- behind some items: further items, then at most a cost
unfoldable pub item_part : ℕ → List ℕ → List Piece → Outcome
item_part h is [] = cost_part h is []
item_part h is (w ∷ ws) = option_map_or (λ i. item_part h (is ++ (i ∷ [])) ws) (item_of (kind w.bytes)) (cost_part h is (w ∷ ws))

-- behind the arrow, in a line that ends at a place: blank or an item
abbrev pub right_part : ℕ → ℕ → List Piece → Outcome
right_part end h [] = fault 23 end
right_part end h (w ∷ ws) = cond (is_blank (kind w.bytes)) (cost_part h [] ws) (option_map_or (λ i. item_part h (i ∷ []) ws) (item_of (kind w.bytes)) (misplaced w))

-- behind the head: the arrow
abbrev pub arrow_part : ℕ → ℕ → List Piece → Outcome
arrow_part end h [] = fault 23 end
arrow_part end h (w ∷ ws) = cond (is_arrow (kind w.bytes)) (right_part end h ws) (misplaced w)

-- what the words of a line that ends at a place give: a head, the arrow, the right side, at most a cost
abbrev pub line : ℕ → List Piece → Outcome
line end [] = nothing
line end (w ∷ ws) = option_map_or (λ h. arrow_part end h ws) (head_of (kind w.bytes)) (misplaced w)

abbrev pub kinds : List Piece → List Kind
kinds ws = map (λ (w : Piece). kind w.bytes) ws

-- the word of an item
abbrev pub item_kind : ℕ → Kind
item_kind i = cond (nat_lt i 32) (head i) (pattern (i - 32))

abbrev pub right_kinds : List ℕ → List Kind
right_kinds [] = blank ∷ []
right_kinds (i ∷ is) = map item_kind (i ∷ is)

-- a production that can be written: each number within its limit
pub record Writable (p : Production) : Type 0 where
  pub low_head : p.head ≤ 31
  pub low_items : (i : ℕ) → Mem i p.right → i < 64
  pub low_cost : p.cost ≤ 65535

-- the words of a production but for its cost
abbrev pub front_kinds : Production → List Kind
front_kinds p = head p.head ∷ (arrow ∷ right_kinds p.right)

-- the words say the production: its head, an arrow, its right side, its cost; a cost of 0 may be left out
abbrev pub Says : List Kind → Production → Type 0
Says ks p = Writable p × ((ks ≡ front_kinds p ++ (cost p.cost ∷ [])) ⊎ ((ks ≡ front_kinds p) × (p.cost ≡ 0)))

-- a sound line can begin with these words
abbrev pub Begins : List Kind → Type 0
Begins ks = (p : Production) × ((more : List Kind) × Says (ks ++ more) p)

-- what is refused: the first word with which no sound line can begin; or the end of words with which one can begin, but which are none
pub data Refused (end : ℕ) (ws : List Piece) : ℕ → ℕ → Type 0 where
  word_refused : (before : List Piece) (w : Piece) (after : List Piece) → ws ≡ before ++ (w ∷ after) → Begins (kinds before)
      → (Begins (kinds before ++ (kind w.bytes ∷ [])) → ⊥) → Refused end ws (refusal_of (kind w.bytes)) w.place
  too_short : 0 < length ws → Begins (kinds ws) → ((p : Production) → Says (kinds ws) p → ⊥) → Refused end ws 23 end

-- what an outcome of a line means
abbrev pub Means : ℕ → List Piece → Outcome → Type 0
Means end ws nothing = ws ≡ []
Means end ws (rule p) = Says (kinds ws) p
Means end ws (fault n at) = Refused end ws n at

-- a word with a number of any length: over its limit it meets 21; with a leading zero before more it is unknown and meets 20
pub record OfDigits (d : List ℕ) : Type 0 where
  pub head_over : is_numeral d ≡ true → 31 < said_number d → refusal_of (kind (72 ∷ d)) ≡ 21
  pub pattern_over : is_numeral d ≡ true → 31 < said_number d → refusal_of (kind (80 ∷ d)) ≡ 21
  pub cost_over : is_numeral d ≡ true → 65535 < said_number d → refusal_of (kind (35 ∷ d)) ≡ 21
  pub zero_first : (a : ℕ) → 0 < length d → refusal_of (kind (a ∷ (48 ∷ d))) ≡ 20

-- how a word of that kind is written
abbrev pub word_text : Kind → List ℕ
word_text arrow = codes "->"
word_text blank = codes "blank"
word_text (head n) = 72 ∷ decimal n
word_text (pattern n) = 80 ∷ decimal n
word_text (cost n) = 35 ∷ decimal n
word_text unknown = []

-- words with a space before each but the first
abbrev pub spaced : List (List ℕ) → List ℕ
spaced [] = []
spaced (w ∷ ws) = w ++ each (λ (v : List ℕ). 32 ∷ v) ws

-- a production as a line: its words, its cost the last
abbrev pub line_text : Production → List ℕ
line_text p = spaced (map word_text (front_kinds p ++ (cost p.cost ∷ [])))

-- what a rule line holds
abbrev pub production_said : RuleLine → Production
production_said l = written l.head (take l.len l.items) l.cost

-- a refusal as an outcome
abbrev pub fault_said : LineFault → Outcome
fault_said f = fault (line_fault_number f) (line_fault_place f)

abbrev pub said : Result RuleLine LineFault → Outcome
said (Ok l) = rule (production_said l)
said (Err f) = fault_said f

-- what the reader of a line gives
abbrev pub line_said : Result (Option RuleLine) LineFault → Outcome
line_said (Ok None) = nothing
line_said (Ok (Some l)) = rule (production_said l)
line_said (Err f) = fault_said f

-- a rule's numbers are within their limits; a refusal has a number of 20 to 23, and its place lies within a text of that length
abbrev pub Limits : ℕ → Result (Option RuleLine) LineFault → Type 0
Limits end (Ok None) = Unit {0}
Limits end (Ok (Some l)) = (l.head ≤ 31) × ((k : ℕ) → slice_index (take l.len l.items) k < 64) × (l.cost ≤ 65535)
Limits end (Err f) = (20 ≤ line_fault_number f) × (line_fault_number f ≤ 23) × (line_fault_place f ≤ end)

-- an outcome with its first nine items, which stand for nine and more: a book refuses both alike
abbrev pub in_nine : Outcome → Outcome
in_nine (rule p) = rule (written p.head (take 9 p.right) p.cost)
in_nine o = o

-- a token's word as a piece of the text
abbrev pub token_piece : Token → Piece
token_piece t = piece (place_of t) (word_of t)
