-- Stretches of a text: its lines and its words.
use Rattle.std.specs.Prelude.{◌≡◌, ℕ, suc, ◌+◌, ◌<◌, ◌≤◌, min, Bool, true, false, cond, ◌||◌, List, [], ◌∷◌, ◌++◌, length, take, drop, ◌==◌, ◌≢◌, slice_index}
use Rattle.grammar.specs.Lists.{Mem, those, each}

-- a stretch of a text, and the byte place where it begins
pub record Piece : Type 0 where
  pub place : ℕ
  pub bytes : List ℕ

abbrev pub piece : ℕ → List ℕ → Piece
piece at w = record { place = at; bytes = w }

-- the pieces with one byte more at the front of the first
abbrev pub longer : ℕ → ℕ → List Piece → List Piece
longer at b [] = piece at (b ∷ []) ∷ []
longer at b (p ∷ ps) = piece at (b ∷ p.bytes) ∷ ps

-- the pieces of a text whose first byte stands at a place, cut out between the bytes that part them
unfoldable pub pieces : (ℕ → Bool) → ℕ → List ℕ → List Piece
pieces parts at [] = piece at [] ∷ []
pieces parts at (b ∷ bs) = cond (parts b) (piece at [] ∷ pieces parts (suc at) bs) (longer at b (pieces parts (suc at) bs))

-- a line feed parts lines
abbrev pub ends_line : ℕ → Bool
ends_line b = b == 10

-- a space or a line feed parts words
abbrev pub parts : ℕ → Bool
parts b = b == 32 || b == 10

abbrev pub lines : ℕ → List ℕ → List Piece
lines at text = pieces ends_line at text

-- there is a byte
abbrev pub some_byte : List ℕ → Bool
some_byte [] = false
some_byte (b ∷ bs) = true

-- the words of a text: its longest runs of bytes that part no words
abbrev pub words : ℕ → List ℕ → List Piece
words at text = those (λ (p : Piece). some_byte p.bytes) (pieces parts at text)

abbrev pub line_words : Piece → List Piece
line_words l = words l.place l.bytes

-- each byte passes the test, or fails it
abbrev pub AllAre : (ℕ → Bool) → Bool → List ℕ → Type 0
AllAre p t w = (b : ℕ) → Mem b w → p b ≡ t

-- the text is these pieces, with one byte that parts between each two and none inside, and each has its place
pub data Cut (parted : ℕ → Bool) : ℕ → List ℕ → List Piece → Type 0 where
  last : (at : ℕ) (w : List ℕ) → AllAre parted false w → Cut parted at w (piece at w ∷ [])
  next : (at : ℕ) (w : List ℕ) (b : ℕ) (rest : List ℕ) (ps : List Piece) → AllAre parted false w → parted b ≡ true
      → Cut parted (suc (at + length w)) rest ps → Cut parted at (w ++ (b ∷ rest)) (piece at w ∷ ps)

-- nothing is left, or a byte that parts words comes next
abbrev pub Ends : List ℕ → Type 0
Ends [] = Unit {0}
Ends (b ∷ rest) = parts b ≡ true

-- the text is these words in order, each at its place and none empty, with bytes that part words around them and none inside
pub data Words : ℕ → List ℕ → List Piece → Type 0 where
  none : (at : ℕ) (gap : List ℕ) → AllAre parts true gap → Words at gap []
  next : (at : ℕ) (gap : List ℕ) (b : ℕ) (w : List ℕ) (rest : List ℕ) (ws : List Piece) → AllAre parts true gap → AllAre parts false (b ∷ w) → Ends rest
      → Words (at + length gap + length (b ∷ w)) rest ws → Words at (gap ++ ((b ∷ w) ++ rest)) (piece (at + length gap) (b ∷ w) ∷ ws)

-- the lines and the words of a text are those of these laws, and no others; and its words are the words of its lines
pub record CutInto (at : ℕ) (text : List ℕ) : Type 0 where
  pub lines_are : Cut ends_line at text (lines at text)
  pub only_lines : (ps : List Piece) → Cut ends_line at text ps → ps ≡ lines at text
  pub words_are : Words at text (words at text)
  pub only_words : (ws : List Piece) → Words at text ws → ws ≡ words at text
  pub by_line : words at text ≡ each line_words (lines at text)

-- w is the longest run of other bytes that begins at the first such byte from a place on
pub record IsWord (text : List ℕ) (from at : ℕ) (w : List ℕ) : Type 0 where
  pub later : from ≤ at
  pub skipped : (k : ℕ) → from ≤ k → k < at → parts (slice_index text k) ≡ true
  pub some : 0 < length w
  pub part : w ≡ take (length w) (drop at text)
  pub inside : at + length w ≤ length text
  pub plain : (k : ℕ) → at ≤ k → k < at + length w → parts (slice_index text k) ≡ false
  pub ended : at + length w < length text → parts (slice_index text (at + length w)) ≡ true

-- e is the first line feed from a place on, or the end of the text where there is none
pub record IsLineEnd (text : List ℕ) (from e : ℕ) : Type 0 where
  pub later : min from (length text) ≤ e
  pub inside : e ≤ length text
  pub before : (k : ℕ) → from ≤ k → k < e → slice_index text k ≢ 10
  pub ended : e < length text → slice_index text e ≡ 10
