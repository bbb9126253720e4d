-- What a word is.
use Rattle.std.specs.Prelude.{◌≡◌, ℕ, true, cond, ◌⊎◌, List, [], ◌∷◌, drop, codes, ◌==◌}
use Rattle.grammar.specs.Lists.{same_numbers}
use Rattle.text.specs.Numbers.{is_numeral, said_number}
use Rattle.text.specs.declared.token.Token.{Token}
use Rattle.text.specs.declared.token.Token.TheVariants.{Arrow, Blank, Head, Pattern, Cost, Unknown}

-- a word: an arrow, blank, a head, a pattern or a cost with its number, or none of these
pub data Kind : Type 0 where
  arrow : Kind
  blank : Kind
  head : ℕ → Kind
  pattern : ℕ → Kind
  cost : ℕ → Kind
  unknown : Kind

-- what a number after a letter is: H is 72, P is 80 and # is 35
abbrev pub lettered : ℕ → ℕ → Kind
lettered a n = cond (a == 72) (head n) (cond (a == 80) (pattern n) (cond (a == 35) (cost n) unknown))

-- what a word that has no fixed spelling is: a letter before a number, or unknown
abbrev pub spelled : List ℕ → Kind
spelled [] = unknown
spelled (a ∷ ds) = cond (is_numeral ds) (lettered a (said_number ds)) unknown

-- what a word is
unfoldable pub kind : List ℕ → Kind
kind w = cond (same_numbers w (codes "->")) arrow (cond (same_numbers w (codes "blank")) blank (spelled w))

-- how a word of that kind is spelled; nothing is spelled as unknown
abbrev pub Spelled : List ℕ → Kind → Type 0
Spelled w arrow = w ≡ codes "->"
Spelled w blank = w ≡ codes "blank"
Spelled w (head n) = (d : List ℕ) × (is_numeral d ≡ true) × (said_number d ≡ n) × (w ≡ 72 ∷ d)
Spelled w (pattern n) = (d : List ℕ) × (is_numeral d ≡ true) × (said_number d ≡ n) × (w ≡ 80 ∷ d)
Spelled w (cost n) = (d : List ℕ) × (is_numeral d ≡ true) × (said_number d ≡ n) × (w ≡ 35 ∷ d)
Spelled w unknown = ⊥

-- a word that is spelled as some kind is of that kind, and every other word is unknown
pub record OfKind (w : List ℕ) : Type 0 where
  pub is_kind : (k : Kind) → Spelled w k → kind w ≡ k
  pub known : (kind w ≡ unknown) ⊎ Spelled w (kind w)

abbrev pub word_of : Token → List ℕ
word_of (Arrow w at) = w.now
word_of (Blank w at) = w.now
word_of (Head w at) = w.now
word_of (Pattern w at) = w.now
word_of (Cost w at) = w.now
word_of (Unknown w at) = w.now

abbrev pub place_of : Token → ℕ
place_of (Arrow w at) = at
place_of (Blank w at) = at
place_of (Head w at) = at
place_of (Pattern w at) = at
place_of (Cost w at) = at
place_of (Unknown w at) = at

-- what a token says that its word is
abbrev pub kind_of : Token → Kind
kind_of (Arrow w at) = arrow
kind_of (Blank w at) = blank
kind_of (Head w at) = head (said_number (drop 1 w.now))
kind_of (Pattern w at) = pattern (said_number (drop 1 w.now))
kind_of (Cost w at) = cost (said_number (drop 1 w.now))
kind_of (Unknown w at) = unknown

-- the word is of the token's kind
abbrev pub Sound : Token → Type 0
Sound t = kind (word_of t) ≡ kind_of t
