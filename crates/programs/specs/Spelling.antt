-- How the words of a script's lines spell numbers, patterns and events.
use Rattle.std.specs.Prelude.{ℕ, cond, ◌&&◌, List, [], ◌∷◌, map, Some, None, Option, option_map, option_and_then, nat_le, codes}
use Rattle.grammar.specs.Lists.{each}
use Rattle.text.specs.Numbers.{all_digits, said_number}
use Rattle.text.specs.Words.{Piece}
use Rattle.text.specs.Turns.{words_left}
use Rattle.text.specs.declared.words.Words.{Words}
use Rattle.book.specs.declared.kinds.CardEvent.{CardEvent}
use Rattle.book.specs.declared.kinds.CardPattern.{CardPattern}

-- the bytes of each word
abbrev pub word_texts : List Piece → List (List ℕ)
word_texts ws = map (λ (p : Piece). p.bytes) ws

-- the words that are still to come, as their bytes
abbrev pub texts_left : Words → List (List ℕ)
texts_left s = word_texts (words_left s)

-- the number that a word says, if its bytes are digits and it is within a limit
unfoldable pub number_said : ℕ → List ℕ → Option ℕ
number_said limit w = cond (all_digits w && nat_le (said_number w) limit) (Some (said_number w)) None

-- the number that the first word says, and the words behind it
unfoldable pub first_number : ℕ → List (List ℕ) → Option (ℕ × List (List ℕ))
first_number limit [] = None
first_number limit (w ∷ ws) = option_map (λ n. (n, ws)) (number_said limit w)

-- what f gives by the number that the first word says, and by the words behind it
abbrev pub by_number : {A : Type 0} → ℕ → (ℕ → List (List ℕ) → Option A) → List (List ℕ) → Option A
by_number limit f ws = option_and_then (λ (p : ℕ × List (List ℕ)). f p.0 p.1) (first_number limit ws)

-- the value, where no word is left
abbrev pub only : {A : Type 0} → A → List (List ℕ) → Option A
only x [] = Some x
only x (w ∷ ws) = None

-- the numbers that words say, if each says one
unfoldable pub numbers_said : ℕ → List (List ℕ) → Option (List ℕ)
numbers_said limit [] = Some []
numbers_said limit (w ∷ ws) = option_and_then (λ n. option_map (λ ns. n ∷ ns) (numbers_said limit ws)) (number_said limit w)

-- how a script spells an alphabet: the word that its lines of patterns begin with, the patterns that the words behind it say, and the event
-- that words say
pub record Spelling (P E : Type 0) : Type 0 where
  pub name : List ℕ
  pub patterns : List (List ℕ) → Option (List P)
  pub event : List (List ℕ) → Option E

-- the one byte of a word
abbrev pub one_byte : List ℕ → Option ℕ
one_byte [] = None
one_byte (b ∷ []) = Some b
one_byte (b ∷ (c ∷ cs)) = None

-- an event is one word of one byte
abbrev pub byte_event : List (List ℕ) → Option ℕ
byte_event [] = None
byte_event (w ∷ ws) = option_and_then (λ b. only b ws) (one_byte w)

-- bytes: each byte of each word is a pattern
abbrev pub bytes_spelling : Spelling ℕ ℕ
bytes_spelling = record { name = codes "bytes"; patterns = λ ws. Some (each (λ (w : List ℕ). w) ws); event = byte_event }

-- the largest argument of a card event
abbrev pub ARGUMENTS : ℕ
ARGUMENTS = 4294967295

-- a card pattern is its kind, its lowest and its highest argument
abbrev pub card_pattern : List (List ℕ) → Option CardPattern
card_pattern ws = by_number 255 (λ kind. by_number ARGUMENTS (λ lowest. by_number ARGUMENTS (λ highest. only (record { kind = kind; lowest = lowest; highest = highest })))) ws

-- a card event is its kind and its argument
abbrev pub card_event : List (List ℕ) → Option CardEvent
card_event ws = by_number 255 (λ kind. by_number ARGUMENTS (λ argument. only (record { kind = kind; argument = argument }))) ws

-- no word is no pattern, three words are one
abbrev pub card_patterns : List (List ℕ) → Option (List CardPattern)
card_patterns [] = Some []
card_patterns (w ∷ ws) = option_map (λ (p : CardPattern). p ∷ []) (card_pattern (w ∷ ws))

-- card events
abbrev pub cards_spelling : Spelling CardPattern CardEvent
cards_spelling = record { name = codes "cards"; patterns = card_patterns; event = card_event }
