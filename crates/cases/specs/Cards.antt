-- The card patterns and events that texts of stored cases say.
use Rattle.std.specs.Prelude.{◌≡◌, ℕ, ◌<◌, ◌^◌, List, length, ◌==◌}
use Rattle.std.specs.List.{before_first, after_first, position_or_len}
use Rattle.std.specs.Str.Parse.{IsNumeral, digits_value, without_leading_plus}
use Rattle.book.specs.declared.kinds.CardEvent.{CardEvent}
use Rattle.book.specs.declared.kinds.CardPattern.{CardPattern}

-- a text says this number of so many bits: digits in base ten, and a plus may stand before them
abbrev pub SaysNumber : ℕ → List ℕ → ℕ → Type 0
SaysNumber bits text n = IsNumeral 10 (without_leading_plus text) × (digits_value 10 (without_leading_plus text) ≡ n) × (n < 2 ^ bits)

-- a byte stands in a text; the text before the first such byte, and the text after it
abbrev pub Stands : ℕ → List ℕ → Type 0
Stands c text = position_or_len (λ b. b == c) text < length text

abbrev pub before : ℕ → List ℕ → List ℕ
before c text = before_first (λ b. b == c) text

abbrev pub behind : ℕ → List ℕ → List ℕ
behind c text = after_first (λ b. b == c) text

-- a text says this event: its kind, a colon, its argument
pub record SaysEvent (text : List ℕ) (e : CardEvent) : Type 0 where
  pub colon : Stands 58 text
  pub kind : SaysNumber 8 (before 58 text) e.kind
  pub argument : SaysNumber 32 (behind 58 text) e.argument

-- a text says this pattern: its kind, its lowest and its highest argument, with a space between each two
pub record SaysPattern (text : List ℕ) (p : CardPattern) : Type 0 where
  pub space : Stands 32 text
  pub further_space : Stands 32 (behind 32 text)
  pub kind : SaysNumber 8 (before 32 text) p.kind
  pub lowest : SaysNumber 32 (before 32 (behind 32 text)) p.lowest
  pub highest : SaysNumber 32 (behind 32 (behind 32 text)) p.highest
