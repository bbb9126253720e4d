-- The lines and the words of a text, one by one.
use Rattle.std.specs.Prelude.{◌≡◌, ◌+◌, ◌<◌, ◌≤◌, List, length, take, drop, Option, MatchOption}
use Rattle.text.specs.{Outcomes.Outcome, Outcomes.line, Words.Piece, Words.piece, Words.words, Words.IsLineEnd}
use Rattle.text.specs.declared.{lines.Line.Line, lines.Lines.Lines, words.Word.Word, words.Words.Words}

-- the words of a line
abbrev pub words_of : Line → List Piece
words_of l = words l.from (drop l.from l.text.now)

-- what they give
abbrev pub outcome_of : Line → Outcome
outcome_of l = line (length l.text.now) (words_of l)

-- the next line is the text from the place reached up to the line's end, and the line after it begins past that
pub record IsNextLine (was : Lines) (l : Line) (is : Lines) : Type 0 where
  pub some : was.from < length was.text.now
  pub begins : l.from ≡ was.from
  pub ends : IsLineEnd was.text.now l.from (length l.text.now)
  pub part : l.text.now ≡ take (length l.text.now) was.text.now
  pub past : is.from ≡ length l.text.now + 1
  pub same : is.text.now ≡ was.text.now

-- the next line is given, or none where the text is at its end
abbrev pub NextLine : Lines → Option Line → Lines → Type 0
NextLine was r is = MatchOption r ((length was.text.now ≤ was.from) × (is ≡ was)) (λ l. IsNextLine was l is)

-- a word as a piece of the text
abbrev pub piece_of : Word → Piece
piece_of w = piece w.place w.bytes.now

-- the words that are still to come
abbrev pub words_left : Words → List Piece
words_left s = words s.from (drop s.from s.text.now)
