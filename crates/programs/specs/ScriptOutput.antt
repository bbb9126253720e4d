-- What the script program prints.
use Rattle.std.specs.Prelude.{ℕ, suc, Bool, cond, List, [], ◌∷◌, ◌++◌, length, Ok, Err, Result, nat_eq, nat_lt, codes}
use Rattle.grammar.specs.Lists.{same_numbers}
use Rattle.text.specs.Words.{Piece, words}
use Rattle.book.specs.Fits.{card_test}
use Rattle.programs.specs.Output.{line_texts}
use Rattle.programs.specs.Scripts.{Script}
use Rattle.programs.specs.Spelling.{bytes_spelling, cards_spelling}
use Rattle.programs.specs.ScriptLines.{read}
use Rattle.programs.specs.Faults.{malformed_text}
use Rattle.programs.specs.Printed.{script_print}
use Rattle.programs.specs.declared.script.fault.Cause.{Cause}
use Rattle.programs.specs.declared.script.fault.Cause.TheVariants.{NoAlphabet}

-- a script in the input: the number of its first line, and its lines
pub record Part : Type 0 where
  pub first : ℕ
  pub lines : List (List ℕ)

abbrev pub part : ℕ → List (List ℕ) → Part
part n ls = record { first = n; lines = ls }

-- the line is % alone
abbrev pub is_bar : List ℕ → Bool
is_bar w = same_numbers w (37 ∷ [])

-- the scripts with a line of this number more at the front of the first
abbrev pub longer : ℕ → List ℕ → List Part → List Part
longer n w [] = part n (w ∷ []) ∷ []
longer n w (p ∷ ps) = part n (w ∷ p.lines) ∷ ps

-- the scripts that lines have, from the one of this number on: a line % alone parts two
unfoldable pub parts : ℕ → List (List ℕ) → List Part
parts n [] = part n [] ∷ []
parts n (w ∷ ws) = cond (is_bar w) (part n [] ∷ parts (suc n) ws) (longer n w (parts (suc n) ws))

-- the line that is printed for a malformed script
abbrev pub malformed_line : ℕ → Cause → List ℕ
malformed_line n c = malformed_text n c ++ (10 ∷ [])

-- what is printed for what was read of a script
abbrev pub read_print : {P E : Type 0} → (P → E → Bool) → Result (Script P E) (ℕ × Cause) → List ℕ
read_print test (Ok s) = script_print test s
read_print test (Err (n, c)) = malformed_line n c

-- the first of these words with the number of its line, or else what comes behind
abbrev pub first_or : ℕ → List Piece → ℕ × List ℕ → ℕ × List ℕ
first_or n [] later = later
first_or n (v ∷ vs) later = (n, v.bytes)

-- the first word of lines from the one of this number on, with the number of its line; no byte where they have no word, and the number behind the last
unfoldable pub first_word : ℕ → List (List ℕ) → ℕ × List ℕ
first_word n [] = (n, [])
first_word n (w ∷ ws) = first_or n (words 0 w) (first_word (suc n) ws)

-- what is printed for a script over the alphabet that its first word names
abbrev pub named_print : ℕ × List ℕ → Part → List ℕ
named_print (n, w) p =
    cond (same_numbers w bytes_spelling.name) (read_print nat_eq (read bytes_spelling p.first p.lines)) (
    cond (same_numbers w cards_spelling.name) (read_print card_test (read cards_spelling p.first p.lines)) (malformed_line n NoAlphabet))

-- what is printed for a script
unfoldable pub part_print : Part → List ℕ
part_print p = named_print (first_word p.first p.lines) p

-- what is printed for scripts, with a line % between each two
abbrev pub parts_print : List Part → List ℕ
parts_print [] = []
parts_print (p ∷ []) = part_print p
parts_print (p ∷ (q ∷ ps)) = part_print p ++ (codes "%\n" ++ parts_print (q ∷ ps))

-- what is printed for an input
unfoldable pub script_output : List ℕ → List ℕ
script_output input = cond (nat_lt 1048576 (length input)) (codes "refused 25\n") (parts_print (parts 1 (line_texts input)))
