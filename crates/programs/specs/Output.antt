-- What the line program prints.
use Rattle.std.specs.Prelude.{◌≡◌, ℕ, ◌+◌, ◌<◌, Bool, true, false, cond, ◌&&◌, ◌⊎◌, ◌↔◌, List, [], ◌∷◌, ◌++◌, map, length, take, drop, nat_eq, nat_le, nat_lt, codes, decimal, ◌≢◌, vec_len}
use Rattle.grammar.specs.Lists.{Mem, each, first_of, same_numbers, count_up}
use Rattle.grammar.specs.Productions.{Production, Book}
use Rattle.grammar.specs.Binarise.{binarised}
use Rattle.grammar.specs.Cells.{column_place, feed_refusal}
use Rattle.grammar.specs.Weighings.{yes_no, counts, costs}
use Rattle.grammar.specs.Weights.{total_of}
use Rattle.text.specs.Words.{Piece, piece, lines, ends_line, some_byte, AllAre}
use Rattle.book.specs.Fits.{table_fits, TestsTable}
use Rattle.book.specs.Loads.{Load, taken, stopped, load, LoadMeans}
use Rattle.book.specs.Offers.{book}
use Rattle.chart.specs.Totals.{Explained, CountsReadings, IsLeastCost}
use Rattle.programs.specs.Answers.{totals_words}
use Rattle.programs.specs.declared.totals.Tables.{Tables}
use Rattle.programs.specs.declared.totals.Totals.{Totals}

-- the texts without the last, if that has no byte
abbrev pub but_empty_last : List (List ℕ) → List (List ℕ)
but_empty_last [] = []
but_empty_last (w ∷ []) = cond (some_byte w) (w ∷ []) []
but_empty_last (w ∷ (v ∷ vs)) = w ∷ but_empty_last (v ∷ vs)

-- the lines of a text, each as its bytes; nothing after the last line feed is no line
unfoldable pub line_texts : List ℕ → List (List ℕ)
line_texts text = but_empty_last (map (λ (l : Piece). l.bytes) (lines 0 text))

-- the line is % alone
abbrev pub divides : Piece → Bool
divides l = same_numbers l.bytes (37 ∷ [])

-- where the first line that is % alone begins, or the end of the input where there is none
unfoldable pub divider : List ℕ → ℕ
divider input = (first_of divides (piece (length input) []) (lines 0 input)).place

-- the input before that line: the rule text
abbrev pub rules_part : List ℕ → List ℕ
rules_part input = take (divider input) input

-- the input after it, behind its line feed: the traces
abbrev pub traces_part : List ℕ → List ℕ
traces_part input = drop (divider input + 2) input

-- the test of the 26 letters from a on, by their numbers from 0
abbrev pub letter_fits : ℕ → ℕ → Bool
letter_fits = table_fits nat_eq (count_up 97 26)

-- tables of 15,360 weights have room for so many events, S weights to a cell
abbrev pub has_room : ℕ → ℕ → Bool
has_room S events = nat_le events 256 && nat_le (column_place S (events + 1)) 15360

-- each of the tables has so many weights
abbrev pub HaveWeights : Tables → Type 0
HaveWeights t = (vec_len t.verdicts ≡ 15360) × (vec_len t.counts ≡ 15360) × (vec_len t.costs ≡ 15360)

-- the totals of a trace by the three weighings
abbrev pub trace_totals : {E : Type 0} → Book → (E → ℕ → Bool) → List E → Totals
trace_totals W fits w = record {
  verdict = record { 0 = total_of W yes_no fits w };
  count = total_of W (counts 4294967295) fits w;
  least = total_of W (costs 4294967295) fits w;
}

-- the line for a trace: how many events it has, and its totals or the refusal
unfoldable pub trace_line : Book → (ℕ → ℕ → Bool) → List ℕ → List ℕ
trace_line W fits w = decimal (length w) ++ (32 ∷ (cond (has_room (binarised W).symbols (length w)) (totals_words (trace_totals W fits w)) (codes "refused 11") ++ (10 ∷ [])))

-- what is printed for traces after a load: a line for each, or the refusal of the load with its place
abbrev pub loaded_output : Load → List ℕ → List ℕ
loaded_output (taken rules n) traces = each (trace_line (book 26 rules) letter_fits) (line_texts traces)
loaded_output (stopped rules number at) traces = codes "refused " ++ (decimal number ++ (32 ∷ (decimal at ++ (10 ∷ []))))

-- what is printed for an input
unfoldable pub line_output : List ℕ → List ℕ
line_output input = cond (nat_lt 32768 (length input)) (codes "refused 25\n") (loaded_output (load 26 [] (rules_part input)) (traces_part input))

-- Laws

-- a text is these lines: a line feed ends each, or the end of the text the last, if that has a byte; no line holds a line feed
pub data LinesAre : List ℕ → List (List ℕ) → Type 0 where
  none : LinesAre [] []
  last : (b : ℕ) (w : List ℕ) → AllAre ends_line false (b ∷ w) → LinesAre (b ∷ w) ((b ∷ w) ∷ [])
  next : (w rest : List ℕ) (ws : List (List ℕ)) → AllAre ends_line false w → LinesAre rest ws → LinesAre (w ++ (10 ∷ rest)) (w ∷ ws)

-- no line of the text is % alone
abbrev pub NoDivider : List ℕ → Type 0
NoDivider text = (l : Piece) → Mem l (lines 0 text) → l.bytes ≢ 37 ∷ []

-- a text of whole lines: it is empty or ends in a line feed
abbrev pub Whole : List ℕ → Type 0
Whole text = (text ≡ []) ⊎ ((front : List ℕ) × (text ≡ front ++ (10 ∷ [])))

-- no line of the input is % alone, and all of it is rule text; or the first that is stands between the two parts
abbrev pub Divided : List ℕ → List ℕ → List ℕ → Type 0
Divided input rules traces = NoDivider rules
    × (((rules ≡ input) × (traces ≡ [])) ⊎ (Whole rules × (((input ≡ rules ++ (37 ∷ [])) × (traces ≡ [])) ⊎ (input ≡ rules ++ (37 ∷ (10 ∷ traces))))))

-- of every trace the three totals are: whether there is a reading, how many there are, and what the cheapest costs
pub record TotalsMean (W : Book) {E : Type 0} (fits : E → ℕ → Bool) : Type 0 where
  pub verdict : (w : List E) → Explained W fits w (total_of W yes_no fits w)
  pub count : (w : List E) → CountsReadings W fits 4294967295 w (total_of W (counts 4294967295) fits w)
  pub least : (w : List E) → IsLeastCost W fits 4294967295 w (total_of W (costs 4294967295) fits w)

-- what the definition means for an input
pub record LineMeans (input : List ℕ) : Type 0 where
  -- where the two parts lie
  pub divided : Divided input (rules_part input) (traces_part input)
  -- the traces are the lines of their part, and no others
  pub traces : (ws : List (List ℕ)) → LinesAre (traces_part input) ws ↔ (ws ≡ line_texts (traces_part input))
  -- the rules are loaded line by line
  pub loads : LoadMeans 26 [] (rules_part input)
  -- a trace has no room exactly if the feed of one of its events is refused
  pub room : (S n : ℕ) → (has_room S n ≡ true) ↔ ((k : ℕ) → k < n → feed_refusal S 15360 k ≡ 0)
  -- a pattern fits its letter
  pub fits : TestsTable (λ (p e : ℕ). p ≡ e) (count_up 97 26) letter_fits
  -- the totals are those of the readings by the rules loaded
  pub totals : (rules : List Production) (n : ℕ) → load 26 [] (rules_part input) ≡ taken rules n → TotalsMean (book 26 rules) letter_fits
