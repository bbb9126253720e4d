-- What the lines of a script say.
use Rattle.std.specs.Prelude.{ℕ, suc, Bool, true, cond, ◌&&◌, List, [], ◌∷◌, ◌++◌, drop, length, Some, None, Ok, Err, Option, Result, option_map, ok_or, ◌==◌, codes}
use Rattle.std.specs.Option.{option_map_or}
use Rattle.grammar.specs.Lists.{same_numbers}
use Rattle.text.specs.Words.{Piece, words}
use Rattle.book.specs.Runs.{Call, an_offer, a_load, a_strike}
use Rattle.chart.specs.Runs.{a_feed, a_withdraw}
use Rattle.programs.specs.Scripts.{ChartLine, a_call, a_total, a_reading, Script}
use Rattle.programs.specs.Spelling.{Spelling, word_texts, by_number, only, numbers_said}
use Rattle.programs.specs.declared.script.fault.Cause.{Cause}
use Rattle.programs.specs.declared.script.fault.Cause.TheVariants.{UnknownLine, OtherWords, OutOfPlace, NoEnd}
use Rattle.programs.specs.declared.script.said.First.{First}
use Rattle.programs.specs.declared.script.said.First.TheVariants.{Patterns, Offer, Load, Strike, Weights, Nodes, Feed, Withdraw, Total, Reading}

-- One line

-- what a line says: patterns more, a call of the book, the beginning of a load whose rules are the lines that follow, the size of the tables
-- of weights or of the table of nodes, or a line of the chart
pub data Item (P E : Type 0) : Type 0 where
  patterns : List P → Item P E
  a_book_call : Call → Item P E
  rules_follow : Item P E
  weights : ℕ → Item P E
  nodes : ℕ → Item P E
  a_chart_line : ChartLine E → Item P E

-- what a line is that begins with the word w, where lines of patterns begin with a name
unfoldable pub first_of : List ℕ → List ℕ → Option First
first_of name w =
    cond (same_numbers w name) (Some Patterns) (
    cond (same_numbers w (codes "offer")) (Some Offer) (
    cond (same_numbers w (codes "load")) (Some Load) (
    cond (same_numbers w (codes "strike")) (Some Strike) (
    cond (same_numbers w (codes "weights")) (Some Weights) (
    cond (same_numbers w (codes "nodes")) (Some Nodes) (
    cond (same_numbers w (codes "feed")) (Some Feed) (
    cond (same_numbers w (codes "withdraw")) (Some Withdraw) (
    cond (same_numbers w (codes "total")) (Some Total) (
    cond (same_numbers w (codes "reading")) (Some Reading) None)))))))))

-- the one number that words say
abbrev pub one_number : ℕ → List (List ℕ) → Option ℕ
one_number limit ws = by_number limit only ws

-- the offer that words say: a head, a cost and items
abbrev pub offer_said : List (List ℕ) → Option Call
offer_said ws = by_number 255 (λ head. by_number 65535 (λ cost vs. option_map (λ items. an_offer head items cost) (numbers_said 255 vs))) ws

-- the load that the words behind the first say: the text from the first of them on, or the rules that follow
abbrev pub load_said : {P E : Type 0} → List ℕ → List Piece → Item P E
load_said text [] = rules_follow
load_said text (v ∷ vs) = a_book_call (a_load (drop v.place text))

-- what the words behind the first say in a line of this kind that ends the text, if they are those that it wants
abbrev pub item_said : {P E : Type 0} → Spelling P E → First → List ℕ → List Piece → Option (Item P E)
item_said S Patterns text vs = option_map patterns (S.patterns (word_texts vs))
item_said S Offer text vs = option_map a_book_call (offer_said (word_texts vs))
item_said S Load text vs = Some (load_said text vs)
item_said S Strike text vs = only (a_book_call a_strike) (word_texts vs)
item_said S Weights text vs = option_map weights (one_number 4210688 (word_texts vs))
item_said S Nodes text vs = option_map nodes (one_number 65536 (word_texts vs))
item_said S Feed text vs = option_map (λ e. a_chart_line (a_call (a_feed e))) (S.event (word_texts vs))
item_said S Withdraw text vs = option_map (λ k. a_chart_line (a_call (a_withdraw k))) (one_number 4294967295 (word_texts vs))
item_said S Total text vs = only (a_chart_line a_total) (word_texts vs)
item_said S Reading text vs = only (a_chart_line a_reading) (word_texts vs)

-- what these words at the end of the text say in a line of this kind, or why they say nothing
abbrev pub kind_said : {P E : Type 0} → Spelling P E → Option First → List ℕ → List Piece → Result (Option (Item P E)) Cause
kind_said S None text vs = Err UnknownLine
kind_said S (Some first) text vs = ok_or (option_map Some (item_said S first text vs)) OtherWords

-- what the words at the end of the text say: nothing where there is none
abbrev pub words_say : {P E : Type 0} → Spelling P E → List ℕ → List Piece → Result (Option (Item P E)) Cause
words_say S text [] = Ok None
words_say S text (v ∷ vs) = kind_said S (first_of S.name v.bytes) text vs

-- what a line says
unfoldable pub line_said : {P E : Type 0} → Spelling P E → List ℕ → Result (Option (Item P E)) Cause
line_said S w = words_say S w (words 0 w)

-- Line by line

-- a script of which nothing is said yet
abbrev pub nothing_said : {P E : Type 0} → Script P E
nothing_said = record { patterns = []; book = []; weights = 0; nodes = 0; chart = [] }

-- what the lines read so far say, and the rules of a load whose end is still to come
pub record ReadSoFar (P E : Type 0) : Type 0 where
  pub script : Script P E
  pub rules : Option (List ℕ)

abbrev pub so_far : {P E : Type 0} → Script P E → Option (List ℕ) → ReadSoFar P E
so_far s r = record { script = s; rules = r }

-- a line may say this behind the lines of this script: patterns come before the book's calls, and these and the sizes before the chart's lines
abbrev pub may_come : {P E : Type 0} → Script P E → Item P E → Bool
may_come s (patterns ps) = length s.book == 0 && length s.chart == 0
may_come s (a_chart_line l) = true
may_come s _ = length s.chart == 0

-- the script with what one line more says
abbrev pub with_item : {P E : Type 0} → Script P E → Item P E → Script P E
with_item s (patterns ps) = record s { patterns = s.patterns ++ ps }
with_item s (a_book_call c) = record s { book = s.book ++ (c ∷ []) }
with_item s rules_follow = s
with_item s (weights n) = record s { weights = n }
with_item s (nodes n) = record s { nodes = n }
with_item s (a_chart_line l) = record s { chart = s.chart ++ (l ∷ []) }

-- the rules that follow
abbrev pub rules_of : {P E : Type 0} → Item P E → Option (List ℕ)
rules_of rules_follow = Some []
rules_of _ = None

-- behind a line that says this
abbrev pub behind_said : {P E : Type 0} → Script P E → Result (Option (Item P E)) Cause → Result (ReadSoFar P E) Cause
behind_said s (Ok None) = Ok (so_far s None)
behind_said s (Ok (Some i)) = cond (may_come s i) (Ok (so_far (with_item s i) (rules_of i))) (Err OutOfPlace)
behind_said s (Err c) = Err c

-- the line is end alone
abbrev pub is_end : List ℕ → Bool
is_end w = same_numbers w (codes "end")

-- behind a line of a load's rules, or their end
abbrev pub behind_rules : {P E : Type 0} → Script P E → List ℕ → List ℕ → ReadSoFar P E
behind_rules s rules w = cond (is_end w) (so_far (with_item s (a_book_call (a_load rules))) None) (so_far s (Some (rules ++ (w ++ (10 ∷ [])))))

-- behind a line
abbrev pub behind_line : {P E : Type 0} → Spelling P E → ReadSoFar P E → List ℕ → Result (ReadSoFar P E) Cause
behind_line S r w = option_map_or (λ rules. Ok (behind_rules r.script rules w)) r.rules (behind_said r.script (line_said S w))

-- behind the last line, where the one after it has the number n: the script, or the number and the cause of a fault
abbrev pub at_end : {P E : Type 0} → ℕ → ReadSoFar P E → Result (Script P E) (ℕ × Cause)
at_end n r = option_map_or (λ _. Err (n, NoEnd)) r.rules (Ok r.script)

-- what is read goes on, unless the line of this number has a fault
abbrev pub go_on : {P E : Type 0} → ℕ → Result (ReadSoFar P E) Cause → (ReadSoFar P E → Result (Script P E) (ℕ × Cause)) → Result (Script P E) (ℕ × Cause)
go_on n (Ok r) f = f r
go_on n (Err c) f = Err (n, c)

-- the script that the lines from the one of this number on say behind what was read before
unfoldable pub read_on : {P E : Type 0} → Spelling P E → ℕ → ReadSoFar P E → List (List ℕ) → Result (Script P E) (ℕ × Cause)
read_on S n r [] = at_end n r
read_on S n r (w ∷ ws) = go_on n (behind_line S r w) (λ next. read_on S (suc n) next ws)

-- the script that lines say, the first of this number; or the first line with a fault, by its number, and the cause
abbrev pub read : {P E : Type 0} → Spelling P E → ℕ → List (List ℕ) → Result (Script P E) (ℕ × Cause)
read S n ws = read_on S n (so_far nothing_said None) ws
