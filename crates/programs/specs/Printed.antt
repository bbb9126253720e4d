-- What the script program prints for a script.
use Rattle.std.specs.Prelude.{◌≡◌, ℕ, zero, suc, ◌<◌, ◌≤◌, Bool, cond, List, [], ◌∷◌, ◌++◌, length, take, drop, nat_lt, codes, decimal}
use Rattle.grammar.specs.Lists.{Mem, each, first_of, cuts}
use Rattle.grammar.specs.Productions.{Production, Book}
use Rattle.grammar.specs.Binarised.{Right, empty, binary, Binarised, Tree, null, fork, leaf}
use Rattle.grammar.specs.Binarise.{binarised}
use Rattle.grammar.specs.Nullable.{nullable_tree}
use Rattle.grammar.specs.Chains.{chosen_chain}
use Rattle.grammar.specs.Strict.{strict_rules_of}
use Rattle.grammar.specs.Taken.{chain_over, rule_fits, cut_fits}
use Rattle.grammar.specs.Nodes.{Node, tree_nodes}
use Rattle.grammar.specs.Answers.{Answer, none, number, refused, answer, limit}
use Rattle.grammar.specs.Weighings.{yes_no}
use Rattle.grammar.specs.Weights.{total_of}
use Rattle.book.specs.Fits.{table_fits, TestsTable}
use Rattle.book.specs.Loads.{LoadMeans}
use Rattle.book.specs.Offers.{book}
use Rattle.book.specs.Runs.{Call, an_offer, a_load, a_strike, held_after}
use Rattle.chart.specs.Readings.{ReadingIs}
use Rattle.chart.specs.Runs.{ChartCall, after, held_events}
use Rattle.replay.specs.Answers.{Saying, saying_text, book_answers, chart_answer}
use Rattle.programs.specs.Answers.{totals_words}
use Rattle.programs.specs.Output.{trace_totals, TotalsMean}
use Rattle.programs.specs.Scripts.{ChartLine, a_call, a_total, a_reading, Script}

-- The reading

-- what stands over the events w by rule n of x with this right side: one event, or two sides, cut at the first place that fits
abbrev pub over_right : {E : Type 0} → Binarised → (E → ℕ → Bool) → (ℕ → List E → Tree) → ℕ → ℕ → Right → List E → Tree
over_right B fits taken x n (binary a b) w = let c = first_of (cut_fits B fits a b) (w, []) (cuts w) in fork x n (taken a c.0) (taken b c.1)
over_right B fits taken x n _ w = leaf x n

-- the derivation of w, of at most k events, that is taken from x: by the first strict rule that fits, under its chosen chain
unfoldable pub taken_in : {E : Type 0} → Binarised → (E → ℕ → Bool) → ℕ → ℕ → List E → Tree
taken_in B fits zero x w = null x 0
taken_in B fits (suc k) x w =
    let r = first_of (rule_fits B fits w) (record { symbol = x; end = x; number = 0; right = empty }) (strict_rules_of B x) in
    chain_over B (chosen_chain B x r.end) (over_right B fits (taken_in B fits k) r.end r.number r.right w)

-- the nodes of the reading that is taken of these events, where there is one
abbrev pub taken_nodes : {E : Type 0} → Book → (E → ℕ → Bool) → List E → List Node
taken_nodes W fits [] = tree_nodes 0 (nullable_tree (binarised W) 0)
taken_nodes W fits (e ∷ w) = tree_nodes 0 (taken_in (binarised W) fits (length (e ∷ w)) 0 (e ∷ w))

-- what is answered over a table of n nodes
abbrev pub reading_says : {E : Type 0} → Book → (E → ℕ → Bool) → ℕ → List E → Answer
reading_says W fits n es = cond (total_of W yes_no fits es) (answer (taken_nodes W fits es) n) none

-- which nodes are written into it
abbrev pub reading_writes : {E : Type 0} → Book → (E → ℕ → Bool) → ℕ → List E → List Node
reading_writes W fits n es = cond (total_of W yes_no fits es) (take (limit n) (taken_nodes W fits es)) []

-- Lines

-- the line of a node
abbrev pub node_text : Node → List ℕ
node_text k = decimal k.rule ++ (32 ∷ (decimal k.first ++ (32 ∷ (decimal k.count ++ (10 ∷ [])))))

-- the lines of a reading: the answer, and the nodes that were written
abbrev pub reading_text : Answer → List Node → List ℕ
reading_text none ks = codes "none\n"
reading_text (number n) ks = codes "nodes " ++ (decimal n ++ (10 ∷ each node_text ks))
reading_text (refused n) ks = codes "refused " ++ (decimal n ++ (10 ∷ each node_text ks))

-- which nodes of a table stand there after an answer
abbrev pub standing : Answer → List Node → List Node
standing none t = []
standing (number n) t = take n t
standing (refused n) t = take 65535 t

-- the line of what a call is answered
abbrev pub answer_text : Saying → List ℕ
answer_text a = saying_text a ++ (10 ∷ [])

-- what is printed for a line of the chart where the events es are held, with tables of m weights and n nodes
abbrev pub line_text : {E : Type 0} → Book → (E → ℕ → Bool) → ℕ → ℕ → List E → ChartLine E → List ℕ
line_text W fits m n es (a_call c) = answer_text (chart_answer (binarised W).symbols m (length es) c)
line_text W fits m n es a_total = totals_words (trace_totals W fits es) ++ (10 ∷ [])
line_text W fits m n es a_reading = reading_text (reading_says W fits n es) (reading_writes W fits n es)

-- the events held after it
abbrev pub held_then : {E : Type 0} → Book → ℕ → List E → ChartLine E → List E
held_then W m es (a_call c) = after (binarised W).symbols m es c
held_then W m es a_total = es
held_then W m es a_reading = es

-- what is printed for lines of the chart in turn
abbrev pub lines_text : {E : Type 0} → Book → (E → ℕ → Bool) → ℕ → ℕ → List E → List (ChartLine E) → List ℕ
lines_text W fits m n es [] = []
lines_text W fits m n es (l ∷ ls) = line_text W fits m n es l ++ lines_text W fits m n (held_then W m es l) ls

-- the calls among lines of the chart
abbrev pub calls_in : {E : Type 0} → List (ChartLine E) → List (ChartCall E)
calls_in [] = []
calls_in (a_call c ∷ ls) = c ∷ calls_in ls
calls_in (a_total ∷ ls) = calls_in ls
calls_in (a_reading ∷ ls) = calls_in ls

-- the book of a script: the rules held after its calls
abbrev pub script_book : {P E : Type 0} → Script P E → Book
script_book s = book (length s.patterns) (held_after (length s.patterns) s.book)

-- which of its patterns fits an event
abbrev pub script_fits : {P E : Type 0} → (P → E → Bool) → Script P E → E → ℕ → Bool
script_fits test s = table_fits test s.patterns

-- the answers of its book's calls
abbrev pub script_answers : {P E : Type 0} → Script P E → List ℕ
script_answers s = each answer_text (book_answers (length s.patterns) [] s.book)

-- what is printed for lines of its chart from where the events es are held
abbrev pub script_lines : {P E : Type 0} → (P → E → Bool) → Script P E → List E → List (ChartLine E) → List ℕ
script_lines test s es ls = lines_text (script_book s) (script_fits test s) s.weights s.nodes es ls

-- what is printed for a script: the answers of the book's calls, and then the lines of the chart
unfoldable pub script_print : {P E : Type 0} → (P → E → Bool) → Script P E → List ℕ
script_print test s = cond (nat_lt 32 (length s.patterns)) (codes "refused 8\n") (script_answers s ++ script_lines test s [] s.chart)

-- Laws

-- an offer's cost has 16 bits
abbrev pub Cheap : Call → Type 0
Cheap (an_offer head items cost) = cost ≤ 65535
Cheap (a_load text) = Unit {0}
Cheap a_strike = Unit {0}

abbrev pub AllCheap : List Call → Type 0
AllCheap calls = (c : Call) → Mem c calls → Cheap c

-- the events held after the calls among lines of the chart
abbrev pub script_held : {P E : Type 0} → Script P E → List (ChartLine E) → List E
script_held s ls = held_events (binarised (script_book s)).symbols s.weights (calls_in ls)

-- what is meant by what is printed for a script
pub record PrintMeans {P E : Type 0} (fits : P → E → Type 0) (test : P → E → Bool) (s : Script P E) : Type 0 where
  -- more than 32 patterns are refused, and nothing else is printed
  pub table : 32 < length s.patterns → script_print test s ≡ codes "refused 8\n"
  -- a number of a pattern fits an event exactly if there is a pattern of this number, and it fits
  pub tests : TestsTable fits s.patterns (script_fits test s)
  -- the rules of each load are loaded line by line, whatever rules are held
  pub loads : length s.patterns ≤ 32 → (rules : List Production) (text : List ℕ) → LoadMeans (length s.patterns) rules text
  -- what is printed for a line of the chart is that of the events held after the calls before it
  pub lines : length s.patterns ≤ 32 → (front back : List (ChartLine E)) (l : ChartLine E) → s.chart ≡ front ++ (l ∷ back)
      → script_print test s ≡ (script_answers s ++ script_lines test s [] front) ++ (line_text (script_book s) (script_fits test s) s.weights s.nodes (script_held s front) l
      ++ script_lines test s (held_then (script_book s) s.weights (script_held s front) l) back)
  -- whatever events are held, their totals are those of the readings by the book
  pub totals : length s.patterns ≤ 32 → TotalsMean (script_book s) (script_fits test s)
  -- and the reading is the one that is taken of them: none exactly if there is none, else its nodes, as many as the table takes
  pub readings : length s.patterns ≤ 32 → (es : List E) (t : List Node) → ReadingIs (script_book s) (script_fits test s) es t (reading_says (script_book s) (script_fits test s) (length t) es)
      (reading_writes (script_book s) (script_fits test s) (length t) es ++ drop (length (reading_writes (script_book s) (script_fits test s) (length t) es)) t)
