-- What is promised of a book: of its binarised and its strict rules, its chart, its readings. Functions of this crate promise it of every book.
use Rattle.std.specs.Prelude.{◌≡◌, ℕ, zero, suc, ◌+◌, ◌-◌, ◌<◌, ◌≤◌, min, Bool, true, false, ◌⊎◌, ◌↔◌, List, [], ◌∷◌, ◌++◌, length, nat_eq, slice_index_or}
use Rattle.grammar.specs.Lists.{span, count_up, Mem, Sorted, those, Cut, cuts}
use Rattle.grammar.specs.{Semiring.Ops, Semiring.sum, Chains.IsChosen, Chains.ChainStep, Chains.UnitChain, Chains.chosen_chain}
use Rattle.grammar.specs.Productions.{Production, all_tails, Book, offered, Numbers, production, SameRule, Sound}
use Rattle.grammar.specs.Binarised.{Right, empty, Binarised, Has, Tree, Derives, Bounded}
use Rattle.grammar.specs.Nullable.{BringsIn, nullable_after, nullable, Comes, rule_tree, nullable_tree}
use Rattle.grammar.specs.{Weighings.yes_no, Weighings.counts, Cells.terminal_fits, Cells.is_binary, Cells.sides, Taken.yes_cell}
use Rattle.grammar.specs.Strict.{StrictFormRule, proper, strict_rules_of, strict_rules, Before}
use Rattle.grammar.specs.{Readings.Reading, Readings.Reads, Nodes.Node, Nodes.nodes, Nodes.events, Nodes.Span}
use Rattle.grammar.specs.Binarise.{binarise, binarised, Within, Admitted}
use Rattle.grammar.specs.Weights.{reading_weight, reading_cost, strict_weight_of, cell_of, total_of}
use Rattle.grammar.specs.PlainReadings.{PlainReading, PlainList, WholeList, Unread}
use Rattle.grammar.specs.Answers.{filled, number, refused, answer, Taken, Answer, Answers}
use Rattle.grammar.specs.Grammars.{IsGrammar, nonterminal, letter, Generates, InStrictForm, book_grammar, binarised_grammar, strict_grammar}

-- the three grammars of a book have productions of their own symbols alone
pub record Grammars (W : Book) : Type 0 where
  pub written : IsGrammar (book_grammar W)
  pub binary : IsGrammar (binarised_grammar W)
  pub strict : IsGrammar (strict_grammar W)

-- rewriting and derivation trees: a nonterminal is rewritten to letters that the events fit exactly if a tree derives them from it
pub record Rewriting (W : Book) {E : Type 0} (fits : E → ℕ → Bool) : Type 0 where
  pub written : (x : ℕ) (w : List E) → Generates (book_grammar W) fits x w ↔ ((r : Reading) × Reads W fits x r w)
  pub binary : (x : ℕ) (w : List E) → Generates (binarised_grammar W) fits x w ↔ ((s : Tree) × Derives (binarised W) fits x s w)

-- at most 160 rules of at most 128 symbols; each is a rule of one of these, made of them and of the patterns; those of one symbol by number
pub record Formed (W : Book) : Type 0 where
  pub lefts : Bounded (binarised W)
  pub rights : (x n : ℕ) (b : Right) → Has (binarised W) x n b → Within (binarised W).symbols W.patterns b
  pub by_number : Sorted (λ r q. q.left ≡ r.left → r.number < q.number) (binarised W).rules
  pub few_rules : length (binarised W).rules ≤ 160
  pub few_symbols : (binarised W).symbols ≤ 128

-- a production within the bounds leaves a book sound, and so does its strike, which leaves no new strict rule; those before it stay, by number
pub record OneMore (W : Book) (p : Production) : Type 0 where
  pub stays_sound : Sound W → p.head < 32 → length p.right ≤ 8 → ((y : ℕ) → Mem y p.right → y < 32 + W.patterns) → p.cost ≤ 65535
      → ((q : Production) → Mem q W.productions → SameRule q p → ⊥)
      → length W.productions < 64 → all_tails (W.productions ++ (p ∷ [])) ≤ 64 → Sound (offered W p)
  pub struck_sound : Sound (offered W p) → Sound W
  pub before : (n : ℕ) → Numbers W n → production (offered W p) n ≡ production W n
  pub last : production (offered W p) (length W.productions) ≡ p
  pub strict_stay : Sound (offered W p) → (r : StrictFormRule) → Mem r (strict_rules (binarised W)) → Mem r (strict_rules (binarised (offered W p)))
  pub struck_fits : Admitted (offered W p) → Admitted W

-- the readings of w from the head x, and the derivation trees of binarised rules over w from x, are one to one by the binarised form
pub record Bijection (W : Book) {E : Type 0} (fits : E → ℕ → Bool) (x : ℕ) (w : List E) : Type 0 where
  pub derives : (r : Reading) → Reads W fits x r w → Derives (binarised W) fits x (binarise W r) w
  pub onto : (s : Tree) → Derives (binarised W) fits x s w → (r : Reading) × Reads W fits x r w × (binarise W r ≡ s)
  pub into : (r q : Reading) → Reads W fits x r w → Reads W fits x q w → binarise W r ≡ binarise W q → r ≡ q

-- the first round finds the symbols with an empty rule, each further one those that come by what is found; a symbol is nullable if one finds it
pub record Rounds (B : Binarised) (x : ℕ) : Type 0 where
  pub first : (nullable_after B 1 x ≡ true) ↔ ((n : ℕ) × Has B x n empty)
  pub further : (k : ℕ) → (nullable_after B (suc (suc k)) x ≡ true) ↔ Comes B (nullable_after B (suc k)) x
  pub all : (nullable B x ≡ true) ↔ ((k : ℕ) × (nullable_after B k x ≡ true))

-- of x, not found in k rounds but in one more: one rule brings it in, and its chosen tree is that rule over the chosen trees of its right side
pub record ChosenRule (B : Binarised) (k x : ℕ) : Type 0 where
  pub number : ℕ
  pub right : Right
  pub brings_in : BringsIn B k x number right
  pub only : (n : ℕ) (b : Right) → BringsIn B k x n b → (n ≡ number) × (b ≡ right)
  pub tree : nullable_tree B x ≡ rule_tree (nullable_tree B) x number right

-- where a unit chain leads from x to y, one is chosen, and only one
pub record TheChosenChain (B : Binarised) (x y : ℕ) : Type 0 where
  pub is_chosen : IsChosen B y (λ z. chosen_chain B z y) x (chosen_chain B x y)
  pub only : (c : List ChainStep) → IsChosen B y (λ z. chosen_chain B z y) x c → c ≡ chosen_chain B x y

-- r is a strict rule: a unit chain leads from its symbol to its end, and its number and right side are a binary or terminal rule there
pub record IsStrict (B : Binarised) (r : StrictFormRule) : Type 0 where
  pub a_symbol : r.symbol < B.symbols
  pub reaches : (c : List ChainStep) × UnitChain B r.symbol c r.end
  pub is_rule : Has B r.end r.number r.right
  pub is_proper : proper r.right ≡ true

-- the list holds exactly the strict rules, ascending by symbol, then end, then number, so each once
pub record StrictList (B : Binarised) (rs : List StrictFormRule) : Type 0 where
  pub exactly : (r : StrictFormRule) → Mem r rs ↔ IsStrict B r
  pub ascending : Sorted Before rs

-- the strict rules are such a list, and the only one
pub record TheStrictList (B : Binarised) : Type 0 where
  pub is_list : StrictList B (strict_rules B)
  pub only : (rs : List StrictFormRule) → StrictList B rs → rs ≡ strict_rules B

-- the grammar of the strict rules is in strict Chomsky form; its language is the binarised rules', and of a head the book's, less the empty trace
pub record StrictLanguage (W : Book) {E : Type 0} (fits : E → ℕ → Bool) : Type 0 where
  pub in_form : InStrictForm (strict_grammar W)
  pub of_symbol : (x : ℕ) (w : List E) → Generates (strict_grammar W) fits x w ↔ ((0 < length w) × Generates (binarised_grammar W) fits x w)
  pub of_head : (x : ℕ) (w : List E) → x < 32 → Generates (strict_grammar W) fits x w ↔ ((0 < length w) × Generates (book_grammar W) fits x w)
  pub never_empty : (x : ℕ) → Generates (strict_grammar W) fits x [] → ⊥
  pub empty_trace : (x : ℕ) → x < 32 → (nullable (binarised W) x ≡ true) ↔ Generates (book_grammar W) fits x []

-- over one event a cell is the sum of the weights of the strict terminal rules that fit; over more events the sum, over the strict binary
-- rules and all cuts, of rule weight times left cell times right cell
pub record Equations (W : Book) {V : Type 0} (M : Ops V) {E : Type 0} (fits : E → ℕ → Bool) (x : ℕ) : Type 0 where
  pub one_event : (e : E) → cell_of W M fits x (e ∷ [])
      ≡ sum M (strict_weight_of W M) (those (λ (r : StrictFormRule). terminal_fits fits e r.right) (strict_rules_of (binarised W) x))
  pub more_events : (e f : E) (w : List E) → cell_of W M fits x (e ∷ f ∷ w)
      ≡ sum M (λ (r : StrictFormRule). sum M (λ (c : Cut E). M.times (strict_weight_of W M r)
      (M.times (cell_of W M fits (sides r.right).0 c.0) (cell_of W M fits (sides r.right).1 c.1))) (cuts (e ∷ f ∷ w)))
      (those (λ (r : StrictFormRule). is_binary r.right) (strict_rules_of (binarised W) x))

-- the same of the l events of ev from place i on; events that come after do not alter a cell, and the strict rules of x are those of its symbol
pub record ByPlace (W : Book) {V : Type 0} (M : Ops V) {E : Type 0} (fits : E → ℕ → Bool) (ev : List E) (x i : ℕ) : Type 0 where
  pub one_event : (d : E) → i < length ev → cell_of W M fits x (span ev i 1)
      ≡ sum M (strict_weight_of W M) (those (λ (r : StrictFormRule). terminal_fits fits (slice_index_or ev i d) r.right) (strict_rules_of (binarised W) x))
  pub more_events : (l : ℕ) → 1 < l → i + l ≤ length ev → cell_of W M fits x (span ev i l)
      ≡ sum M (λ (r : StrictFormRule). sum M (λ m. M.times (strict_weight_of W M r)
      (M.times (cell_of W M fits (sides r.right).0 (span ev i m)) (cell_of W M fits (sides r.right).1 (span ev (i + m) (l - m))))) (count_up 1 (l - 1)))
      (those (λ (r : StrictFormRule). is_binary r.right) (strict_rules_of (binarised W) x))
  pub events_after : (later : List E) (l : ℕ) → i + l ≤ length ev → cell_of W M fits x (span (ev ++ later) i l) ≡ cell_of W M fits x (span ev i l)
  pub of_symbol : x < (binarised W).symbols → those (λ (r : StrictFormRule). nat_eq r.symbol x) (strict_rules (binarised W)) ≡ strict_rules_of (binarised W) x

-- the yes/no cell of a symbol says yes exactly if the strict rules rewrite it to the events; it is the one by which the reading is taken
pub record YesCells (W : Book) {E : Type 0} (fits : E → ℕ → Bool) (x : ℕ) (w : List E) : Type 0 where
  pub says_yes : (cell_of W yes_no fits x w ≡ true) ↔ Generates (strict_grammar W) fits x w
  pub same : cell_of W yes_no fits x w ≡ yes_cell (binarised W) fits x w

-- the yes/no cells are the sets of the Cocke-Younger-Kasami chart of the strict grammar: over one event the symbols with a production to a
-- terminal that it fits, over more those with a production to two nonterminals that are in the cells of the two parts of a cut
pub record CellSets (W : Book) {E : Type 0} (fits : E → ℕ → Bool) (x : ℕ) : Type 0 where
  pub one_event : (e : E) → (cell_of W yes_no fits x (e ∷ []) ≡ true)
      ↔ ((t : ℕ) × Mem (x, letter t ∷ []) (strict_grammar W).productions × (fits e t ≡ true))
  pub more_events : (w : List E) → 1 < length w → (cell_of W yes_no fits x w ≡ true)
      ↔ ((y : ℕ) × ((z : ℕ) × ((c : Cut E) × Mem (x, nonterminal y ∷ nonterminal z ∷ []) (strict_grammar W).productions × Mem c (cuts w)
      × (cell_of W yes_no fits y c.0 ≡ true) × (cell_of W yes_no fits z c.1 ≡ true))))

-- the total is the sum of the weights of the plain readings, in whatever list they stand once each; and they do stand in one
pub record PlainSum (W : Book) {V : Type 0} (M : Ops V) {E : Type 0} (fits : E → ℕ → Bool) (w : List E) : Type 0 where
  pub listed : (rs : List Reading) × PlainList W fits 0 w rs
  pub is_sum : (rs : List Reading) → PlainList W fits 0 w rs → total_of W M fits w ≡ sum M (reading_weight W M) rs

-- without productions of nothing and of a single head every reading is plain, and the total is the sum over all readings
pub record WholeSum (W : Book) {V : Type 0} (M : Ops V) {E : Type 0} (fits : E → ℕ → Bool) (w : List E) : Type 0 where
  pub all_plain : (r : Reading) → Reads W fits 0 r w → PlainReading W fits 0 w r
  pub listed : (rs : List Reading) × WholeList W fits 0 w rs
  pub is_sum : (rs : List Reading) → WholeList W fits 0 w rs → total_of W M fits w ≡ sum M (reading_weight W M) rs

-- yes exactly if there is a reading; the count is the number of plain readings, held at C, and 0 exactly if there is none
pub record Counted (W : Book) {E : Type 0} (fits : E → ℕ → Bool) (C : ℕ) (w : List E) : Type 0 where
  pub says_yes : (total_of W yes_no fits w ≡ true) ↔ ((r : Reading) × Reads W fits 0 r w)
  pub says_no : (total_of W yes_no fits w ≡ false) ↔ Unread W fits w
  pub count : (rs : List Reading) → PlainList W fits 0 w rs → total_of W (counts C) fits w ≡ min (length rs) C
  pub count_none : (total_of W (counts C) fits w ≡ 0) ↔ Unread W fits w
  pub some_plain : ((r : Reading) × Reads W fits 0 r w) → ((r : Reading) × PlainReading W fits 0 w r)

-- m is the least cost of w, held at C: at most C and the cost of each plain reading, and C or the cost of one
pub record Least (W : Book) {E : Type 0} (fits : E → ℕ → Bool) (C : ℕ) (w : List E) (m : ℕ) : Type 0 where
  pub held : m ≤ C
  pub below_all : (r : Reading) → PlainReading W fits 0 w r → m ≤ reading_cost W (nodes 0 r)
  pub met : (m ≡ C) ⊎ ((r : Reading) × PlainReading W fits 0 w r × (reading_cost W (nodes 0 r) ≡ m))

-- a map of values that keeps all operations, and the weights of the costs that there are, keeps every cell and every total
pub record Carried {V U : Type 0} (M : Ops V) (N : Ops U) (f : V → U) (W : Book) {E : Type 0} (fits : E → ℕ → Bool) : Type 0 where
  pub cells : (x : ℕ) (w : List E) → f (cell_of W M fits x w) ≡ cell_of W N fits x w
  pub totals : (w : List E) → f (total_of W M fits w) ≡ total_of W N fits w

-- a reading has as many events as it derives, each of its nodes stands over its part of them, and its nodes tell it from all others
pub record NodeList (W : Book) {E : Type 0} (fits : E → ℕ → Bool) (x : ℕ) (r : Reading) (w : List E) : Type 0 where
  pub many : events r ≡ length w
  pub spans : (k : Node) → Mem k (nodes zero r) → Span W fits w zero k × (k.first + k.count ≤ length w)
  pub tells : (q : Reading) → Reads W fits x q w → nodes zero r ≡ nodes zero q → r ≡ q

-- where there is a reading one is taken, it is plain, and it is the only one
pub record TakesExactly (W : Book) {E : Type 0} (fits : E → ℕ → Bool) (w : List E) : Type 0 where
  pub one : ((r : Reading) × Taken W fits r w) ↔ ((r : Reading) × Reads W fits 0 r w)
  pub is_plain : (r : Reading) → Taken W fits r w → PlainReading W fits 0 w r
  pub only : (r q : Reading) → Taken W fits r w → Taken W fits q w → r ≡ q

-- the call for the reading has exactly one answer, and leaves exactly one table
pub record Answered (W : Book) {E : Type 0} (fits : E → ℕ → Bool) (w : List E) (t : List Node) : Type 0 where
  pub answer : Answer
  pub left : List Node
  pub answers : Answers W fits w t answer left
  pub only : (a : Answer) (t' : List Node) → Answers W fits w t a t' → (a ≡ answer) × (t' ≡ left)

-- a table t after the nodes ks: its first places hold as many as it takes, the others what they held; the answer is how many, or a refusal
pub record TableAfter (ks t : List Node) : Type 0 where
  pub same_length : length (filled ks t) ≡ length t
  pub written : (k : ℕ) (d : Node) → k < length ks → k < 65535 → k < length t → slice_index_or (filled ks t) k d ≡ slice_index_or ks k d
  pub as_before : (k : ℕ) (d : Node) → (length ks ≤ k) ⊎ (65535 ≤ k) → slice_index_or (filled ks t) k d ≡ slice_index_or t k d
  pub is_number : length ks ≤ 65535 → length ks ≤ length t → answer ks (length t) ≡ number (length ks)
  pub is_refused : (65535 < length ks) ⊎ (length t < length ks) → answer ks (length t) ≡ refused 13
