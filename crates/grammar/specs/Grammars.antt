-- Context-free grammars: rewriting, the language of a nonterminal, strict Chomsky form; and the grammars of a book.
use Rattle.std.specs.Prelude.{◌≡◌, ℕ, ◌-◌, ◌<◌, Bool, true, cond, ◌⊎◌, List, [], ◌∷◌, ◌++◌, map, nat_lt}
use Rattle.std.specs.List.{AllZip}
use Rattle.grammar.specs.{Lists.Mem, Productions.Production, Productions.Book, Strict.strict_form, Binarise.binarised}
use Rattle.grammar.specs.Binarised.{Right, empty, unit, binary, terminal, Rule, Binarised}

-- a symbol of a grammar: a nonterminal, or a letter, which is a terminal
pub data Symbol : Type 0 where
  nonterminal : ℕ → Symbol
  letter : ℕ → Symbol

-- a grammar: how many nonterminals and terminals it has, each numbered from 0; its productions, from a nonterminal to symbols
pub record Grammar : Type 0 where
  pub nonterminals : ℕ
  pub terminals : ℕ
  pub productions : List (ℕ × List Symbol)

-- the symbol is one of the grammar's
abbrev pub Belongs : Grammar → Symbol → Type 0
Belongs G (nonterminal y) = y < G.nonterminals
Belongs G (letter t) = t < G.terminals

-- the productions are made of the grammar's own symbols
abbrev pub IsGrammar : Grammar → Type 0
IsGrammar G = (x : ℕ) (α : List Symbol) → Mem (x, α) G.productions → (x < G.nonterminals) × ((s : Symbol) → Mem s α → Belongs G s)

-- one step of rewriting: a nonterminal of α gives way to the right side of one of its productions, which makes β
pub record Step (G : Grammar) (α β : List Symbol) : Type 0 where
  pub before : List Symbol
  pub left : ℕ
  pub right : List Symbol
  pub after : List Symbol
  pub production : Mem (left, right) G.productions
  pub from : α ≡ before ++ (nonterminal left ∷ after)
  pub to : β ≡ before ++ (right ++ after)

-- any number of steps
pub data Steps (G : Grammar) : List Symbol → List Symbol → Type 0 where
  no_step : {α : List Symbol} → Steps G α α
  steps_on : {α β γ : List Symbol} → Step G α β → Steps G β γ → Steps G α γ

-- the events w fit the letters, one for one: e fits letter t if it fits pattern t
abbrev pub Fit : {E : Type 0} → (E → ℕ → Bool) → List ℕ → List E → Type 0
Fit fits ts w = AllZip (λ t e. fits e t ≡ true) ts w

-- the events w are in the language of the nonterminal x: it is rewritten to letters that they fit
pub record Generates (G : Grammar) {E : Type 0} (fits : E → ℕ → Bool) (x : ℕ) (w : List E) : Type 0 where
  pub word : List ℕ
  pub rewritten : Steps G (nonterminal x ∷ []) (map letter word)
  pub fit : Fit fits word w

abbrev pub TwoNonterminals : Grammar → List Symbol → Type 0
TwoNonterminals G α = (y : ℕ) × ((z : ℕ) × (y < G.nonterminals) × (z < G.nonterminals) × (α ≡ nonterminal y ∷ nonterminal z ∷ []))

abbrev pub OneTerminal : Grammar → List Symbol → Type 0
OneTerminal G α = (t : ℕ) × (t < G.terminals) × (α ≡ letter t ∷ [])

-- strict Chomsky form: each production is from a nonterminal to two nonterminals or to one terminal
abbrev pub InStrictForm : Grammar → Type 0
InStrictForm G = (x : ℕ) (α : List Symbol) → Mem (x, α) G.productions → (x < G.nonterminals) × (TwoNonterminals G α ⊎ OneTerminal G α)

-- an item of a right side: below 32 that head, 32 + t letter t
abbrev pub item_symbol : ℕ → Symbol
item_symbol y = cond (nat_lt y 32) (nonterminal y) (letter (y - 32))

-- the grammar of a book as it is written: 32 heads, its patterns, its productions
abbrev pub book_grammar : Book → Grammar
book_grammar W = record { nonterminals = 32; terminals = W.patterns; productions = map (λ (p : Production). (p.head, map item_symbol p.right)) W.productions }

abbrev pub right_symbols : Right → List Symbol
right_symbols empty = []
right_symbols (unit y) = nonterminal y ∷ []
right_symbols (binary y z) = nonterminal y ∷ nonterminal z ∷ []
right_symbols (terminal t) = letter t ∷ []

-- the grammar of rules with T terminals
abbrev pub rules_grammar : ℕ → Binarised → Grammar
rules_grammar T B = record { nonterminals = B.symbols; terminals = T; productions = map (λ (r : Rule). (r.left, right_symbols r.right)) B.rules }

abbrev pub binarised_grammar : Book → Grammar
binarised_grammar W = rules_grammar W.patterns (binarised W)

abbrev pub strict_grammar : Book → Grammar
strict_grammar W = rules_grammar W.patterns (strict_form (binarised W))
