-- What each call is answered, from the calls' arguments alone.
use Rattle.std.specs.Prelude.{ℕ, ◌+◌, ◌-◌, cond, List, [], ◌∷◌, ◌++◌, length, Ok, Err, ◌==◌, codes, decimal}
use Rattle.grammar.specs.Productions.{Production}
use Rattle.conversion.specs.Rows.{written}
use Rattle.book.specs.Faults.{offer_number, load_number, load_place, strike_number}
use Rattle.book.specs.Offers.{refusal}
use Rattle.book.specs.Loads.{Load, taken, stopped, load}
use Rattle.book.specs.Strikes.{all_but_last, strike_refusal}
use Rattle.book.specs.Runs.{Call, an_offer, a_load, a_strike, after}
use Rattle.chart.specs.Faults.{feed_number, withdraw_number}
use Rattle.chart.specs.Feeds.{feed_refusal, withdraw_refusal}
use Rattle.chart.specs.Runs.{ChartCall, a_feed, a_withdraw, after as events_after}
use Rattle.replay.specs.declared.answer.Answer.{Answer}
use Rattle.replay.specs.declared.answer.Answer.TheVariants.{Offered, Loaded, Struck, Fed, Withdrawn}

-- what an answer says: a number; the number of a refusal; the number and the byte place of one
pub data Saying : Type 0 where
  says : ℕ → Saying
  refused : ℕ → Saying
  stopped_at : ℕ → ℕ → Saying

-- what is said by the answer to a call
abbrev pub said : Answer → Saying
said (Offered (Ok n)) = says n
said (Offered (Err f)) = refused (offer_number f)
said (Loaded (Ok n)) = says n
said (Loaded (Err f)) = stopped_at (load_number f) (load_place f)
said (Struck (Ok n)) = says n
said (Struck (Err f)) = refused (strike_number f)
said (Fed (Ok n)) = says n
said (Fed (Err f)) = refused (feed_number f)
said (Withdrawn (Ok n)) = says n
said (Withdrawn (Err f)) = refused (withdraw_number f)

-- the kinds of calls
pub data Kind : Type 0 where
  offering loading striking feeding withdrawing : Kind

-- of which kind of call an answer is
abbrev pub answer_kind : Answer → Kind
answer_kind (Offered r) = offering
answer_kind (Loaded r) = loading
answer_kind (Struck r) = striking
answer_kind (Fed r) = feeding
answer_kind (Withdrawn r) = withdrawing

-- of which kind a call on a book is
abbrev pub book_kind : Call → Kind
book_kind (an_offer head items cost) = offering
book_kind (a_load text) = loading
book_kind a_strike = striking

-- and one on a chart
abbrev pub chart_kind : {E : Type 0} → ChartCall E → Kind
chart_kind (a_feed e) = feeding
chart_kind (a_withdraw k) = withdrawing

-- the same in words: a number stands by itself, a refusal after a word
abbrev pub saying_text : Saying → List ℕ
saying_text (says n) = decimal n
saying_text (refused number) = codes "refused " ++ decimal number
saying_text (stopped_at number at) = codes "refused " ++ (decimal number ++ (32 ∷ decimal at))

-- a refusal by its number, where there is one; else n
abbrev pub unless_refused : ℕ → ℕ → Saying
unless_refused number n = cond (number == 0) (says n) (refused number)

-- what a load says
abbrev pub load_says : Load → Saying
load_says (taken rules n) = says n
load_says (stopped rules number at) = stopped_at number at

-- what a call on a book of T patterns that holds these rules is answered: the rule's number, how many lines were offered, how many
-- rules remain, or the refusal
abbrev pub book_answer : ℕ → List Production → Call → Saying
book_answer T rules (an_offer head items cost) = unless_refused (refusal T rules (written head items cost)) (length rules)
book_answer T rules (a_load text) = load_says (load T rules text)
book_answer T rules a_strike = unless_refused (strike_refusal rules) (length (all_but_last rules))

-- what a call on a chart that holds n events is answered, in a table of m weights, S to a cell: how many events are held then, or the
-- refusal
abbrev pub chart_answer : {E : Type 0} → ℕ → ℕ → ℕ → ChartCall E → Saying
chart_answer S m n (a_feed e) = unless_refused (feed_refusal S m n) (n + 1)
chart_answer S m n (a_withdraw k) = unless_refused (withdraw_refusal n k) (n - k)

-- what calls are answered in turn from a state on, where a call leads to the state that `after` gives and is answered what `answer` gives
abbrev pub in_turn : {S C : Type 0} → (S → C → S) → (S → C → Saying) → S → List C → List Saying
in_turn after answer s [] = []
in_turn after answer s (c ∷ cs) = answer s c ∷ in_turn after answer (after s c) cs

-- what these calls on a book of T patterns that holds these rules are answered
abbrev pub book_answers : ℕ → List Production → List Call → List Saying
book_answers T rules calls = in_turn (after T) (book_answer T) rules calls

-- what these calls on a chart that holds the events es are answered, in a table of m weights, S to a cell
abbrev pub chart_answers : {E : Type 0} → ℕ → ℕ → List E → List (ChartCall E) → List Saying
chart_answers S m es calls = in_turn (events_after S m) (λ held. chart_answer S m (length held)) es calls
