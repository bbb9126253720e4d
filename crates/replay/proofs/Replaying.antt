-- What a chart says of the book and the events that calls lead to.
use Rattle.std.proofs.Common.{◌≡◌, ℕ, Bool, List, length, ap, ◌∙◌, subst}
use Rattle.grammar.specs.Productions.{Book, Production}
use Rattle.grammar.specs.Semiring.{Ops}
use Rattle.grammar.specs.Binarise.{binarised}
use Rattle.book.specs.declared.alphabet.Alphabet.{Ghosts}
use Rattle.book.specs.declared.books.ClosedBook.{ClosedBook}
use Rattle.book.specs.Books.{closed_book, closed_fits, closed_held}
use Rattle.book.specs.Fits.{table_fits}
use Rattle.book.specs.Offers.{book}
use Rattle.weighing.specs.declared.weighing.Weighing.{Ghosts as Weighings}
use Rattle.weighing.specs.declared.bank.Bank.{Ghosts as Banks}
use Rattle.chart.specs.declared.chart.Chart.{Chart}
use Rattle.chart.specs.Events.{Holds, chart_book, chart_fits, chart_symbols}
use Rattle.chart.specs.Runs.{ChartCall as Called, held_events, HoldsAfter}

-- a closed book is that of its rules over its patterns
pub book_is : {A E P : Type 0} {G : Ghosts A E P} (b : ClosedBook A E P G) (patterns : List P) (rules : List Production) → b.table.patterns.now ≡ patterns → closed_held b ≡ rules
    → closed_book b ≡ book (length patterns) rules
book_is b patterns rules e h = ap (λ n. book n (closed_held b)) (b.over ∙ ap length e) ∙ ap (book (length patterns)) h

-- what is said of a closed book is said of its rules over its patterns
pub of_book : {A E P : Type 0} {G : Ghosts A E P} (test : P → E → Bool) (X : Book → (E → ℕ → Bool) → Type 0) (b : ClosedBook A E P G) (patterns : List P) (rules : List Production)
    → b.table.patterns.now ≡ patterns → closed_held b ≡ rules → X (closed_book b) (closed_fits test b) → X (book (length patterns) rules) (table_fits test patterns)
of_book test X b patterns rules table held said =
    subst (λ W. X W (table_fits test patterns)) (book_is b patterns rules table held) (subst (X (closed_book b)) (ap (table_fits test) table) said)

module _ {A K E P V U : Type 0} {G : Ghosts A E P} {H : Weighings K V U} {B : Banks U V} (M : Ops V) (test : P → E → Bool) where
  -- what is said of any events that the chart holds is said of those of the calls
  pub of_calls : (X : Book → (E → ℕ → Bool) → List E → Type 0) (c : Chart A K E P V U G H B) (b : ClosedBook A E P G) (patterns : List P) (rules : List Production) (m : ℕ) (calls : List (Called E))
      → c.book.now ≡ b → b.table.patterns.now ≡ patterns → closed_held b ≡ rules → length c.weights.now ≡ m → HoldsAfter M test c calls
      → ((es : List E) → Holds M test c es → X (chart_book c) (chart_fits test c) es)
      → X (book (length patterns) rules) (table_fits test patterns) (held_events (binarised (book (length patterns) rules)).symbols m calls)
  of_calls X c b patterns rules m calls same table held long holds said =
      let W = book (length patterns) rules in
      let is_book : chart_book c ≡ W = ap closed_book same ∙ book_is b patterns rules table held in
      let fits : chart_fits test c ≡ table_fits test patterns = ap (λ k. table_fits test k.table.patterns.now) same ∙ ap (table_fits test) table in
      let es : held_events (chart_symbols c) (length c.weights.now) calls ≡ held_events (binarised W).symbols m calls =
      ap (λ w. held_events (binarised w).symbols (length c.weights.now) calls) is_book ∙ ap (λ n. held_events (binarised W).symbols n calls) long in
      subst (X W (table_fits test patterns)) es (subst (λ f. X W f (held_events (chart_symbols c) (length c.weights.now) calls)) fits
      (subst (λ w. X w (chart_fits test c) (held_events (chart_symbols c) (length c.weights.now) calls)) is_book (said _ holds)))
