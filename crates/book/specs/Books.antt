-- What books hold.
use Rattle.std.specs.Prelude.{◌≡◌, ℕ, suc, ◌<◌, ◌≤◌, Bool, true, false, List, map, length, Option, MatchOption, slice_index_or}
use Rattle.grammar.specs.{Productions.Production, Productions.Book, Binarise.binarised, Nullable.nullable_after, Strict.StrictFormRule, Strict.strict_rules}
use Rattle.grammar.specs.Chains.{ChainStep, UnitChain}
use Rattle.grammar.specs.Promises.{Rounds, ChosenRule, TheChosenChain, TheStrictList, StrictLanguage}
use Rattle.conversion.specs.Views.{strict_rule_of}
use Rattle.book.specs.declared.{alphabet.Alphabet.Ghosts, books.OpenBook.OpenBook, books.ClosedBook.ClosedBook}
use Rattle.book.specs.{Rules.held, Rules.rules_book, Fits.table_fits}

abbrev pub open_held : {A E P : Type 0} {G : Ghosts A E P} → OpenBook A E P G → List Production
open_held b = held b.rules

abbrev pub closed_held : {A E P : Type 0} {G : Ghosts A E P} → ClosedBook A E P G → List Production
closed_held b = held b.converted.rules

abbrev pub closed_book : {A E P : Type 0} {G : Ghosts A E P} → ClosedBook A E P G → Book
closed_book b = rules_book b.converted.rules

-- whether pattern t of a closed book fits the event, by the test of one pattern
abbrev pub closed_fits : {A E P : Type 0} {G : Ghosts A E P} → (P → E → Bool) → ClosedBook A E P G → E → ℕ → Bool
closed_fits test b = table_fits test b.table.patterns.now

abbrev pub closed_strict : {A E P : Type 0} {G : Ghosts A E P} → ClosedBook A E P G → List StrictFormRule
closed_strict b = map strict_rule_of b.converted.form.strict.rules.items

-- rs are a book's strict rules: the definition's, in order; the only list of them; for any test of events in strict form, with its language.
-- What they rest on: the nullable symbols are found in rounds, each by one chosen rule, and where a unit chain leads one is chosen
pub record StrictRulesAre (E : Type 0) (W : Book) (rs : List StrictFormRule) : Type 0 where
  pub listed : rs ≡ strict_rules (binarised W)
  pub only : TheStrictList (binarised W)
  pub language : (fits : E → ℕ → Bool) → StrictLanguage W fits
  pub rounds : (x : ℕ) → Rounds (binarised W) x
  pub nullable : (k x : ℕ) → nullable_after (binarised W) k x ≡ false → nullable_after (binarised W) (suc k) x ≡ true → ChosenRule (binarised W) k x
  pub chains : (x y : ℕ) (c : List ChainStep) → y < (binarised W).symbols → UnitChain (binarised W) x c y → TheChosenChain (binarised W) x y

-- what stands in place n of a list, if it has such a place, as f sees it
abbrev pub At : {X Y : Type 0} → (X → Y) → List Y → ℕ → Option X → Type 0
At f l n r = MatchOption r (length l ≤ n) (λ x. (n < length l) × ((d : _) → f x ≡ slice_index_or l n d))
