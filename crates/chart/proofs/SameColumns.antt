-- A column stays the same over steps of its work.
use Rattle.std.proofs.Common.{ℕ, refl, ◌∙◌, subst}
use Rattle.book.specs.declared.alphabet.Alphabet.{Ghosts}
use Rattle.weighing.specs.declared.weighing.Weighing.{Ghosts as Weighings}
use Rattle.weighing.specs.declared.bank.Bank.{Ghosts as Banks}
use Rattle.book.specs.declared.books.ClosedBook.{ClosedBook}
use Rattle.chart.specs.declared.column.Column.{Column}
use Rattle.chart.specs.Inner.{SameColumn}

module _ {A K E P V U : Type 0} {G : Ghosts A E P} {H : Weighings K V U} {B : Banks U V} where
  pub same_column : (c : Column A K E P V U G H B) → SameColumn c c
  same_column c = record { book = refl; rules = refl; symbols = refl; end = refl; long = refl; table = refl }

  pub same_after : (a b c : Column A K E P V U G H B) → SameColumn a b → SameColumn b c → SameColumn a c
  same_after a b c p q = record {
    book = q.book ∙ p.book;
    rules = q.rules ∙ p.rules;
    symbols = q.symbols ∙ p.symbols;
    end = q.end ∙ p.end;
    long = q.long ∙ p.long;
    table = q.table ∙ p.table;
  }

  -- what holds by the book, the number of symbols and the event of the later holds by those of the earlier
  pub as_before : (a b : Column A K E P V U G H B) → SameColumn a b → (X : ClosedBook A E P G → ℕ → ℕ → Type 0) → X b.book.now b.symbols b.end → X a.book.now a.symbols a.end
  as_before a b same X x =
      subst (λ k. X k.now a.symbols a.end) same.book (subst (λ s. X b.book.now s a.end) same.symbols (subst (λ e. X b.book.now b.symbols e) same.end x))
