-- What the check of a table of patterns meets.
use Rattle.std.specs.Prelude.{◌≡◌, ℕ, cond, List, length, Ok, Err, Result, nat_lt}
use Rattle.book.specs.declared.{alphabet.Alphabet.Ghosts, fault.TableFault.TableFault, table.PatternTable.PatternTable}
use Rattle.book.specs.Faults.{table_number}

-- the number of the refusal of so many patterns; 0 for none
abbrev pub table_refusal : {P : Type 0} → List P → ℕ
table_refusal patterns = cond (nat_lt 32 (length patterns)) 8 0

-- a table was checked: it is the table of these patterns, or refused
abbrev pub Checked : {A E P : Type 0} {G : Ghosts A E P} → List P → Result (PatternTable A E P G) TableFault → Type 0
Checked patterns (Ok t) = (table_refusal patterns ≡ 0) × (t.patterns.now ≡ patterns)
Checked patterns (Err f) = table_refusal patterns ≡ table_number f
