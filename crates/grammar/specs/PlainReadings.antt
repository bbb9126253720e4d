-- Plain readings, and lists of readings.
use Rattle.std.specs.Prelude.{ℕ, Bool, ◌↔◌, List}
use Rattle.grammar.specs.{Lists.Mem, Lists.Distinct, Productions.Book, Plain.Plain, Readings.Reading, Readings.Reads}
use Rattle.grammar.specs.Binarise.{binarise, binarised}

-- a plain reading of w from x: its binarised form is plain
pub record PlainReading (W : Book) {E : Type 0} (fits : E → ℕ → Bool) (x : ℕ) (w : List E) (r : Reading) : Type 0 where
  pub reads : Reads W fits x r w
  pub plain : Plain (binarised W) (binarise W r)

-- rs holds exactly the plain readings of w from x, once each
pub record PlainList (W : Book) {E : Type 0} (fits : E → ℕ → Bool) (x : ℕ) (w : List E) (rs : List Reading) : Type 0 where
  pub once : Distinct rs
  pub exactly : (r : Reading) → Mem r rs ↔ PlainReading W fits x w r

-- rs holds exactly the readings of w from x, once each
pub record WholeList (W : Book) {E : Type 0} (fits : E → ℕ → Bool) (x : ℕ) (w : List E) (rs : List Reading) : Type 0 where
  pub once : Distinct rs
  pub exactly : (r : Reading) → Mem r rs ↔ Reads W fits x r w

-- w has no reading
abbrev pub Unread : (W : Book) {E : Type 0} (fits : E → ℕ → Bool) (w : List E) → Type 0
Unread W fits w = (r : Reading) → Reads W fits 0 r w → ⊥
