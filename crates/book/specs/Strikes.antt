-- What a strike meets, and what the book then holds.
use Rattle.std.specs.Prelude.{◌≡◌, ℕ, List, [], ◌∷◌, length, Ok, Err, Result}
use Rattle.grammar.specs.Productions.{Production}
use Rattle.book.specs.declared.fault.StrikeFault.{StrikeFault}
use Rattle.book.specs.Faults.{strike_number}

-- the list without its last; where there is none, nothing
abbrev pub all_but_last : {A : Type 0} → List A → List A
all_but_last [] = []
all_but_last (x ∷ []) = []
all_but_last (x ∷ y ∷ ys) = x ∷ all_but_last (y ∷ ys)

-- the number of the refusal that a strike meets where these rules are held; 0 for none
abbrev pub strike_refusal : List Production → ℕ
strike_refusal [] = 10
strike_refusal (p ∷ ps) = 0

-- the last rule held is taken away, and how many remain is answered, or the strike is refused, and the book, all of it, is as before
abbrev pub Struck : {B : Type 0} → (B → List Production) → B → B → Result ℕ StrikeFault → Type 0
Struck held was is (Ok n) = (strike_refusal (held was) ≡ 0) × (n ≡ length (held is)) × (held is ≡ all_but_last (held was))
Struck held was is (Err f) = (strike_refusal (held was) ≡ strike_number f) × (is ≡ was)
