-- What a book holds after any calls, from their arguments alone.
use Rattle.std.specs.Prelude.{◌≡◌, ℕ, cond, List, [], ◌∷◌, ◌++◌, fold, ◌==◌}
use Rattle.grammar.specs.Productions.{Production}
use Rattle.conversion.specs.Rows.{written}
use Rattle.book.specs.{Offers.refusal, Loads.Load, Loads.taken, Loads.stopped, Loads.load, Strikes.all_but_last}

-- a call with its arguments: an offer of a head, items and a cost, a load of a text, a strike
pub data Call : Type 0 where
  an_offer : ℕ → List ℕ → ℕ → Call
  a_load : List ℕ → Call
  a_strike : Call

-- the rules to which a load comes
abbrev pub loaded : Load → List Production
loaded (taken rules n) = rules
loaded (stopped rules number at) = rules

-- the rules held after a call on a book of T patterns that held these
abbrev pub after : ℕ → List Production → Call → List Production
after T rules (an_offer head items cost) =
    cond (refusal T rules (written head items cost) == 0) (rules ++ (written head items cost ∷ [])) rules
after T rules (a_load text) = loaded (load T rules text)
after T rules a_strike = all_but_last rules

-- the rules held after these calls, in turn, on a new book of T patterns
unfoldable pub held_after : ℕ → List Call → List Production
held_after T calls = fold (after T) [] calls

-- after any calls that lead to the rules `was`, the call c leads to the rules `is`
abbrev pub RunsOn : ℕ → Call → List Production → List Production → Type 0
RunsOn T c was is = (calls : List Call) → held_after T calls ≡ was → held_after T (calls ++ (c ∷ [])) ≡ is

-- after any calls that lead to the rules `was`, the rules `is` are the ones held
abbrev pub Leaves : ℕ → List Production → List Production → Type 0
Leaves T was is = (calls : List Call) → held_after T calls ≡ was → held_after T calls ≡ is
