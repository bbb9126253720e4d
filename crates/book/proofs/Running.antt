-- What each call does to the rules held, after any calls.
use Rattle.std.proofs.Common.{cond, ◌≡◌, ℕ, eqb, ◌==◌, List, [], ◌∷◌, ◌++◌, Ok, Err, Result, sym, refl, ap, ◌∙◌, arith}
use Rattle.std.proofs.lemmas.List.Sums.{fold_push}
use Rattle.std.proofs.lemmas.Bool.{cond-true, cond-false, eq-eqb, ne_eqb}
use Rattle.grammar.specs.Productions.{Production}
use Rattle.conversion.specs.Rows.{written}
use Rattle.book.specs.declared.fault.OfferFault.{OfferFault}
use Rattle.book.specs.declared.fault.StrikeFault.{StrikeFault}
use Rattle.book.specs.declared.fault.StrikeFault.TheVariants.{NoRule}
use Rattle.book.specs.declared.fault.LoadFault.{LoadFault}
use Rattle.book.specs.declared.rules.Rules.{Rules}
use Rattle.book.specs.Rules.{held}
use Rattle.book.specs.Offers.{refusal, Offered}
use Rattle.book.specs.Loads.{load, load_is}
use Rattle.book.specs.Strikes.{all_but_last, strike_refusal, Struck}
use Rattle.book.specs.Runs.{Call, an_offer, a_load, a_strike, loaded, after, held_after, RunsOn}
use Rattle.book.proofs.Refused.{some_refusal}

-- before the first call
pub none_after : (T : ℕ) → held_after T [] ≡ []
unfolding held_after
none_after T = refl

-- after one call more
pub after_last : (T : ℕ) (calls : List Call) (c : Call) → held_after T (calls ++ (c ∷ [])) ≡ after T (held_after T calls) c
unfolding held_after
after_last T calls c = fold_push (after T) [] calls c

-- a call that does what `after` says runs on
runs_by : (T : ℕ) (c : Call) (was is : List Production) → after T was c ≡ is → RunsOn T c was is
runs_by T c was is h calls e = after_last T calls c ∙ ap (λ l. after T l c) e ∙ h

-- an offer
offer_after : (T : ℕ) (p : Production) (was is : Rules) (r : Result ℕ OfferFault) → Offered T held p was is r → cond (refusal T (held was) p == 0) (held was ++ (p ∷ [])) (held was) ≡ held is
offer_after T p was is (Ok n) h = cond-true (eqb (refusal T (held was) p) 0) (held was ++ (p ∷ [])) (held was) (eq-eqb (refusal T (held was) p) 0 h.0) ∙ sym h.2
offer_after T p was is (Err f) h =
    cond-false (eqb (refusal T (held was) p) 0) (held was ++ (p ∷ [])) (held was) (ne_eqb (refusal T (held was) p) 0 (λ z. omega (arith, h.0, some_refusal f)))
    ∙ ap held (sym h.1)

pub offer_runs : (T head : ℕ) (items : List ℕ) (cost : ℕ) (was is : Rules) (r : Result ℕ OfferFault) → Offered T held (written head items cost) was is r
    → RunsOn T (an_offer head items cost) (held was) (held is)
offer_runs T head items cost was is r h = runs_by T (an_offer head items cost) (held was) (held is) (offer_after T (written head items cost) was is r h)

-- a load
load_after : (is : List Production) (r : Result ℕ LoadFault) → loaded (load_is is r) ≡ is
load_after is (Ok n) = refl
load_after is (Err f) = refl

pub load_runs : (T : ℕ) (text : List ℕ) (was is : List Production) (r : Result ℕ LoadFault) → load_is is r ≡ load T was text → RunsOn T (a_load text) was is
load_runs T text was is r h = runs_by T (a_load text) was is (ap loaded (sym h) ∙ load_after is r)

-- a strike
none_struck : (rules : List Production) → strike_refusal rules ≡ 10 → all_but_last rules ≡ rules
none_struck [] e = refl
none_struck (p ∷ ps) e = absurd (omega (arith, e))

strike_after : (was is : Rules) (r : Result ℕ StrikeFault) → Struck held was is r → all_but_last (held was) ≡ held is
strike_after was is (Ok n) h = sym h.2
strike_after was is (Err NoRule) h = none_struck (held was) h.0 ∙ ap held (sym h.1)

pub strike_runs : (T : ℕ) (was is : Rules) (r : Result ℕ StrikeFault) → Struck held was is r → RunsOn T a_strike (held was) (held is)
strike_runs T was is r h = runs_by T a_strike (held was) (held is) (strike_after was is r h)
