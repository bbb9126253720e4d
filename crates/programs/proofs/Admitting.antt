-- The calls of a book keep to its bounds.
use Rattle.std.proofs.Common.{◌≡◌, ℕ, suc, ◌+◌, ◌<◌, ◌≤◌, Bool, true, false, cond, eqb, ltb, leb, List, [], ◌∷◌, ◌++◌, length, refl, ap, subst, inl, inr, arith}
use Rattle.std.specs.List.{fold}
use Rattle.std.proofs.lemmas.Bool.{eqb-true}
use Rattle.std.proofs.lemmas.Bool.Decides.{nat_tests}
use Rattle.grammar.specs.Lists.{some_of}
use Rattle.grammar.specs.Productions.{Production}
use Rattle.grammar.specs.Binarise.{Admitted}
use Rattle.grammar.proofs.Struck.{struck_fits}
use Rattle.conversion.specs.Rows.{written}
use Rattle.text.specs.Words.{Piece, line_words}
use Rattle.text.specs.Outcomes.{Outcome, nothing, rule, fault, line, Means}
use Rattle.text.proofs.Meaning.{line_means}
use Rattle.book.specs.Offers.{book, refusal, same_rule, size_refusal}
use Rattle.book.specs.Loads.{Load, taken, stopped, and_then, offer_line, end_of, first_place, load_lines, load}
use Rattle.book.specs.Strikes.{all_but_last}
use Rattle.book.specs.Runs.{Call, an_offer, a_load, a_strike, loaded, after, held_after}
use Rattle.book.proofs.NoRules.{admitted_without_rules}
use Rattle.book.proofs.Refused.{PastFour, past_sound, sized_admitted}
use Rattle.programs.specs.Printed.{Cheap, AllCheap}

no_refusal : (h n m : ℕ) (u s : Bool) (size : ℕ) → ◌≡◌ {A = ℕ} (cond (ltb 31 h) 1 (cond (ltb 8 n) 2 (cond u 3 (cond s 4 (cond (leb 64 m) 5 size))))) 0
    → (h ≤ 31) × (n ≤ 8) × (u ≡ false) × (s ≡ false) × (m < 64) × (size ≡ 0)
no_refusal h n m u s size e = (grind (arith, nat_tests), grind (arith, nat_tests), grind (arith, nat_tests), grind (arith, nat_tests), grind (arith, nat_tests), grind (arith, nat_tests))

module _ (T : ℕ) where
  offered_admitted : (rules : List Production) (p : Production) → Admitted (book T rules) → p.cost ≤ 65535 → refusal T rules p ≡ 0 → Admitted (book T (rules ++ (p ∷ [])))
  offered_admitted rules p a c z =
      let W = book T (rules ++ (p ∷ [])) in
      let n = no_refusal p.head (length p.right) (length rules) (some_of (leb (32 + T)) p.right) (some_of (same_rule p) rules) (size_refusal W) z in
      let four : PastFour T rules p = record { head = n.0; short = n.1; known = n.2; new = n.3 } in
      sized_admitted W (λ t. past_sound T rules p four a.sound c n.4 t) n.5

  -- the rules held after a load are admitted, stopped or not
  abbrev AllAdmitted : Load → Type 0
  AllAdmitted l = Admitted (book T (loaded l))

  -- one line, and then the rest
  line_admitted : (end : ℕ) (ws : List Piece) (is : List Production) (n at : ℕ) (rest : List Production → ℕ → Load) → Admitted (book T is)
      → ((js : List Production) (m : ℕ) → Admitted (book T js) → AllAdmitted (rest js m)) → AllAdmitted (and_then (offer_line T is n at (line end ws)) rest)
  line_admitted end ws is n at rest a on = by_outcome (line end ws) refl
    where
      by_outcome : (o : Outcome) → line end ws ≡ o → AllAdmitted (and_then (offer_line T is n at o) rest)
      by_outcome nothing e = on is n a
      by_outcome (rule p) e =
          let says = subst (Means end ws) e (line_means end ws) in
          (elim (eqb (refusal T is p) 0) as (λ b. eqb (refusal T is p) 0 ≡ b → AllAdmitted (and_then (cond b (taken (is ++ (p ∷ [])) (suc n)) (stopped is 24 at)) rest)) [
            | true ↦ λ t. on (is ++ (p ∷ [])) (suc n) (offered_admitted is p a says.0.low_cost (eqb-true (refusal T is p) 0 t))
            | false ↦ λ f. a
          ]) refl
      by_outcome (fault number place) e = a

  lines_admitted : (is : List Production) (n : ℕ) (ls : List Piece) → Admitted (book T is) → AllAdmitted (load_lines T is n ls)
  unfolding load_lines
  lines_admitted is n [] a = a
  lines_admitted is n (l ∷ ls) a = line_admitted (end_of l) (line_words l) is n (first_place (line_words l)) (λ held m. load_lines T held m ls) a (λ js m b. lines_admitted js m ls b)

  pub load_admitted : (is : List Production) (text : List ℕ) → Admitted (book T is) → AllAdmitted (load T is text)
  load_admitted is text a = lines_admitted is 0 _ a

  -- an offer
  offer_admitted : (is : List Production) (p : Production) → p.cost ≤ 65535 → Admitted (book T is) → Admitted (book T (cond (eqb (refusal T is p) 0) (is ++ (p ∷ [])) is))
  offer_admitted is p c a = (elim (eqb (refusal T is p) 0) as (λ b. eqb (refusal T is p) 0 ≡ b → Admitted (book T (cond b (is ++ (p ∷ [])) is))) [
    | true ↦ λ t. offered_admitted is p a c (eqb-true (refusal T is p) 0 t)
    | false ↦ λ f. a
  ]) refl

  -- a list is what a strike leaves of it, and its last
  last_back : (p : Production) (ps : List Production) → (q : Production) × (p ∷ ps ≡ all_but_last (p ∷ ps) ++ (q ∷ []))
  last_back p [] = (p, refl)
  last_back p (r ∷ ps) = let b = last_back r ps in (b.0, ap (λ l. p ∷ l) b.1)

  -- a strike
  strike_admitted : (is : List Production) → Admitted (book T is) → Admitted (book T (all_but_last is))
  strike_admitted [] a = a
  strike_admitted (p ∷ ps) a = let b = last_back p ps in struck_fits (book T (all_but_last (p ∷ ps))) b.0 (subst (λ l. Admitted (book T l)) b.1 a)

  -- a call
  call_admitted : (is : List Production) (c : Call) → Cheap c → Admitted (book T is) → Admitted (book T (after T is c))
  call_admitted is (an_offer head items cost) low a = offer_admitted is (written head items cost) low a
  call_admitted is (a_load text) low a = load_admitted is text a
  call_admitted is a_strike low a = strike_admitted is a

  calls_admitted : (is : List Production) (cs : List Call) → AllCheap cs → Admitted (book T is) → Admitted (book T (fold (after T) is cs))
  calls_admitted is [] low a = a
  calls_admitted is (c ∷ cs) low a = calls_admitted (after T is c) cs (λ d m. low d (inr m)) (call_admitted is c (low c (inl refl)) a)

  -- whatever calls are made on a new book, what it holds keeps to the bounds
  pub held_admitted : (cs : List Call) → T ≤ 32 → AllCheap cs → Admitted (book T (held_after T cs))
  unfolding held_after
  held_admitted cs few low = calls_admitted [] cs low (admitted_without_rules T few)
