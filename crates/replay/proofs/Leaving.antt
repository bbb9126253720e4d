-- What a chart's calls leave in its table of weights, call by call.
use Rattle.std.proofs.Common.{◌≡◌, ℕ, ◌+◌, ◌-◌, ◌<◌, ◌≤◌, inl, inr, Bool, List, [], ◌∷◌, ◌++◌, length, get_or, sym, ap, ◌∙◌, subst, arith}
use Rattle.std.proofs.lemmas.Bool.{cases_lt}
use Rattle.std.proofs.lemmas.List.{take-append-le, take_all, length-append}
use Rattle.grammar.specs.Semiring.{Ops}
use Rattle.grammar.specs.Productions.{Book}
use Rattle.grammar.specs.Binarise.{binarised}
use Rattle.grammar.specs.Lists.{span}
use Rattle.grammar.specs.Weights.{cell_of}
use Rattle.book.specs.Books.{closed_book, closed_fits}
use Rattle.book.specs.declared.alphabet.Alphabet.{Ghosts}
use Rattle.book.specs.declared.books.ClosedBook.{ClosedBook}
use Rattle.weighing.specs.declared.weighing.Weighing.{Ghosts as Weighings}
use Rattle.weighing.specs.declared.bank.Bank.{Ghosts as Banks}
use Rattle.chart.specs.declared.chart.Chart.{Chart}
use Rattle.chart.specs.Charts.{HoldsChart}
use Rattle.chart.specs.Events.{chart_book, chart_fits, chart_symbols}
use Rattle.chart.specs.Runs.{ChartCall, held_events, HoldsAfter}
use Rattle.chart.specs.Table.{column_place, cell_place, SameOutside}
use Rattle.chart.proofs.Places.{start_mono}
use Rattle.replay.specs.declared.answer.Answer.{Answer}
use Rattle.replay.specs.declared.call.ChartCall.{ChartCall as Call}
use Rattle.replay.specs.Calls.{chart_call_of}
use Rattle.replay.proofs.ChartTurns.{views, next_views, ChartMade}
use Rattle.replay.specs.Leavings.{held_by, Leaves}

module _ {E : Type 0} (S m : ℕ) (calls : List (ChartCall E)) (c : ChartCall E) where
  -- with one call more, the events held by then are the same up to it
  same_by : (k : ℕ) → k ≤ length calls → held_by S m (calls ++ (c ∷ [])) k ≡ held_by S m calls k
  same_by k h = ap (held_events S m) (take-append-le k calls (c ∷ []) h)

  all_by : (k : ℕ) → length calls < k → held_by S m (calls ++ (c ∷ [])) k ≡ held_events S m (calls ++ (c ∷ []))
  all_by k h = ap (held_events S m) (take_all k (calls ++ (c ∷ [])) (omega (arith, length-append calls (c ∷ []))))

module _ {V E : Type 0} (W : Book) (M : Ops V) (fits : E → ℕ → Bool) where
  -- one call more, which writes the columns from that of the first event that was not held to that of the last one that is
  pub leaves_more : (calls : List (ChartCall E)) (c : ChartCall E) (was now is : List V) → Leaves W M fits calls was now
      → HoldsChart W M fits (held_events (binarised W).symbols (length was) (calls ++ (c ∷ []))) is
      → SameOutside M.zero (column_place (binarised W).symbols (length (held_events (binarised W).symbols (length was) calls) + 1)) (column_place (binarised W).symbols (length (held_events (binarised W).symbols (length was) (calls ++ (c ∷ []))) + 1)) now is
      → Leaves W M fits (calls ++ (c ∷ [])) was is
  leaves_more calls c was now is old holds same =
      let S = (binarised W).symbols in
      let m = length was in
      let longer = length-append calls (c ∷ []) in
      let all = length calls + 1 in
      record {
        columns = λ k e i x few last later before within.
            elim (cases_lt (length calls) k) [
              | inl new ↦
                  let now_held = all_by S m calls c k new in
                  holds.cells e i x (omega (arith, before)) (subst (λ es. e ≤ length es) now_held last) before within
                  ∙ ap (λ es. cell_of W M fits x (span es i (e - i))) (sym now_held)
              | inr former ↦
                  let same_held = same_by S m calls c k (omega (arith, former)) in
                  let end : length (held_events S m (calls ++ (c ∷ []))) < e = subst (λ es. length es < e) (all_by S m calls c all (omega arith)) (later all (omega (arith, former)) (omega (arith, longer))) in
                  let place : column_place S (length (held_events S m (calls ++ (c ∷ []))) + 1) ≤ cell_place S e i + x = omega (arith, start_mono S (length (held_events S m (calls ++ (c ∷ []))) + 1) e (omega (arith, end))) in
                  same (cell_place S e i + x) (inr place)
                  ∙ old.columns k e i x (omega (arith, former)) (subst (λ es. e ≤ length es) same_held last)
                  (λ n after few. subst (λ es. length es < e) (same_by S m calls c n few) (later n after (omega (arith, few, longer)))) before within
                  ∙ ap (λ es. cell_of W M fits x (span es i (e - i))) (sym same_held)
            ];
        others = λ j past.
            let now_past = past all (omega (arith, longer)) in
            let at_last : column_place S (length (held_events S m (calls ++ (c ∷ []))) + 1) ≤ j = subst (λ es. column_place S (length es + 1) ≤ j) (all_by S m calls c all (omega arith)) now_past in
            same j (inr at_last) ∙ old.others j (λ k h. subst (λ es. column_place S (length es + 1) ≤ j) (same_by S m calls c k h) (past k (omega (arith, h, longer))));
      }

module _ {A K E P V U : Type 0} {G : Ghosts A E P} {H : Weighings K V U} {B : Banks U V} (M : Ops V) (test : P → E → Bool) where
  -- a chart after one call more
  pub chart_leaves : (b : ClosedBook A E P G) (calls : List (ChartCall E)) (c : ChartCall E) (first : List V) (was is : Chart A K E P V U G H B)
      → was.book.now ≡ b → is.book ≡ was.book → length was.weights.now ≡ length first → length is.weights.now ≡ length first
      → HoldsAfter M test was calls → HoldsAfter M test is (calls ++ (c ∷ []))
      → SameOutside M.zero (column_place (chart_symbols was) (was.events + 1)) (column_place (chart_symbols was) (is.events + 1)) was.weights.now is.weights.now
      → Leaves (closed_book b) M (closed_fits test b) calls first was.weights.now
      → Leaves (closed_book b) M (closed_fits test b) (calls ++ (c ∷ [])) first is.weights.now
  chart_leaves b calls c first was is of_book same_book long longer before after outside old =
      let S = chart_symbols was in
      let next = calls ++ (c ∷ []) in
      let were : length (held_events S (length first) calls) ≡ was.events = ap (λ m. length (held_events S m calls)) (sym long) ∙ before.many in
      let symbols : S ≡ chart_symbols is = ap (λ k. (binarised (closed_book k.now)).symbols) (sym same_book) in
      let are : length (held_events S (length first) next) ≡ is.events =
      ap (λ m. length (held_events S m next)) (sym longer) ∙ ap (λ s. length (held_events s (length is.weights.now) next)) symbols ∙ after.many in
      let holds : HoldsChart (chart_book was) M (chart_fits test was) (held_events S (length first) next) is.weights.now =
      subst (λ m. HoldsChart (chart_book was) M (chart_fits test was) (held_events S m next) is.weights.now) longer
      (subst (λ k. HoldsChart (closed_book k.now) M (closed_fits test k.now) (held_events (binarised (closed_book k.now)).symbols (length is.weights.now) next) is.weights.now) same_book after.chart) in
      let same : SameOutside M.zero (column_place S (length (held_events S (length first) calls) + 1)) (column_place S (length (held_events S (length first) next) + 1)) was.weights.now is.weights.now =
      subst (λ n. SameOutside M.zero (column_place S (n + 1)) (column_place S (length (held_events S (length first) next) + 1)) was.weights.now is.weights.now) (sym were)
      (subst (λ n. SameOutside M.zero (column_place S (was.events + 1)) (column_place S (n + 1)) was.weights.now is.weights.now) (sym are) outside) in
      subst (λ k. Leaves (closed_book k) M (closed_fits test k) calls first was.weights.now → Leaves (closed_book k) M (closed_fits test k) next first is.weights.now) of_book
      (λ h. leaves_more (chart_book was) M (chart_fits test was) calls c first was.weights.now is.weights.now h holds same) old

  -- the same in a loop over the calls
  pub turn_leaves : (b : ClosedBook A E P G) (calls : List (Call E)) (k : ℕ) (first : List V) (answers more_answers : List Answer) (was is : Chart A K E P V U G H B) (d x : Call E) (S : ℕ)
      → ChartMade M test S (length first) calls k answers was → ChartMade M test S (length first) calls (k + 1) more_answers is → k < length calls → get_or calls k d ≡ x
      → was.book.now ≡ b → is.book ≡ was.book
      → SameOutside M.zero (column_place (chart_symbols was) (was.events + 1)) (column_place (chart_symbols was) (is.events + 1)) was.weights.now is.weights.now
      → Leaves (closed_book b) M (closed_fits test b) (views calls k) first was.weights.now
      → Leaves (closed_book b) M (closed_fits test b) (views calls (k + 1)) first is.weights.now
  turn_leaves b calls k first answers more_answers was is d x S made more lt e of_book same_book outside old =
      let next = next_views calls k d x lt e in
      subst (λ cs. Leaves (closed_book b) M (closed_fits test b) cs first is.weights.now) (sym next)
      (chart_leaves b (views calls k) (chart_call_of x) first was is of_book same_book made.long more.long made.holds (subst (HoldsAfter M test is) next more.holds) outside old)
