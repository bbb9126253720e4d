-- What each call does to the events held, after any calls.
use Rattle.std.proofs.Common.{cond, ◌==◌, ◌≡◌, ℕ, ◌+◌, ◌-◌, ◌<◌, ◌≤◌, ◌⊎◌, Bool, eqb, List, [], ◌∷◌, ◌++◌, length, take, drop, Ok, Err, Result, sym, refl, ap, ap₂, ◌∙◌, subst, ⊎_elim, arith}
use Rattle.std.proofs.lemmas.Bool.Decides.{nat_tests}
use Rattle.std.proofs.lemmas.Bool.{cond-true, cond-false, eq-eqb, ne_eqb}
use Rattle.std.proofs.lemmas.List.{take-append-drop, length-take-le}
use Rattle.std.proofs.lemmas.List.Sums.{fold_push}
use Rattle.grammar.specs.Lists.{span}
use Rattle.grammar.specs.Semiring.{Ops}
use Rattle.grammar.specs.Productions.{Book}
use Rattle.grammar.specs.Binarise.{binarised}
use Rattle.grammar.specs.Weights.{cell_of}
use Rattle.grammar.proofs.Spans.{span_kept}
use Rattle.book.specs.Books.{closed_book}
use Rattle.book.specs.declared.alphabet.Alphabet.{Ghosts}
use Rattle.weighing.specs.declared.weighing.Weighing.{Ghosts as Weighings}
use Rattle.weighing.specs.declared.bank.Bank.{Ghosts as Banks}
use Rattle.chart.specs.declared.chart.Chart.{Chart}
use Rattle.chart.specs.declared.fault.FeedFault.{FeedFault}
use Rattle.chart.specs.declared.fault.FeedFault.TheVariants.{NoRoom}
use Rattle.chart.specs.declared.fault.WithdrawFault.{WithdrawFault}
use Rattle.chart.specs.declared.fault.WithdrawFault.TheVariants.{TooMany}
use Rattle.chart.specs.Table.{column_place}
use Rattle.chart.specs.Charts.{HoldsChart}
use Rattle.chart.specs.Events.{chart_symbols, Holds}
use Rattle.chart.specs.Feeds.{feed_refusal, withdraw_refusal, FedEvent, Withdrawn}
use Rattle.chart.specs.Runs.{ChartCall, a_feed, a_withdraw, after, held_events, HoldsAfter, RunsOn}
use Rattle.chart.proofs.Places.{start_mono}

-- where no room is, a feed is refused
pub no_room : (S m n : ℕ) → n ≤ 256 → (256 ≤ n) ⊎ (m < column_place S (n + 2)) → feed_refusal S m n ≡ 11
no_room S m n few h = ⊎_elim (λ (k : 256 ≤ n). grind (arith, nat_tests)) (λ (k : m < column_place S (n + 2)). grind (arith, nat_tests)) h

-- a withdrawal of more than are held is refused, and no other
pub too_many : (n k : ℕ) → n < k → withdraw_refusal n k ≡ 12
too_many n k h = grind (arith, nat_tests)

pub not_too_many : (n k : ℕ) → k ≤ n → withdraw_refusal n k ≡ 0
not_too_many n k h = grind (arith, nat_tests)

-- a table that holds the chart of some events holds that of the first n of them
pub front_held : {V E : Type 0} (W : Book) (M : Ops V) (fits : E → ℕ → Bool) (es : List E) (n : ℕ) (table : List V) → n ≤ length es → HoldsChart W M fits es table → HoldsChart W M fits (take n es) table
front_held W M fits es n table few h =
    let many = length-take-le n es few in
    record {
      room = omega (arith, many, h.room, start_mono (binarised W).symbols (length (take n es) + 1) (length es + 1) (omega (arith, many)));
      cells = λ e i x some last before within.
          h.cells e i x some (omega (arith, many, last)) before within
          ∙ ap (cell_of W M fits x) (ap (λ l. span l i (e - i)) (sym (take-append-drop n es)) ∙ span_kept (take n es) (drop n es) i (e - i) (omega (arith, before, last)));
    }

-- before the first call
pub none_after : {E : Type 0} (S m : ℕ) → held_events {E = E} S m [] ≡ []
unfolding held_events
none_after S m = refl

-- after one call more
pub after_last : {E : Type 0} (S m : ℕ) (calls : List (ChartCall E)) (c : ChartCall E) → held_events S m (calls ++ (c ∷ [])) ≡ after S m (held_events S m calls) c
unfolding held_events
after_last S m calls c = fold_push (after S m) [] calls c

module _ {A K E P V U : Type 0} {G : Ghosts A E P} {H : Weighings K V U} {B : Banks U V} (M : Ops V) (test : P → E → Bool) where
  -- a new chart
  pub cut_runs : (c : Chart A K E P V U G H B) → Holds M test c [] → HoldsAfter M test c []
  cut_runs c h = subst (Holds M test c) (sym (none_after (chart_symbols c) (length c.weights.now))) h

  -- a call that does what `after` says runs on
  runs_by : (call : ChartCall E) (was is : Chart A K E P V U G H B) → is.book ≡ was.book → length is.weights.now ≡ length was.weights.now
      → ((es : List E) → Holds M test was es → Holds M test is (after (chart_symbols was) (length was.weights.now) es call)) → RunsOn M test call was is
  runs_by call was is book long h calls before =
      let S = chart_symbols was in
      let m = length was.weights.now in
      let symbols : chart_symbols is ≡ S = ap (λ b. (binarised (closed_book b.now)).symbols) book in
      subst (Holds M test is) (sym (after_last S m calls call) ∙ sym (ap₂ (λ s l. held_events s l (calls ++ (call ∷ []))) symbols long)) (h (held_events S m calls) before)

  -- a feed
  feed_after : (e : E) (was is : Chart A K E P V U G H B) (r : Result ℕ FeedFault) → FedEvent M test e was is r
      → (es : List E) → Holds M test was es → Holds M test is (cond (feed_refusal (chart_symbols was) (length was.weights.now) (length es) == 0) (es ++ (e ∷ [])) es)
  feed_after e was is (Ok r) fed es h =
      let S = chart_symbols was in
      let m = length was.weights.now in
      let none : feed_refusal S m (length es) ≡ 0 = ap (feed_refusal S m) h.many ∙ fed.0 in
      subst (Holds M test is) (sym (cond-true (eqb (feed_refusal S m (length es)) 0) (es ++ (e ∷ [])) es (eq-eqb (feed_refusal S m (length es)) 0 none))) (fed.3 es h)
  feed_after e was is (Err NoRoom) fed es h =
      let S = chart_symbols was in
      let m = length was.weights.now in
      let some : feed_refusal S m (length es) ≡ 11 = ap (feed_refusal S m) h.many ∙ fed.0 in
      subst (Holds M test is) (sym (cond-false (eqb (feed_refusal S m (length es)) 0) (es ++ (e ∷ [])) es (ne_eqb (feed_refusal S m (length es)) 0 (λ z. omega (arith, some, z)))))
      (subst (λ c. Holds M test c es) (sym fed.1) h)

  pub feed_runs : (e : E) (was is : Chart A K E P V U G H B) (r : Result ℕ FeedFault) → FedEvent M test e was is r → is.book ≡ was.book → length is.weights.now ≡ length was.weights.now
      → RunsOn M test (a_feed e) was is
  feed_runs e was is r fed book long = runs_by (a_feed e) was is book long (feed_after e was is r fed)

  -- a withdrawal
  withdraw_after : (k : ℕ) (was is : Chart A K E P V U G H B) (r : Result ℕ WithdrawFault) → Withdrawn M test k was is r
      → (es : List E) → Holds M test was es → Holds M test is (cond (withdraw_refusal (length es) k == 0) (take (length es - k) es) es)
  withdraw_after k was is (Ok r) gone es h =
      let none : withdraw_refusal (length es) k ≡ 0 = ap (λ n. withdraw_refusal n k) h.many ∙ gone.0 in
      subst (Holds M test is) (sym (cond-true (eqb (withdraw_refusal (length es) k) 0) (take (length es - k) es) es (eq-eqb (withdraw_refusal (length es) k) 0 none))) (gone.3 es h)
  withdraw_after k was is (Err TooMany) gone es h =
      let some : withdraw_refusal (length es) k ≡ 12 = ap (λ n. withdraw_refusal n k) h.many ∙ gone.0 in
      subst (Holds M test is) (sym (cond-false (eqb (withdraw_refusal (length es) k) 0) (take (length es - k) es) es (ne_eqb (withdraw_refusal (length es) k) 0 (λ z. omega (arith, some, z)))))
      (subst (λ c. Holds M test c es) (sym gone.1) h)

  pub withdraw_runs : (k : ℕ) (was is : Chart A K E P V U G H B) (r : Result ℕ WithdrawFault) → Withdrawn M test k was is r → is.book ≡ was.book → length is.weights.now ≡ length was.weights.now
      → RunsOn M test (a_withdraw k) was is
  withdraw_runs k was is r gone book long = runs_by (a_withdraw k) was is book long (withdraw_after k was is r gone)
