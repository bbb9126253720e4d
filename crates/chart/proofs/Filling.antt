-- The column of an event, middle by middle.
use Rattle.std.proofs.Common.{◌≡◌, ℕ, zero, suc, ◌+◌, ◌-◌, ◌<◌, ◌≤◌, Bool, List, [], ◌∷◌, ◌++◌, map, length, get_or, sym, refl, ap, ◌∙◌, subst, ap₂, inl, inr, ⊎_elim, add-one, arith}
use Rattle.std.proofs.lemmas.List.{length_push, get_or_push}
use Rattle.std.proofs.lemmas.Bool.{cases_lt}
use Rattle.grammar.specs.Lists.{Mem, span, count_up, those}
use Rattle.grammar.specs.Semiring.{Ops, Semiring, sum}
use Rattle.grammar.specs.Productions.{Book, Sound}
use Rattle.grammar.specs.Binarise.{binarised}
use Rattle.grammar.specs.Strict.{StrictFormRule, strict_rules, strict_rules_of}
use Rattle.grammar.specs.Cells.{is_binary, sides}
use Rattle.grammar.specs.Weights.{strict_weight_of, cell_of}
use Rattle.grammar.proofs.Lists.{those_mem, count_up_mem}
use Rattle.grammar.proofs.Sums.{sum_cong, sum_map}
use Rattle.grammar.proofs.StrictFound.{strict_found}
use Rattle.grammar.proofs.Chart.{span_equations}
use Rattle.chart.specs.Table.{column_place, cell_place, cell_at, SameOutside}
use Rattle.chart.specs.Inner.{Added, AddedStarts, Cleared, over_event, over_parts}
use Rattle.chart.specs.Charts.{HoldsChart}
use Rattle.chart.proofs.SumLaws.{sum_exchange}
use Rattle.chart.proofs.Outside.{same_all, same_then, same_wider}
use Rattle.chart.proofs.RuleSums.{parts_within}
use Rattle.chart.proofs.Places.{cell_before, cell_within, cell_next, cell_mono}

-- a write to cells before the start k of the column of event e leaves what is outside the column
pub outside_more : {V : Type 0} (d : V) (s e k : ℕ) (first was is : List V) → k < e → SameOutside d (column_place s e) (column_place s (e + 1)) first was
    → SameOutside d (column_place s e) (cell_place s e k) was is → SameOutside d (column_place s e) (column_place s (e + 1)) first is
outside_more d s e k first was is h before now =
    same_then d (column_place s e) (column_place s (e + 1)) first was is before
    (same_wider d (column_place s e) (cell_place s e k) (column_place s e) (column_place s (e + 1)) was is (omega arith) (omega (arith, cell_within s e k h)) now)

-- so do the clearing of the column, the writes to its last cell, and the rest
pub outside_all : {V : Type 0} (d : V) (s e : ℕ) (was mid first is : List V) → 0 < e
    → SameOutside d (column_place s e) (column_place s (e + 1)) was mid → SameOutside d (cell_place s e (e - 1)) (cell_place s e (e - 1) + s) mid first
    → SameOutside d (column_place s e) (column_place s (e + 1)) first is → SameOutside d (column_place s e) (column_place s (e + 1)) was is
outside_all d s e was mid first is he cleared one rest =
    let a = column_place s e in
    let b = column_place s (e + 1) in
    let last = cell_place s e (e - 1) in
    same_then d a b was first is
    (same_then d a b was mid first cleared (same_wider d last (last + s) a b mid first (omega arith) (omega (arith, cell_within s e (e - 1) (omega arith))) one)) rest

-- numbers from i + a on
count_up_from : (i a n : ℕ) → count_up (i + a) n ≡ map (λ m. i + m) (count_up a n)
count_up_from i a zero = refl
count_up_from i a (suc n) = ap (λ l. (i + a) ∷ l) (ap (λ m. count_up m n) (let q : suc (i + a) ≡ i + suc a = omega arith in q) ∙ count_up_from i (suc a) n)

module _ {V E : Type 0} (W : Book) (sound : Sound W) (M : Ops V) (L : Semiring M) (fits : E → ℕ → Bool) where
  abbrev S : ℕ
  S = (binarised W).symbols

  abbrev cell : ℕ → List E → V
  cell x w = cell_of W M fits x w

  -- the strict pairs over cells that agree
  parts_same : (f h l r : ℕ → V) (x : ℕ) → x < S → ((y : ℕ) → y < S → f y ≡ l y) → ((z : ℕ) → z < S → h z ≡ r z) → over_parts W M f h x ≡ over_parts W M l r x
  parts_same f h l r x hx left right =
      sum_cong M L _ _ (those (λ (q : StrictFormRule). is_binary q.right) (strict_rules_of (binarised W) x)) (λ q m.
      let k = those_mem (λ (q : StrictFormRule). is_binary q.right) q (strict_rules_of (binarised W) x) m in
      let n = those_mem _ q (strict_rules (binarised W)) (subst (λ (l : List StrictFormRule). Mem q l) (sym (strict_found (binarised W) x hx)) k.0) in
      let b = parts_within W sound q n.0 k.1 in
      ap₂ (λ u v. M.times (strict_weight_of W M q) (M.times u v)) (left (sides q.right).0 b.1) (right (sides q.right).1 b.2))

  -- what the middle m adds to the cell of start i, where e is the last event
  abbrev cut_sum : List E → ℕ → ℕ → ℕ → ℕ → V
  cut_sum ev e i x m = over_parts W M (λ y. cell y (span ev i (m - i))) (λ z. cell z (span ev m (e - m))) x

  -- over all middles that is the cell
  all_cuts : (ev : List E) (e i x : ℕ) → length ev ≡ e → i + 1 < e → sum M (cut_sum ev e i x) (count_up (i + 1) (e - (i + 1))) ≡ cell x (span ev i (e - i))
  all_cuts ev e i x n h =
      ap (sum M (cut_sum ev e i x)) (count_up_from i 1 (e - (i + 1)))
      ∙ sum_map M L (cut_sum ev e i x) (λ m. i + m) (count_up 1 (e - (i + 1)))
      ∙ ap (λ l. sum M (λ m. cut_sum ev e i x (i + m)) (count_up 1 l)) (let q : e - (i + 1) ≡ e - i - 1 = omega arith in q)
      ∙ sum_cong M L _ _ (count_up 1 (e - i - 1)) (λ m k.
      let c = count_up_mem 1 (e - i - 1) m k in
      let short : i + m - i ≡ m = omega arith in
      let rest : e - (i + m) ≡ e - i - m = omega arith in
      ap₂ (λ a b. over_parts W M (λ y. cell y (span ev i a)) (λ z. cell z (span ev (i + m) b)) x) short rest)
      ∙ sym (sum_exchange M L _ (those (λ (r : StrictFormRule). is_binary r.right) (strict_rules_of (binarised W) x)) (count_up 1 (e - i - 1)))
      ∙ sym ((span_equations M L E W fits ev x i).more_events (e - i) (omega arith) (omega arith))

  -- the columns before that of event e
  abbrev pub ColumnsBefore : List E → ℕ → List V → Type 0
  ColumnsBefore ev e table = (j i x : ℕ) → 0 < j → j < e → i < j → x < S → cell_at M table (cell_place S j i) x ≡ cell x (span ev i (j - i))

  -- the column of event e with the middles from k on: a start at or after the last but one of these is complete, the others have the sum so far
  abbrev pub FilledFrom : List E → ℕ → ℕ → List V → Type 0
  FilledFrom ev e k table =
      ((i x : ℕ) → i < e → k ≤ i + 1 → x < S → cell_at M table (cell_place S e i) x ≡ cell x (span ev i (e - i)))
      × ((i x : ℕ) → i + 1 < k → x < S → cell_at M table (cell_place S e i) x ≡ sum M (cut_sum ev e i x) (count_up k (e - k)))

  pub before_kept : (ev : List E) (e b : ℕ) (was is : List V) → SameOutside M.zero (column_place S e) b was is → ColumnsBefore ev e was → ColumnsBefore ev e is
  before_kept ev e b was is out before j i x hj he hi hx = out (cell_place S j i + x) (inl (omega (arith, cell_before S j e i hi he))) ∙ before j i x hj he hi hx

  -- the cell over the last event alone
  pub filled_first : (ev : List E) (e : ℕ) (event : E) (was mid is : List V) → 0 < e → length ev ≡ e → get_or ev (e - 1) event ≡ event
      → Cleared M (column_place S e) (column_place S (e + 1)) was mid → Added M S (cell_place S e (e - 1)) (over_event W M fits event) mid is → FilledFrom ev e e is
  filled_first ev e event was mid is he n last (o, z) (out, added) = (complete, (λ i x hi hx. none i x hi hx))
    where
      empty : (i x : ℕ) → i < e → x < S → cell_at M mid (cell_place S e i) x ≡ M.zero
      empty i x hi hx = z (cell_place S e i + x) (omega arith) (omega (arith, cell_within S e i hi))

      complete : (i x : ℕ) → i < e → e ≤ i + 1 → x < S → cell_at M is (cell_place S e i) x ≡ cell x (span ev i (e - i))
      complete i x hi hk hx =
          let q : i ≡ e - 1 = omega arith in
          let one : 1 ≡ e - i = omega arith in
          ap (λ j. cell_at M is (cell_place S e j) x) q ∙ added x hx ∙ ap (λ v. M.plus v (over_event W M fits event x)) (empty (e - 1) x (omega arith) hx)
          ∙ L.plus_zero (over_event W M fits event x)
          ∙ ap (λ d. over_event W M fits d x) (sym (ap (λ j. get_or ev j event) q ∙ last))
          ∙ sym ((span_equations M L E W fits ev x i).one_event event (omega arith)) ∙ ap (λ l. cell x (span ev i l)) one

      none : (i x : ℕ) → i + 1 < e → x < S → cell_at M is (cell_place S e i) x ≡ sum M (cut_sum ev e i x) (count_up e (e - e))
      none i x hi hx =
          let nothing : 0 ≡ e - e = omega arith in
          out (cell_place S e i + x) (inl (omega (arith, cell_next S e i, cell_mono S e (i + 1) (e - 1) (omega arith)))) ∙ empty i x (omega arith) hx
          ∙ ap (λ l. sum M (cut_sum ev e i x) (count_up e l)) nothing

  -- one middle more
  pub filled_more : (ev : List E) (e k h : ℕ) (was is : List V) → length ev ≡ e → 0 < k → k < e → h ≡ k + 1 → ColumnsBefore ev e was
      → AddedStarts M S e k (λ i. over_parts W M (cell_at M was (cell_place S k i)) (cell_at M was (cell_place S e k))) was is
      → FilledFrom ev e h was → FilledFrom ev e k is
  filled_more ev e k h was is n hk he next before (out, added) (complete, sofar) = (now_complete, (λ i x hi hx. more i x (omega arith) hx))
    where
      more : (i x : ℕ) → i < k → x < S → cell_at M is (cell_place S e i) x ≡ sum M (cut_sum ev e i x) (count_up k (e - k))
      more i x hi hx =
          let one : suc (e - h) ≡ e - k = omega arith in
          added i x hi hx
          ∙ ap₂ M.plus (sofar i x (omega arith) hx)
          (parts_same (cell_at M was (cell_place S k i)) (cell_at M was (cell_place S e k)) (λ y. cell y (span ev i (k - i))) (λ z. cell z (span ev k (e - k))) x hx
          (λ y hy. before k i y hk he hi hy) (λ z hz. complete k z he (omega arith) hz))
          ∙ L.plus_comm (sum M (cut_sum ev e i x) (count_up h (e - h))) (cut_sum ev e i x k)
          ∙ ap (λ a. M.plus (cut_sum ev e i x k) (sum M (cut_sum ev e i x) (count_up a (e - h)))) (next ∙ add-one k)
          ∙ ap (λ l. sum M (cut_sum ev e i x) (count_up k l)) one

      now_complete : (i x : ℕ) → i < e → k ≤ i + 1 → x < S → cell_at M is (cell_place S e i) x ≡ cell x (span ev i (e - i))
      now_complete i x hi hki hx =
          ⊎_elim
          (λ (b : i < k).
          let q : k ≡ i + 1 = omega arith in
          more i x b hx ∙ ap (λ a. sum M (cut_sum ev e i x) (count_up a (e - a))) q ∙ all_cuts ev e i x n (omega arith))
          (λ (b : k ≤ i). out (cell_place S e i + x) (inr (omega (arith, cell_mono S e k i b))) ∙ complete i x hi (omega arith) hx)
          (cases_lt i k)

  -- the events before keep their columns when one comes after
  pub before_pushed : (es : List E) (event : E) (table : List V) → HoldsChart W M fits es table → ColumnsBefore (es ++ (event ∷ [])) (length es + 1) table
  before_pushed es event table chart j i x hj he hi hx =
      chart.cells j i x hj (omega arith) hi hx ∙ sym ((span_equations M L E W fits es x i).events_after (event ∷ []) (j - i) (omega arith))

  -- the whole column makes the chart of one event more
  pub filled_all : (ev : List E) (e k : ℕ) (table : List V) → length ev ≡ e → k ≤ 1 → column_place S (e + 1) ≤ length table → ColumnsBefore ev e table → FilledFrom ev e k table → HoldsChart W M fits ev table
  filled_all ev e k table n hk room before (complete, sofar) = record {
    room = subst (λ m. column_place S (m + 1) ≤ length table) (sym n) room;
    cells = λ j i x hj he hi hx. ⊎_elim
        (λ (b : j < e). before j i x hj b hi hx)
        (λ (b : e ≤ j). subst (λ m. i < m → cell_at M table (cell_place S m i) x ≡ cell x (span ev i (m - i))) (let q : e ≡ j = omega arith in q) (λ c. complete i x c (omega arith) hx) hi)
        (cases_lt j e);
  }

  -- the loop over the middles, down to k, of the column of event e
  abbrev pub Middles : ℕ → ℕ → ℕ → List V → List V → Type 0
  Middles s e k first is =
      SameOutside M.zero (column_place s e) (column_place s (e + 1)) first is
      × ((ev : List E) → length ev ≡ e → ColumnsBefore ev e first → FilledFrom ev e e first → FilledFrom ev e k is)

  pub middles_none : (s e k : ℕ) (first : List V) → k ≡ e → Middles s e k first first
  middles_none s e k first q = (same_all M.zero (column_place s e) (column_place s (e + 1)) first, λ ev n before filled. subst (λ m. FilledFrom ev e m first) (sym q) filled)

  pub middles_more : (s e k h : ℕ) (first was is : List V) → s ≡ S → 0 < k → k < e → h ≡ k + 1
      → AddedStarts M s e k (λ i. over_parts W M (cell_at M was (cell_place s k i)) (cell_at M was (cell_place s e k))) was is
      → Middles s e h first was → Middles s e k first is
  middles_more s e k h first was is q hk he next =
      subst (λ n. AddedStarts M n e k (λ i. over_parts W M (cell_at M was (cell_place n k i)) (cell_at M was (cell_place n e k))) was is → Middles n e h first was → Middles n e k first is) (sym q)
      (λ added inv. (
        same_then M.zero (column_place S e) (column_place S (e + 1)) first was is inv.0
            (same_wider M.zero (column_place S e) (cell_place S e k) (column_place S e) (column_place S (e + 1)) was is (omega arith) (omega (arith, cell_within S e k he)) added.0),
        λ ev n before filled. filled_more ev e k h was is n hk he next (before_kept ev e (column_place S (e + 1)) first was inv.0 before) added (inv.1 ev n before filled),
      ))

  -- the column, cleared, with the cell over its event alone, and then all middles
  pub middles_all : (s e k : ℕ) (event : E) (was mid first is : List V) → s ≡ S → 0 < e → k ≤ 1 → column_place s (e + 1) ≤ length is
      → Cleared M (column_place s e) (column_place s (e + 1)) was mid → Added M s (cell_place s e (e - 1)) (over_event W M fits event) mid first → Middles s e k first is
      → (es : List E) → length es + 1 ≡ e → HoldsChart W M fits es was → HoldsChart W M fits (es ++ (event ∷ [])) is
  middles_all s e k event was mid first is q he hk =
      subst (λ n. column_place n (e + 1) ≤ length is → Cleared M (column_place n e) (column_place n (e + 1)) was mid → Added M n (cell_place n e (e - 1)) (over_event W M fits event) mid first → Middles n e k first is
      → (es : List E) → length es + 1 ≡ e → HoldsChart W M fits es was → HoldsChart W M fits (es ++ (event ∷ [])) is) (sym q) whole
    where
      whole : column_place S (e + 1) ≤ length is → Cleared M (column_place S e) (column_place S (e + 1)) was mid → Added M S (cell_place S e (e - 1)) (over_event W M fits event) mid first → Middles S e k first is
          → (es : List E) → length es + 1 ≡ e → HoldsChart W M fits es was → HoldsChart W M fits (es ++ (event ∷ [])) is
      whole long zeros one inv es n chart =
          let a = column_place S e in
          let b = column_place S (e + 1) in
          let begun = same_then M.zero a b was mid first zeros.0
          (same_wider M.zero (cell_place S e (e - 1)) (cell_place S e (e - 1) + S) a b mid first (omega arith) (omega (arith, cell_within S e (e - 1) (omega arith))) one.0) in
          let ev : List E = es ++ (event ∷ []) in
          let many : length ev ≡ e = length_push es event ∙ n in
          let before : ColumnsBefore ev e was = subst (λ m. ColumnsBefore ev m was) n (before_pushed es event was chart) in
          let before-first = before_kept ev e b was first begun before in
          filled_all ev e k is many hk long (before_kept ev e b first is inv.0 before-first)
          (inv.1 ev many before-first (filled_first ev e event was mid first he many (get_or_push es event event (e - 1) (omega arith)) zeros one))
