-- The lines that are printed for traces.
use Rattle.std.proofs.Common.{◌≡◌, ℕ, zero, suc, ◌+◌, ◌<◌, ◌≤◌, ◌↔◌, Bool, true, false, ◌&&◌, ltb, leb, nat_eq, Result, List, [], ◌∷◌, ◌++◌, length, sym, refl, ap, ◌∙◌, subst, inl, inr, ⊎_elim, zero-add, zero-mul, arith}
use Rattle.std.specs.Prelude.{OnOk, decimal, codes}
use Rattle.std.proofs.lemmas.Result.{on_ok_weaker}
use Rattle.std.specs.Fmt.{digits}
use Rattle.std.proofs.lemmas.Bool.{both_ways, cases_lt, cases_Bool, cond-true, cond-false, lt-ltb, le-ltb, le-leb, leb-true}
use Rattle.grammar.specs.Cells.{column_place, feed_refusal}
use Rattle.grammar.specs.Binarise.{binarised}
use Rattle.book.specs.declared.alphabet.Alphabet.{Ghosts}
use Rattle.book.specs.declared.books.ClosedBook.{ClosedBook}
use Rattle.book.specs.Books.{closed_book, closed_fits}
use Rattle.book.specs.Loads.{load}
use Rattle.chart.specs.declared.fault.FeedFault.{FeedFault}
use Rattle.chart.specs.declared.fault.FeedFault.TheVariants.{NoRoom}
use Rattle.chart.specs.Faults.{feed_number}
use Rattle.chart.proofs.Places.{start_mono}
use Rattle.chart.proofs.Running.{no_room}
use Rattle.chart.proofs.Totalling.{no_refusal}
use Rattle.programs.proofs.Feeding.{room_more}
use Rattle.programs.specs.declared.totals.Totals.{Totals}
use Rattle.programs.specs.declared.totals.Tables.{Tables}
use Rattle.programs.specs.Answers.{AreTotals, HasRoom, HaveRoom, totals_words}
use Rattle.programs.specs.Output.{has_room, HaveWeights, trace_totals, trace_line, rules_part, traces_part, loaded_output, line_output}

eleven : codes "refused " ++ decimal 11 ≡ codes "refused 11"
unfolding digits
eleven = refl

first_column : (S : ℕ) → column_place S 1 ≤ 15360
first_column S = omega (arith, zero-mul S)

-- the test of the room says yes exactly where there is room
room_yes : (S n : ℕ) → HasRoom S 15360 n → has_room S n ≡ true
room_yes S n (inl z) = ap (has_room S) z ∙ ap (λ b. true && b) (le-leb (column_place S 1) 15360 (first_column S))
room_yes S n (inr (few, low)) =
    ap (λ b. b && leb (column_place S (n + 1)) 15360) (le-leb n 256 (omega arith))
    ∙ ap (λ b. true && b) (le-leb (column_place S (n + 1)) 15360 (subst (λ k. column_place S (k + 1) ≤ 15360) (zero-add n) low))

pub both_true : (a b : Bool) → a && b ≡ true → (a ≡ true) × (b ≡ true)
both_true true b h = (refl, h)
both_true false b h = absurd (both_ways _ refl h)

room_there : (S n : ℕ) → has_room S n ≡ true → HasRoom S 15360 n
room_there S n h =
    let p = both_true (leb n 256) (leb (column_place S (n + 1)) 15360) h in
    let few : n ≤ 256 = leb-true n 256 p.0 in
    inr (omega arith, subst (λ k. column_place S (k + 1) ≤ 15360) (sym (zero-add n)) (leb-true (column_place S (n + 1)) 15360 p.1))

-- there is room for a trace exactly if no feed of its events is refused
no_feed_refused : (S n k : ℕ) → k < n → HasRoom S 15360 n → feed_refusal S 15360 k ≡ 0
no_feed_refused S n k l (inl none) = absurd (omega arith)
no_feed_refused S n k l (inr (few, low)) = no_refusal S 15360 k (omega arith) (omega (arith, low, start_mono S (k + 2) (0 + n + 1) (omega arith)))

at_most_256 : (S n : ℕ) → ((k : ℕ) → k < n → feed_refusal S 15360 k ≡ 0) → n ≤ 256
at_most_256 S n all = ⊎_elim (λ (h : 256 < n). omega (arith, all 256 h, no_room S 15360 256 (omega arith) (inl (omega arith)))) (λ (h : n ≤ 256). h) (cases_lt 256 n)

each_feed_taken : (S n : ℕ) → ((k : ℕ) → k < n → feed_refusal S 15360 k ≡ 0) → HasRoom S 15360 n
each_feed_taken S zero all = inl refl
each_feed_taken S (suc n) all =
    let few = at_most_256 S (suc n) all in
    let next : n + 1 ≡ suc n = omega arith in
    subst (HasRoom S 15360) next (room_more S 15360 0 n n (omega arith) (omega arith) (all n (omega arith)))

pub room_law : (S n : ℕ) → (has_room S n ≡ true) ↔ ((k : ℕ) → k < n → feed_refusal S 15360 k ≡ 0)
room_law S n = ((λ h k l. no_feed_refused S n k l (room_there S n h)), (λ all. room_yes S n (each_feed_taken S n all)))

-- the three tables have as many weights
one_room : (S n : ℕ) (t : Tables) → HaveWeights t → HaveRoom S t n → HasRoom S 15360 n
one_room S n t h r = subst (λ m. HasRoom S m n) h.0 r.0

each_room : (S n : ℕ) (t : Tables) → HaveWeights t → HasRoom S 15360 n → HaveRoom S t n
each_room S n t h r = (subst (λ m. HasRoom S m n) (sym h.0) r, subst (λ m. HasRoom S m n) (sym h.1) r, subst (λ m. HasRoom S m n) (sym h.2) r)

module _ {A : Type 0} {G : Ghosts A ℕ ℕ} (b : ClosedBook A ℕ ℕ G) (w : List ℕ) (tables : Tables) (weights : HaveWeights tables) where
  abbrev S : ℕ
  S = (binarised (closed_book b)).symbols

  -- the line of a trace that was taken
  pub line_of_totals : (t : Totals) → AreTotals b nat_eq w t → HaveRoom S tables (length w)
      → decimal (length w) ++ (32 ∷ (totals_words t ++ (10 ∷ []))) ≡ trace_line (closed_book b) (closed_fits nat_eq b) w
  unfolding trace_line
  line_of_totals t are room =
      let fits = closed_fits nat_eq b in
      let same : t ≡ trace_totals (closed_book b) fits w = (let v = are.verdict.is_total in let c = are.count.is_total in let l = are.least.is_total in λ i. record { verdict = record { 0 = v i }; count = c i; least = l i }) in
      ap (λ (v : Totals). decimal (length w) ++ (32 ∷ (totals_words v ++ (10 ∷ [])))) same
      ∙ sym (ap (λ l. decimal (length w) ++ (32 ∷ (l ++ (10 ∷ []))))
      (cond-true (has_room S (length w)) (totals_words (trace_totals (closed_book b) fits w)) (codes "refused 11") (room_yes S (length w) (one_room S (length w) tables weights room))))

  -- the line of a trace that was refused
  pub line_of_refusal : (f : FeedFault) (n : ℕ) → n ≡ feed_number f → (HaveRoom S tables (length w) → ⊥)
      → decimal (length w) ++ (32 ∷ (codes "refused " ++ (decimal n ++ (10 ∷ [])))) ≡ trace_line (closed_book b) (closed_fits nat_eq b) w
  unfolding trace_line
  line_of_refusal NoRoom n e none =
      let fits = closed_fits nat_eq b in
      let no : has_room S (length w) ≡ false = ⊎_elim
      (λ (y : has_room S (length w) ≡ true). absurd (none (each_room S (length w) tables weights (room_there S (length w) y))))
      (λ (f : has_room S (length w) ≡ false). f)
      (cases_Bool (has_room S (length w))) in
      ap (λ k. decimal (length w) ++ (32 ∷ (codes "refused " ++ (decimal k ++ (10 ∷ []))))) e
      ∙ ap (λ l. decimal (length w) ++ (32 ∷ (l ++ (10 ∷ [])))) eleven
      ∙ sym (ap (λ l. decimal (length w) ++ (32 ∷ (l ++ (10 ∷ []))))
      (cond-false (has_room S (length w)) (totals_words (trace_totals (closed_book b) fits w)) (codes "refused 11") no))

-- what is added where memory does not fail, spelled otherwise
pub printed : {X Y : Type 0} (r : Result X Y) (is was added line : List ℕ) → added ≡ line → OnOk r (is ≡ was ++ added) → OnOk r (is ≡ was ++ line)
printed r is was added line e h = on_ok_weaker r (λ p. p ∙ ap (λ l. was ++ l) e) h

-- an input that is too long
pub over_limit : (input : List ℕ) → 32768 < length input → line_output input ≡ codes "refused 25\n"
unfolding line_output
over_limit input h = cond-true (ltb 32768 (length input)) (codes "refused 25\n") (loaded_output (load 26 [] (rules_part input)) (traces_part input)) (lt-ltb 32768 (length input) h)

-- any other, by its parts
pub within_limit : (input rules traces : List ℕ) → length input ≤ 32768 → rules ≡ rules_part input → traces ≡ traces_part input → loaded_output (load 26 [] rules) traces ≡ line_output input
unfolding line_output
within_limit input rules traces h r t =
    ap (λ w. loaded_output (load 26 [] w) traces) r ∙ ap (loaded_output (load 26 [] (rules_part input))) t
    ∙ sym (cond-false (ltb 32768 (length input)) (codes "refused 25\n") (loaded_output (load 26 [] (rules_part input)) (traces_part input)) (le-ltb 32768 (length input) h))
