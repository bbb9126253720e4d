-- The first line that is % alone, by the lines in turn.
use Rattle.std.proofs.Common.{◌≡◌, ℕ, ◌+◌, ◌-◌, ◌<◌, ◌≤◌, ◌⊎◌, Bool, true, false, true≢false, cond, eqb, nat_eq, ltb, Some, None, Option, Bor, List, [], ◌∷◌, length, take, drop, sym, refl, ap, ◌∙◌, subst, inl, inr, ⊎_elim, rules, arith}
use Rattle.std.specs.Prelude.{MatchOption, slice_range, unwrap_or}
use lib.Pointwise.{pointwise}
use Rattle.std.proofs.lemmas.List.{drop_all, take_all, take-take, length-drop}
use Rattle.std.proofs.lemmas.Slice.Eq.{slice_eq-Decides, compares_Decides}
use Rattle.std.proofs.lemmas.Bool.Decides.{same_from_decides, Decides-eqb}
use Rattle.std.proofs.lemmas.Bool.{cases_lt, cond-true, cond-false, lt-ltb, le-ltb, eqb-true}
use Rattle.grammar.specs.Lists.{first_of, same_numbers}
use Rattle.text.specs.Words.{Piece, piece, pieces, lines, IsLineEnd}
use Rattle.text.specs.Turns.{IsNextLine}
use Rattle.text.specs.declared.lines.Line.{Line}
use Rattle.text.specs.declared.lines.Lines.{Lines}
use Rattle.text.proofs.Wording.{stretch, line_at}
use Rattle.programs.specs.Output.{divides, divider, rules_part, traces_part}
use Rattle.programs.proofs.Printing.{both_true}
use Rattle.programs.proofs.Texts.{bytes_at}

-- a text that passes the test is % alone
pub just : (w : List ℕ) → same_numbers w (37 ∷ []) ≡ true → w ≡ 37 ∷ []
just [] h = absurd (true≢false (sym h))
just (b ∷ []) h = ap (λ c. c ∷ []) (eqb-true b 37 (both_true (eqb b 37) true h).0)
just (b ∷ (c ∷ w)) h = absurd (true≢false (sym (both_true (eqb b 37) false h).1))

-- std's comparison of two texts is that of the definition
pub compared : (r : Bool) (w v : List ℕ) → r ≡ pointwise nat_eq w v → r ≡ same_numbers w v
compared r w v e = same_from_decides r (same_numbers w v) (slice_eq-Decides Decides-eqb w v r e) (compares_Decides same_numbers (search rules) w v)

-- what get gives behind a place, or nothing
pub behind : (xs : List ℕ) (n : ℕ) (o : Option (Bor (List ℕ))) (d : Bor (List ℕ))
    → MatchOption o ((length xs < n) ⊎ (length xs < length xs)) (λ x. (n ≤ length xs) × (length xs ≤ length xs) × (x.now ≡ slice_range xs n (length xs)) × (length x.now + n ≡ length xs))
    → d.now ≡ [] → (unwrap_or o d).now ≡ drop n xs
behind xs n None d (inl h) e = e ∙ sym (drop_all n xs (omega arith))
behind xs n None d (inr h) e = absurd (omega arith)
behind xs n (Some x) d h e = h.2 ∙ take_all (length xs - n) (drop n xs) (omega (arith, length-drop n xs))

module _ (xs : List ℕ) where
  -- where the text ends
  abbrev end : Piece
  end = piece (length xs) []

  -- where the first line that is % alone begins, of those from a place on
  abbrev pub first_from : ℕ → ℕ
  first_from from = (first_of divides end (lines from (drop from xs))).place

  pub all_lines : divider xs ≡ first_from 0
  unfolding divider
  all_lines = refl

  -- past the end there is none
  pub none_past : (from : ℕ) → length xs ≤ from → first_from from ≡ length xs
  unfolding pieces
  none_past from h = ap (λ l. (first_of divides end (lines from l)).place) (drop_all from xs h)

  line_or_later : (from e : ℕ) → from < length xs → IsLineEnd xs from e → first_from from ≡ cond (divides (piece from (stretch xs from e))) from (first_from (e + 1))
  line_or_later from e h is =
      let p = piece from (stretch xs from e) in
      let rest = cond (ltb e (length xs)) (lines (e + 1) (drop (e + 1) xs)) [] in
      let later : (first_of divides end rest).place ≡ first_from (e + 1) = ⊎_elim
      (λ (l : e < length xs). ap (λ ls. (first_of divides end ls).place) (cond-true (ltb e (length xs)) (lines (e + 1) (drop (e + 1) xs)) [] (lt-ltb e (length xs) l)))
      (λ (g : length xs ≤ e).
      ap (λ ls. (first_of divides end ls).place) (cond-false (ltb e (length xs)) (lines (e + 1) (drop (e + 1) xs)) [] (le-ltb e (length xs) g)) ∙ sym (none_past (e + 1) (omega arith)))
      (cases_lt e (length xs)) in
      ap (λ ls. (first_of divides end ls).place) (line_at xs from e (omega arith) is)
      ∙ (elim (divides p) as (λ b. (cond b p (first_of divides end rest)).place ≡ cond b from (first_from (e + 1))) [ true ↦ refl | false ↦ later ])

  module _ (was is : Lines) (l : Line) (e : was.text.now ≡ xs) (h : IsNextLine was l is) where
    abbrev w : List ℕ
    w = drop l.from l.text.now

    this_or_later : first_from was.from ≡ cond (same_numbers w (37 ∷ [])) was.from (first_from is.from)
    this_or_later =
        let to = length l.text.now in
        let some : was.from < length xs = omega (arith, h.some, ap length e) in
        let ends = subst (λ n. IsLineEnd xs n to) h.begins (subst (λ x. IsLineEnd x l.from to) e h.ends) in
        line_or_later was.from to some ends
        ∙ ap (λ v. cond (same_numbers v (37 ∷ [])) was.from (first_from (to + 1))) (sym (bytes_at xs was is l e h))
        ∙ ap (λ n. cond (same_numbers w (37 ∷ [])) was.from (first_from n)) (sym h.past)

    -- the next line is not % alone
    pub passed : same_numbers w (37 ∷ []) ≡ false → first_from was.from ≡ first_from is.from
    passed f = this_or_later ∙ cond-false (same_numbers w (37 ∷ [])) was.from (first_from is.from) f

    -- it is
    pub stopped : same_numbers w (37 ∷ []) ≡ true → first_from was.from ≡ was.from
    stopped t = this_or_later ∙ cond-true (same_numbers w (37 ∷ [])) was.from (first_from is.from) t

    -- then it lies between the two parts
    module _ (d : divider xs ≡ first_from was.from) (t : same_numbers w (37 ∷ []) ≡ true) where
      at : divider xs ≡ l.from
      at = d ∙ stopped t ∙ sym h.begins

      pub before : take l.from l.text.now ≡ rules_part xs
      before =
          let to = length l.text.now in
          let i = l.inside in
          ap (take l.from) (h.part ∙ ap (take to) e) ∙ take-take l.from to xs i ∙ ap (λ n. take n xs) (sym at)

      pub after : drop (length l.text.now + 1) xs ≡ traces_part xs
      after =
          let i = l.inside in
          let n : length l.text.now + 1 ≡ divider xs + 2 = omega (arith, at, length-drop l.from l.text.now, ap length (just w t)) in
          ap (λ m. drop m xs) n

  -- no line is % alone
  module _ (from : ℕ) (d : divider xs ≡ first_from from) (g : length xs ≤ from) where
    pub all_before : xs ≡ rules_part xs
    all_before = let n : divider xs ≡ length xs = d ∙ none_past from g in sym (take_all (divider xs) xs (omega arith))

    pub none_after : [] ≡ traces_part xs
    none_after = let n : divider xs ≡ length xs = d ∙ none_past from g in sym (drop_all (divider xs + 2) xs (omega arith))
