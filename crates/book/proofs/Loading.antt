-- What a load does, line by line.
use Rattle.std.proofs.Common.{◌≡◌, ℕ, suc, ◌+◌, ◌-◌, ◌<◌, ◌≤◌, Bool, true, false, cond, eqb, ltb, leb, List, [], ◌∷◌, ◌++◌, map, length, take, drop, sym, refl, ap, ◌∙◌, subst, inl, inr, ⊎_elim, append_assoc, append-nil, arith}
use Rattle.std.proofs.lemmas.List.{length_push, take_all, length-take, length-take-le, length-drop, drop-take, drop_all}
use Rattle.std.proofs.lemmas.Bool.{both_ways, cases_Bool, cond-true, cond-false, eq-eqb, ne_eqb, leb-false, lt-ltb, le-ltb}
use Rattle.std.proofs.lemmas.Bool.Decides.{nat_tests}
use Rattle.text.specs.Words.{Piece, piece, pieces, ends_line, lines, words, line_words, IsLineEnd}
use Rattle.text.specs.Turns.{words_of, outcome_of, IsNextLine}
use Rattle.text.specs.declared.lines.Line.{Line}
use Rattle.text.specs.declared.lines.Lines.{Lines}
use Rattle.text.specs.Outcomes.{Outcome, nothing, rule, fault, written, line, line_text, Writable, in_nine}
use Rattle.text.proofs.Short.{first_nine}
use Rattle.text.proofs.Wording.{pieces_last, pieces_split, line_at}
use Rattle.text.proofs.Cutting.{cut_into}
use Rattle.text.proofs.Spelled.{of_kind}
use Rattle.text.proofs.Meaning.{line_means}
use Rattle.text.proofs.Sounding.{says_rule}
use Rattle.text.proofs.Within.{pieces_inside, words_inside, line_within, of_digits}
use Rattle.text.proofs.LineText.{text_says, text_one_line}
use Rattle.text.proofs.Later.{shift, shift_outcome, pieces_later, words_later, line_later}
use Rattle.grammar.specs.Lists.{Mem, some_of}
use Rattle.grammar.specs.Productions.{Production, all_tails}
use Rattle.grammar.specs.Binarise.{binarised}
use Rattle.grammar.specs.Strict.{strict_rules}
use Rattle.grammar.proofs.Lists.{some_from}
use Rattle.book.specs.Offers.{book, refusal, same_rule}
use Rattle.book.specs.Loads.{Load, taken, stopped, and_then, offer_line, end_of, first_place, load_lines, load, later, Stands, LoadMeans}

-- Rules with the first nine items

-- a rule that is admitted is short
admitted_short : (h n : ℕ) (u s : Bool) (rest : ℕ) → ◌≡◌ {A = ℕ} (cond (ltb 31 h) 1 (cond (ltb 8 n) 2 (cond u 3 (cond s 4 rest)))) 0 → (h ≤ 31) × (n ≤ 8) × (u ≡ false)
admitted_short h n u s rest e = (grind (arith, nat_tests), grind (arith, nat_tests), grind (arith, nat_tests))

pub admitted_low : (T : ℕ) (rules : List Production) (p : Production) → refusal T rules p ≡ 0 → (p.head ≤ 31) × (length p.right ≤ 8) × (some_of (leb (32 + T)) p.right ≡ false)
admitted_low T rules p e = admitted_short p.head (length p.right) (some_of (leb (32 + T)) p.right) (some_of (same_rule p) rules)
    (cond (leb 64 (length rules)) 5 (cond (ltb 64 (all_tails (rules ++ (p ∷ [])))) 6 (cond (ltb 1024 (length (strict_rules (binarised (book T (rules ++ (p ∷ []))))))) 7 0))) e

short_kept : (p : Production) → length p.right ≤ 9 → first_nine p ≡ p
short_kept p h = ap (λ l. written p.head l p.cost) (take_all 9 p.right h)

-- the rule with its first nine items is admitted: it is the rule
pub nine_admitted : (T : ℕ) (rules : List Production) (p : Production) → refusal T rules (first_nine p) ≡ 0 → first_nine p ≡ p
nine_admitted T rules p e = let s = (admitted_low T rules (first_nine p) e).1 in short_kept p (omega (arith, length-take 9 p.right))

-- it is refused: so is the rule
pub nine_refused : (T : ℕ) (rules : List Production) (p : Production) → (refusal T rules (first_nine p) ≡ 0 → ⊥) → eqb (refusal T rules p) 0 ≡ false
nine_refused T rules p n = ne_eqb (refusal T rules p) 0 (λ e. let s = (admitted_low T rules p e).1 in n (ap (refusal T rules) (short_kept p (omega arith)) ∙ e))

-- Outcomes with the first nine items

case_of : Outcome → ℕ
case_of nothing = 0
case_of (rule p) = 1
case_of (fault n at) = 2

pub nine_nothing : (o : Outcome) → nothing ≡ in_nine o → o ≡ nothing
unfolding case_of
nine_nothing nothing e = refl
nine_nothing (rule p) e = absurd (omega (arith, ap case_of e))
nine_nothing (fault n at) e = absurd (omega (arith, ap case_of e))

pub nine_fault : (o : Outcome) (n at : ℕ) → fault n at ≡ in_nine o → o ≡ fault n at
unfolding case_of
nine_fault nothing n at e = absurd (omega (arith, ap case_of e))
nine_fault (rule p) n at e = absurd (omega (arith, ap case_of e))
nine_fault (fault m to) n at e = sym e

pub nine_rule : (o : Outcome) (q : Production) → rule q ≡ in_nine o → (p : Production) × (o ≡ rule p) × (q ≡ first_nine p)
unfolding case_of
nine_rule nothing q e = absurd (omega (arith, ap case_of e))
nine_rule (rule p) q e = (p, refl, cc)
nine_rule (fault n at) q e = absurd (omega (arith, ap case_of e))

-- a line whose rule is admitted, or refused
pub line_admitted : (T : ℕ) (rules is : List Production) (n at : ℕ) (o : Outcome) (q : Production) → rule q ≡ in_nine o → refusal T rules q ≡ 0 → is ≡ rules ++ (q ∷ [])
    → taken is (suc n) ≡ offer_line T rules n at o
line_admitted T rules is n at o q e z i =
    let r = nine_rule o q e in
    let p = r.0 in
    let same : q ≡ p = r.2 ∙ nine_admitted T rules p (sym (ap (refusal T rules) r.2) ∙ z) in
    ap (λ l. taken l (suc n)) (i ∙ ap (λ (x : Production). rules ++ (x ∷ [])) same)
    ∙ sym (ap (offer_line T rules n at) r.1 ∙ cond-true (eqb (refusal T rules p) 0) (taken (rules ++ (p ∷ [])) (suc n)) (stopped rules 24 at) (eq-eqb (refusal T rules p) 0 (sym (ap (refusal T rules) same) ∙ z)))

pub line_refused : (T : ℕ) (rules is : List Production) (n at : ℕ) (o : Outcome) (q : Production) → rule q ≡ in_nine o → (refusal T rules q ≡ 0 → ⊥) → is ≡ rules
    → stopped is 24 at ≡ offer_line T rules n at o
line_refused T rules is n at o q e z i =
    let r = nine_rule o q e in
    let p = r.0 in
    ap (λ l. stopped l 24 at) i
    ∙ sym (ap (offer_line T rules n at) r.1 ∙ cond-false (eqb (refusal T rules p) 0) (taken (rules ++ (p ∷ [])) (suc n)) (stopped rules 24 at) (nine_refused T rules p (λ y. z (ap (refusal T rules) r.2 ∙ y))))

-- Lines in turn

append_lines : (T : ℕ) (rules : List Production) (n : ℕ) (xs ys : List Piece) → load_lines T rules n (xs ++ ys) ≡ and_then (load_lines T rules n xs) (λ held m. load_lines T held m ys)
unfolding load_lines
append_lines T rules n [] ys = refl
append_lines T rules n (l ∷ xs) ys = at (offer_line T rules n (first_place (line_words l)) (line (end_of l) (line_words l))) (λ held m. append_lines T held m xs ys)
  where
    at : (o : Load) → ((held : List Production) (m : ℕ) → load_lines T held m (xs ++ ys) ≡ and_then (load_lines T held m xs) (λ held m. load_lines T held m ys))
        → and_then o (λ held m. load_lines T held m (xs ++ ys)) ≡ and_then (and_then o (λ held m. load_lines T held m xs)) (λ held m. load_lines T held m ys)
    at (taken held m) ih = ih held m
    at (stopped held k p) ih = refl

-- the line that begins at a place of a text: t is the text up to the line's end
module _ (T : ℕ) (xs t : List ℕ) (from e : ℕ) (h : from ≤ length xs) (ends : IsLineEnd xs from e) (front : t ≡ take e xs) where
  abbrev line_there : List Piece
  line_there = words from (drop from t)

  first_line : lines from (drop from xs) ≡ piece from (drop from t) ∷ cond (ltb e (length xs)) (lines (e + 1) (drop (e + 1) xs)) []
  first_line =
      let low : from ≤ e = omega (arith, ends.later) in
      let s : from + (e - from) ≡ e = omega arith in
      line_at xs from e h ends ∙ ap (λ l. piece from l ∷ cond (ltb e (length xs)) (lines (e + 1) (drop (e + 1) xs)) []) (sym (drop-take from (e - from) xs) ∙ ap (λ n. drop from (take n xs)) s ∙ ap (drop from) (sym front))

  its_end : from + length (drop from t) ≡ length t
  its_end = let n = ap length front ∙ length-take-le e xs ends.inside in omega (arith, ends.later, length-drop from t)

  step : (rules : List Production) (n : ℕ) → load_lines T rules n (lines from (drop from xs))
      ≡ and_then (offer_line T rules n (first_place line_there) (line (length t) line_there)) (λ held m. load_lines T held m (cond (ltb e (length xs)) (lines (e + 1) (drop (e + 1) xs)) []))
  unfolding load_lines
  step rules n = ap (load_lines T rules n) first_line
      ∙ ap (λ j. and_then (offer_line T rules n (first_place line_there) (line j line_there)) (λ held m. load_lines T held m (cond (ltb e (length xs)) (lines (e + 1) (drop (e + 1) xs)) []))) its_end

  -- it was taken: the rest goes on
  line_on : (whole : Load) (rules is : List Production) (n m : ℕ) → whole ≡ load_lines T rules n (lines from (drop from xs))
      → taken is m ≡ offer_line T rules n (first_place line_there) (line (length t) line_there)
      → (e + 1 ≤ length xs → whole ≡ load_lines T is m (lines (e + 1) (drop (e + 1) xs))) × (length xs < e + 1 → whole ≡ taken is m)
  unfolding load_lines
  line_on whole rules is n m w o =
      let rest = cond (ltb e (length xs)) (lines (e + 1) (drop (e + 1) xs)) [] in
      let all : whole ≡ load_lines T is m rest = w ∙ step rules n ∙ ap (λ (z : Load). and_then z (λ held m. load_lines T held m rest)) (sym o) in (
        λ l. all ∙ ap (load_lines T is m) (cond-true (ltb e (length xs)) (lines (e + 1) (drop (e + 1) xs)) [] (lt-ltb e (length xs) (omega arith))),
        λ l. all ∙ ap (load_lines T is m) (cond-false (ltb e (length xs)) (lines (e + 1) (drop (e + 1) xs)) [] (le-ltb e (length xs) (omega arith))),
      )

  -- it was refused: the load ends
  line_stops : (whole : Load) (rules is : List Production) (n number at : ℕ) → whole ≡ load_lines T rules n (lines from (drop from xs))
      → stopped is number at ≡ offer_line T rules n (first_place line_there) (line (length t) line_there) → whole ≡ stopped is number at
  line_stops whole rules is n number at w o =
      let rest = cond (ltb e (length xs)) (lines (e + 1) (drop (e + 1) xs)) [] in
      w ∙ step rules n ∙ ap (λ (z : Load). and_then z (λ held m. load_lines T held m rest)) (sym o)

-- the next line is taken: the lines still to come go on with the rest
pub line_taken : (T : ℕ) (xs : List ℕ) (was is : Lines) (l : Line) (whole : Load) (rules held : List Production) (n m : ℕ) → was.text.now ≡ xs → IsNextLine was l is
    → (was.from ≤ length xs → whole ≡ load_lines T rules n (lines was.from (drop was.from xs))) → taken held m ≡ offer_line T rules n (first_place (words_of l)) (outcome_of l)
    → (is.from ≤ length xs → whole ≡ load_lines T held m (lines is.from (drop is.from xs))) × (length xs < is.from → whole ≡ taken held m)
line_taken T xs was is l whole rules held n m e h w o =
    let k : was.from < length xs = omega (arith, h.some, ap length e) in
    let there = subst (λ j. whole ≡ load_lines T rules n (lines j (drop j xs))) (sym h.begins) (w (omega arith)) in
    let rest = line_on T xs l.text.now l.from (length l.text.now) (omega (arith, h.begins)) (subst (λ x. IsLineEnd x l.from (length l.text.now)) e h.ends) (h.part ∙ ap (take (length l.text.now)) e) whole rules held n m there o in
    subst (λ j. (j ≤ length xs → whole ≡ load_lines T held m (lines j (drop j xs))) × (length xs < j → whole ≡ taken held m)) (sym h.past) rest

-- the next line is refused: the load ends
pub line_refuses : (T : ℕ) (xs : List ℕ) (was is : Lines) (l : Line) (whole : Load) (rules held : List Production) (n number at : ℕ) → was.text.now ≡ xs → IsNextLine was l is
    → (was.from ≤ length xs → whole ≡ load_lines T rules n (lines was.from (drop was.from xs))) → stopped held number at ≡ offer_line T rules n (first_place (words_of l)) (outcome_of l)
    → whole ≡ stopped held number at
line_refuses T xs was is l whole rules held n number at e h w o =
    let k : was.from < length xs = omega (arith, h.some, ap length e) in
    let there = subst (λ j. whole ≡ load_lines T rules n (lines j (drop j xs))) (sym h.begins) (w (omega arith)) in
    line_stops T xs l.text.now l.from (length l.text.now) (omega (arith, h.begins)) (subst (λ x. IsLineEnd x l.from (length l.text.now)) e h.ends) (h.part ∙ ap (take (length l.text.now)) e) whole rules held n number at there o

-- the text ends
pub text_ends : (T : ℕ) (rules : List Production) (n : ℕ) (xs : List ℕ) → load_lines T rules n (lines (length xs) (drop (length xs) xs)) ≡ taken rules n
unfolding load_lines pieces
text_ends T rules n xs = ap (λ l. load_lines T rules n (lines (length xs) l)) (drop_all (length xs) xs (omega arith))

module _ (T n k : ℕ) where
  offer_later : (rules : List Production) (m : ℕ) (ws : List Piece) (o : Outcome) → (ws ≡ [] → o ≡ nothing)
      → offer_line T rules (n + m) (first_place (map (shift k) ws)) (shift_outcome k o) ≡ later n k (offer_line T rules m (first_place ws) o)
  offer_later rules m ws nothing none = refl
  offer_later rules m [] (rule p) none = absurd (not_nothing p (none refl))
    where
      not_nothing : (p : Production) → rule p ≡ nothing → ⊥
      not_nothing p e = let z : ◌≡◌ {A = ℕ} 0 1 = cc in omega arith
  offer_later rules m (w ∷ ws) (rule p) none =
      let e : suc (n + m) ≡ n + suc m = omega arith in
      (elim (eqb (refusal T rules p) 0) as (λ b. cond b (taken (rules ++ (p ∷ [])) (suc (n + m))) (stopped rules 24 (k + w.place)) ≡ later n k (cond b (taken (rules ++ (p ∷ [])) (suc m)) (stopped rules 24 w.place)))
      [ true ↦ ap (taken (rules ++ (p ∷ []))) e | false ↦ refl ])
  offer_later rules m ws (fault c at) none = refl

  no_words : (end : ℕ) (ws : List Piece) → ws ≡ [] → line end ws ≡ nothing
  no_words end ws e = ap (line end) e

  lines_later : (rules : List Production) (m : ℕ) (ls : List Piece) → load_lines T rules (n + m) (map (shift k) ls) ≡ later n k (load_lines T rules m ls)
  unfolding load_lines
  lines_later rules m [] = refl
  lines_later rules m (l ∷ ls) =
      let ws = line_words l in
      let o = line (end_of l) ws in
      let w : line_words (shift k l) ≡ map (shift k) ws = words_later k l.place l.bytes in
      let e : end_of (shift k l) ≡ k + end_of l = omega arith in
      ap (λ (o : Load). and_then o (λ held j. load_lines T held j (map (shift k) ls)))
      (ap (λ (vs : List Piece). offer_line T rules (n + m) (first_place vs) (line (end_of (shift k l)) vs)) w
      ∙ ap (λ j. offer_line T rules (n + m) (first_place (map (shift k) ws)) (line j (map (shift k) ws))) e
      ∙ ap (offer_line T rules (n + m) (first_place (map (shift k) ws))) (line_later k (end_of l) ws)
      ∙ offer_later rules m ws o (no_words (end_of l) ws))
      ∙ at (offer_line T rules m (first_place ws) o) (λ held j. lines_later held j ls)
    where
      at : (o : Load) → ((held : List Production) (j : ℕ) → load_lines T held (n + j) (map (shift k) ls) ≡ later n k (load_lines T held j ls))
          → and_then (later n k o) (λ held j. load_lines T held j (map (shift k) ls)) ≡ later n k (and_then o (λ held j. load_lines T held j ls))
      at (taken held j) ih = ih held j
      at (stopped held c p) ih = refl

-- a load is its lines, one by one
one_by_one : (T : ℕ) (rules : List Production) (a b : List ℕ) → load T rules (a ++ (10 ∷ b)) ≡ and_then (load T rules a) (λ held m. later m (suc (length a)) (load T held b))
one_by_one T rules a b =
    let k = suc (length a) in
    let z : k + 0 ≡ k = omega arith in
    let shifted : lines (suc (0 + length a)) b ≡ map (shift k) (lines 0 b) = (let e : suc (0 + length a) ≡ k + 0 = omega arith in ap (λ n. lines n b) e ∙ pieces_later ends_line k 0 b) in
    ap (load_lines T rules 0) (pieces_split ends_line 0 a 10 b refl ∙ ap (λ l. lines 0 a ++ l) shifted) ∙ append_lines T rules 0 (lines 0 a) (map (shift k) (lines 0 b)) ∙ at k (load T rules a)
  where
    at : (k : ℕ) (o : Load) → and_then o (λ held m. load_lines T held m (map (shift k) (lines 0 b))) ≡ and_then o (λ held m. later m k (load T held b))
    at k (taken held m) = let e : m ≡ m + 0 = omega arith in ap (λ j. load_lines T held j (map (shift k) (lines 0 b))) e ∙ lines_later T m k held 0 (lines 0 b)
    at k (stopped held c p) = refl

known_items : (T : ℕ) (is : List ℕ) → T ≤ 32 → some_of (leb (32 + T)) is ≡ false → (i : ℕ) → Mem i is → i < 64
known_items T is h e i m = ⊎_elim
    (λ (t : leb (32 + T) i ≡ true). absurd (both_ways _ e (some_from (leb (32 + T)) i is m t)))
    (λ (f : leb (32 + T) i ≡ false). omega (arith, leb-false (32 + T) i f))
    (cases_Bool (leb (32 + T) i))

-- the line of a rule that is admitted
pub round_trip : (T : ℕ) (rules : List Production) (p : Production) → T ≤ 32 → p.cost ≤ 65535 → refusal T rules p ≡ 0 → load T rules (line_text p) ≡ taken (rules ++ (p ∷ [])) 1
unfolding load_lines
round_trip T rules p h c z =
    let low = admitted_low T rules p z in
    let w : Writable p = record { low_head = low.0; low_items = known_items T p.right h low.2; low_cost = c } in
    let l = piece 0 (line_text p) in
    let one : offer_line T rules 0 (first_place (line_words l)) (line (end_of l) (line_words l)) ≡ taken (rules ++ (p ∷ [])) 1 =
    ap (offer_line T rules 0 (first_place (line_words l))) (says_rule (end_of l) (line_words l) p (text_says 0 p w))
    ∙ cond-true (eqb (refusal T rules p) 0) (taken (rules ++ (p ∷ [])) 1) (stopped rules 24 (first_place (line_words l))) (eq-eqb (refusal T rules p) 0 z) in
    ap (load_lines T rules 0) (pieces_last ends_line 0 (line_text p) (text_one_line p w)) ∙ ap (λ (o : Load). and_then o (λ held m. load_lines T held m [])) one

-- What stands after a load

module _ (T size : ℕ) (rules : List Production) where
  -- so many rules came after those held before
  abbrev Came : List Production → ℕ → Type 0
  Came is n = (more : List Production) × (is ≡ rules ++ more) × (n ≡ length more)

  one_more : (is : List Production) (n : ℕ) (p : Production) → Came is n → Came (is ++ (p ∷ [])) (suc n)
  one_more is n p (more, e, f) = (more ++ (p ∷ []), ap (λ l. l ++ (p ∷ [])) e ∙ append_assoc rules more (p ∷ []), ap suc f ∙ sym (length_push_suc more p))
    where
      length_push_suc : (xs : List Production) (x : Production) → length (xs ++ (x ∷ [])) ≡ suc (length xs)
      length_push_suc xs x = let k : length xs + 1 ≡ suc (length xs) = omega arith in length_push xs x ∙ k

  -- a line is refused
  stops : (is : List Production) (n number at : ℕ) → Came is n → 20 ≤ number → number ≤ 24 → at ≤ size → Stands size rules (stopped is number at)
  stops is n number at (more, e, f) l h w = (more, e, l, h, w)

  first_inside : (ws : List Piece) → ((w : Piece) → Mem w ws → w.place ≤ size) → first_place ws ≤ size
  first_inside [] h = omega arith
  first_inside (w ∷ ws) h = h w (inl refl)

  -- one line, and then the rest
  line_stands : (end : ℕ) (ws : List Piece) (is : List Production) (n : ℕ) (rest : List Production → ℕ → Load) → Came is n → ((w : Piece) → Mem w ws → w.place ≤ end) → end ≤ size
      → ((js : List Production) (m : ℕ) → Came js m → Stands size rules (rest js m)) → Stands size rules (and_then (offer_line T is n (first_place ws) (line end ws)) rest)
  line_stands end ws is n rest came low near on = at (line end ws) refl
    where
      offered : (p : Production) (b : Bool) → Stands size rules (and_then (cond b (taken (is ++ (p ∷ [])) (suc n)) (stopped is 24 (first_place ws))) rest)
      offered p true = on (is ++ (p ∷ [])) (suc n) (one_more is n p came)
      offered p false = stops is n 24 (first_place ws) came (omega arith) (omega arith) (first_inside ws (λ w m. omega (arith, low w m, near)))

      at : (o : Outcome) → line end ws ≡ o → Stands size rules (and_then (offer_line T is n (first_place ws) o) rest)
      at nothing e = on is n came
      at (rule p) e = offered p (eqb (refusal T is p) 0)
      at (fault number place) e = let r = line_within end ws number place low e in stops is n number place came r.0 (omega (arith, r.1)) (omega (arith, r.2, near))

  lines_stand : (is : List Production) (n : ℕ) (ls : List Piece) → Came is n → ((l : Piece) → Mem l ls → end_of l ≤ size) → Stands size rules (load_lines T is n ls)
  unfolding load_lines
  lines_stand is n [] came inside = came
  lines_stand is n (l ∷ ls) came inside =
      line_stands (end_of l) (line_words l) is n (λ held m. load_lines T held m ls) came (λ w m. omega (arith, words_inside l.place l.bytes w m)) (inside l (inl refl))
      (λ js m more. lines_stand js m ls more (λ k m. inside k (inr m)))

load_stands : (T : ℕ) (rules : List Production) (text : List ℕ) → Stands (length text) rules (load T rules text)
load_stands T rules text = lines_stand T (length text) rules rules 0 (lines 0 text) ([], sym (append-nil rules), refl) (λ l m. omega (arith, pieces_inside ends_line 0 text l m))

pub load_means : (T : ℕ) (rules : List Production) (text : List ℕ) → T ≤ 32 → LoadMeans T rules text
load_means T rules text h = record {
  cut = cut_into 0 text;
  spelled = of_kind;
  digits = of_digits;
  each_line = λ l m. line_means (end_of l) (line_words l);
  sound_line = λ l p m s. says_rule (end_of l) (line_words l) p s;
  stands = load_stands T rules text;
  one_by_one = λ a b e. ap (load T rules) e ∙ one_by_one T rules a b;
  round_trip = λ p e c z. ap (load T rules) e ∙ round_trip T rules p h c z;
}
