-- The pieces of a text, its lines and its words, as lists.
use Rattle.std.proofs.Common.{◌≡◌, ℕ, suc, ◌+◌, ◌-◌, ◌<◌, ◌≤◌, Bool, true, false, cond, ltb, List, [], ◌∷◌, ◌++◌, length, get_or, take, drop, sym, refl, ap, ◌∙◌, subst, inl, inr, ⊎_elim, append-nil, arith}
use Rattle.std.proofs.lemmas.List.{take-append-drop, drop-drop, drop_all, drop_more, length-take-le, length-drop, get_or-take, get_or-drop}
use Rattle.std.specs.List.{prefix_len}
use Rattle.std.proofs.lemmas.List.Sums.{prefix_len-le-length, prefix_len_passes, prefix_len_stops}
use Rattle.std.proofs.lemmas.Bool.{both_ways, cases_Bool, cases_lt, cond-true, cond-false, eq-eqb, ne_eqb, lt-ltb, le-ltb}
use Rattle.grammar.specs.Lists.{those}
use Rattle.grammar.proofs.Lists.{those_append}
use Rattle.text.specs.Words.{Piece, piece, longer, pieces, ends_line, parts, lines, some_byte, words, AllAre, Ends, IsLineEnd}

-- a run of bytes that part nothing, at the end of the text
pub pieces_last : (p : ℕ → Bool) (at : ℕ) (w : List ℕ) → AllAre p false w → pieces p at w ≡ piece at w ∷ []
unfolding pieces
pieces_last p at [] h = refl
pieces_last p at (b ∷ w) h =
    cond-false (p b) (piece at [] ∷ pieces p (suc at) w) (longer at b (pieces p (suc at) w)) (h b (inl refl))
    ∙ ap (longer at b) (pieces_last p (suc at) w (λ c m. h c (inr m)))

-- there is a first piece
first_piece : (p : ℕ → Bool) (at : ℕ) (w : List ℕ) → (q : Piece) × ((qs : List Piece) × (pieces p at w ≡ q ∷ qs))
unfolding pieces
first_piece p at [] = (piece at [], ([], refl))
first_piece p at (b ∷ w) = elim (cases_Bool (p b)) [
  | inl t ↦ (piece at [], (pieces p (suc at) w, cond-true (p b) (piece at [] ∷ pieces p (suc at) w) (longer at b (pieces p (suc at) w)) t))
  | inr f ↦
      let q = first_piece p (suc at) w in
      (piece at (b ∷ q.0.bytes), (q.1.0, cond-false (p b) (piece at [] ∷ pieces p (suc at) w) (longer at b (pieces p (suc at) w)) f ∙ ap (longer at b) q.1.1))
]

longer_append : (at b : ℕ) (ps qs : List Piece) (q : Piece) (rest : List Piece) → ps ≡ q ∷ rest → longer at b (ps ++ qs) ≡ longer at b ps ++ qs
longer_append at b ps qs q rest e = ap (λ l. longer at b (l ++ qs)) e ∙ sym (ap (λ l. longer at b l ++ qs) e)

-- a byte that parts two stretches of the text
pub pieces_split : (p : ℕ → Bool) (at : ℕ) (w : List ℕ) (c : ℕ) (rest : List ℕ) → p c ≡ true
    → pieces p at (w ++ (c ∷ rest)) ≡ pieces p at w ++ pieces p (suc (at + length w)) rest
unfolding pieces
pieces_split p at [] c rest t =
    let e : suc at ≡ suc (at + 0) = omega arith in
    cond-true (p c) (piece at [] ∷ pieces p (suc at) rest) (longer at c (pieces p (suc at) rest)) t ∙ ap (λ n. piece at [] ∷ pieces p n rest) e
pieces_split p at (b ∷ w) c rest t =
    let e : suc (suc at + length w) ≡ suc (at + suc (length w)) = omega arith in
    let ih = pieces_split p (suc at) w c rest t ∙ ap (λ n. pieces p (suc at) w ++ pieces p n rest) e in
    let all = pieces p (suc at) (w ++ (c ∷ rest)) in
    let mine = pieces p (suc at) w in
    let other = pieces p (suc (at + suc (length w))) rest in
    let q = first_piece p (suc at) w in
    elim (cases_Bool (p b)) [
      | inl y ↦ cond-true (p b) (piece at [] ∷ all) (longer at b all) y ∙ ap (λ l. piece at [] ∷ l) ih ∙ sym (ap (λ l. l ++ other) (cond-true (p b) (piece at [] ∷ mine) (longer at b mine) y))
      | inr f ↦
          cond-false (p b) (piece at [] ∷ all) (longer at b all) f ∙ ap (longer at b) ih ∙ longer_append at b mine other q.0 q.1.0 q.1.1
          ∙ sym (ap (λ l. l ++ other) (cond-false (p b) (piece at [] ∷ mine) (longer at b mine) f))
    ]

-- a run of bytes that part nothing, before one that parts
pub pieces_next : (p : ℕ → Bool) (at : ℕ) (w : List ℕ) (c : ℕ) (rest : List ℕ) → AllAre p false w → p c ≡ true
    → pieces p at (w ++ (c ∷ rest)) ≡ piece at w ∷ pieces p (suc (at + length w)) rest
pieces_next p at w c rest h t = pieces_split p at w c rest t ∙ ap (λ l. l ++ pieces p (suc (at + length w)) rest) (pieces_last p at w h)

-- there are bytes in the piece
abbrev filled : Piece → Bool
filled q = some_byte q.bytes

-- words of two stretches that a byte parts
pub words_split : (at : ℕ) (w : List ℕ) (c : ℕ) (rest : List ℕ) → parts c ≡ true → words at (w ++ (c ∷ rest)) ≡ words at w ++ words (suc (at + length w)) rest
words_split at w c rest t = ap (those filled) (pieces_split parts at w c rest t) ∙ those_append filled (pieces parts at w) (pieces parts (suc (at + length w)) rest)

pub words_none : (at : ℕ) → words at [] ≡ []
unfolding pieces
words_none at = refl

-- bytes that part words, before the rest
pub words_gap : (at : ℕ) (gap rest : List ℕ) → AllAre parts true gap → words at (gap ++ rest) ≡ words (at + length gap) rest
words_gap at [] rest h = let e : at ≡ at + 0 = omega arith in ap (λ n. words n rest) e
words_gap at (c ∷ gap) rest h =
    let e : suc (at + 0) + length gap ≡ at + suc (length gap) = omega arith in
    words_split at [] c (gap ++ rest) (h c (inl refl)) ∙ ap (λ l. l ++ words (suc (at + 0)) (gap ++ rest)) (words_none at)
    ∙ words_gap (suc (at + 0)) gap rest (λ b m. h b (inr m)) ∙ ap (λ n. words n rest) e

-- a word, before the rest
pub words_word : (at b : ℕ) (w rest : List ℕ) → AllAre parts false (b ∷ w) → Ends rest → words at ((b ∷ w) ++ rest) ≡ piece at (b ∷ w) ∷ words (at + length (b ∷ w)) rest
words_word at b w [] h t =
    ap (words at) (append-nil (b ∷ w)) ∙ ap (those filled) (pieces_last parts at (b ∷ w) h) ∙ sym (ap (λ l. piece at (b ∷ w) ∷ l) (words_none (at + length (b ∷ w))))
words_word at b w (c ∷ rest) h t =
    let n = at + length (b ∷ w) in
    let e : suc (n + 0) ≡ suc n = omega arith in
    let later : words n (c ∷ rest) ≡ words (suc n) rest = words_split n [] c rest t ∙ ap (λ l. l ++ words (suc (n + 0)) rest) (words_none n) ∙ ap (λ m. words m rest) e in
    ap (those filled) (pieces_next parts at (b ∷ w) c rest h t) ∙ sym (ap (λ l. piece at (b ∷ w) ∷ l) later)

-- By place

-- what holds of each place holds of each byte
pub all_places : (p : ℕ → Bool) (t : Bool) (w : List ℕ) → ((k : ℕ) → k < length w → p (get_or w k 0) ≡ t) → AllAre p t w
all_places p t [] h b m = absurd m
all_places p t (x ∷ w) h b (inl e) = ap p e ∙ h 0 (omega arith)
all_places p t (x ∷ w) h b (inr m) = all_places p t w (λ k l. h (suc k) (omega arith)) b m

-- the stretch from one place to another
abbrev pub stretch : List ℕ → ℕ → ℕ → List ℕ
stretch xs from to = take (to - from) (drop from xs)

pub length_stretch : (xs : List ℕ) (from to : ℕ) → from ≤ to → to ≤ length xs → length (stretch xs from to) ≡ to - from
length_stretch xs from to h l = length-take-le (to - from) (drop from xs) (omega (arith, length-drop from xs))

pub stretch_rest : (xs : List ℕ) (from to : ℕ) → from ≤ to → drop from xs ≡ stretch xs from to ++ drop to xs
stretch_rest xs from to h =
    let e : from + (to - from) ≡ to = omega arith in
    sym (take-append-drop (to - from) (drop from xs)) ∙ ap (λ l. stretch xs from to ++ l) (drop-drop (to - from) from xs ∙ ap (λ n. drop n xs) e)

pub stretch_all : (p : ℕ → Bool) (t : Bool) (xs : List ℕ) (from to : ℕ) → from ≤ to → to ≤ length xs → ((k : ℕ) → from ≤ k → k < to → p (get_or xs k 0) ≡ t) → AllAre p t (stretch xs from to)
stretch_all p t xs from to h l each = all_places p t (stretch xs from to) (λ k m.
    let n = length_stretch xs from to h l in
    ap p (get_or-take (to - from) (drop from xs) k 0 (omega arith) ∙ get_or-drop from xs k 0) ∙ each (from + k) (omega arith) (omega arith))

-- how many bytes at the front of a stretch pass a test, by place: those pass, and the next does not
pub record Run (p : ℕ → Bool) (xs : List ℕ) (from to n : ℕ) : Type 0 where
  pub within : from + n ≤ to
  pub passed : (k : ℕ) → from ≤ k → k < from + n → p (get_or xs k 0) ≡ true
  pub ended : from + n < to → p (get_or xs (from + n) 0) ≡ false

pub run : (p : ℕ → Bool) (xs : List ℕ) (from to n : ℕ) → from ≤ to → to ≤ length xs → n ≡ prefix_len p (stretch xs from to) → Run p xs from to n
run p xs from to n h l e =
    let w = stretch xs from to in
    let len = length_stretch xs from to h l in
    record {
      within = omega (arith, prefix_len-le-length p w);
      passed = λ k a b.
          let j : from + (k - from) ≡ k = omega arith in
          ap (λ i. p (get_or xs i 0)) (sym j) ∙ sym (at (k - from) (omega (arith, prefix_len-le-length p w))) ∙ prefix_len_passes p w (k - from) 0 (omega arith);
      ended = λ b. sym (at n (omega arith)) ∙ ap (λ i. p (get_or w i 0)) e ∙ prefix_len_stops p w 0 (omega arith);
    }
  where
    at : (k : ℕ) → k < to - from → p (get_or (stretch xs from to) k 0) ≡ p (get_or xs (from + k) 0)
    at k m = ap p (get_or-take (to - from) (drop from xs) k 0 m ∙ get_or-drop from xs k 0)

-- no word begins before a place
pub words_from : (xs : List ℕ) (from p : ℕ) → from ≤ p → p ≤ length xs → ((k : ℕ) → from ≤ k → k < p → parts (get_or xs k 0) ≡ true) → words from (drop from xs) ≡ words p (drop p xs)
words_from xs from p h l gap =
    let n = length_stretch xs from p h l in
    let e : from + length (stretch xs from p) ≡ p = omega arith in
    ap (words from) (stretch_rest xs from p h) ∙ words_gap from (stretch xs from p) (drop p xs) (stretch_all parts true xs from p h l gap) ∙ ap (λ m. words m (drop p xs)) e

-- past the end of the text there is no word
pub words_past : (xs : List ℕ) (from : ℕ) → length xs ≤ from → words from (drop from xs) ≡ []
words_past xs from h = ap (words from) (drop_all from xs h) ∙ words_none from

ends_here : (xs : List ℕ) (e : ℕ) → (e < length xs → parts (get_or xs e 0) ≡ true) → Ends (drop e xs)
ends_here xs e h = ⊎_elim
    (λ (l : e < length xs). subst Ends (sym (drop_more xs e 0 l)) (h l))
    (λ (g : length xs ≤ e). subst Ends (sym (drop_all e xs g)) tt)
    (cases_lt e (length xs))

-- a word that begins ends later
pub ends_later : (xs : List ℕ) (p e : ℕ) → p ≤ e → p < length xs → (p < length xs → parts (get_or xs p 0) ≡ false) → (e < length xs → parts (get_or xs e 0) ≡ true) → p < e
ends_later xs p e h l f t = ⊎_elim (λ (k : p < e). k)
    (λ (k : e ≤ p). let s : e ≡ p = omega arith in absurd (both_ways _ (f l) (subst (λ n. parts (get_or xs n 0) ≡ true) s (t (omega arith)))))
    (cases_lt p e)

-- a word that is there, before the rest
words_some : (at : ℕ) (w rest : List ℕ) → 0 < length w → AllAre parts false w → Ends rest → words at (w ++ rest) ≡ piece at w ∷ words (at + length w) rest
words_some at [] rest h f ends = absurd (omega arith)
words_some at (b ∷ w) rest h f ends = words_word at b w rest f ends

-- the word from a place to another
pub word_at : (xs : List ℕ) (p e : ℕ) → p < e → e ≤ length xs → ((k : ℕ) → p ≤ k → k < e → parts (get_or xs k 0) ≡ false) → (e < length xs → parts (get_or xs e 0) ≡ true)
    → words p (drop p xs) ≡ piece p (stretch xs p e) ∷ words (p + length (stretch xs p e)) (drop (p + length (stretch xs p e)) xs)
word_at xs p e h l plain ended =
    let w = stretch xs p e in
    let n = length_stretch xs p e (omega arith) l in
    let s : p + length w ≡ e = omega arith in
    ap (words p) (stretch_rest xs p e (omega arith))
    ∙ words_some p w (drop e xs) (omega arith) (stretch_all parts false xs p e (omega arith) l plain) (ends_here xs e ended)
    ∙ ap (λ m. piece p w ∷ words (p + length w) (drop m xs)) (sym s)

-- the line from a place to its end
pub line_at : (xs : List ℕ) (from e : ℕ) → from ≤ length xs → IsLineEnd xs from e
    → lines from (drop from xs) ≡ piece from (stretch xs from e) ∷ cond (ltb e (length xs)) (lines (e + 1) (drop (e + 1) xs)) []
line_at xs from e h is =
    let low : from ≤ e = omega (arith, is.later) in
    let w = stretch xs from e in
    let n = length_stretch xs from e low is.inside in
    let free = stretch_all ends_line false xs from e low is.inside (λ k a b. ne_eqb (get_or xs k 0) 10 (is.before k a b)) in
    ap (lines from) (stretch_rest xs from e low) ∙ ⊎_elim
    (λ (l : e < length xs).
    let s : suc (from + length w) ≡ e + 1 = omega arith in
    ap (λ v. lines from (w ++ v)) (drop_more xs e 0 l)
    ∙ pieces_next ends_line from w (get_or xs e 0) (drop (e + 1) xs) free (eq-eqb (get_or xs e 0) 10 (is.ended l))
    ∙ ap (λ m. piece from w ∷ lines m (drop (e + 1) xs)) s
    ∙ ap (λ v. piece from w ∷ v) (sym (cond-true (ltb e (length xs)) (lines (e + 1) (drop (e + 1) xs)) [] (lt-ltb e (length xs) l))))
    (λ (g : length xs ≤ e).
    ap (λ v. lines from (w ++ v)) (drop_all e xs g) ∙ ap (lines from) (append-nil w) ∙ pieces_last ends_line from w free
    ∙ ap (λ v. piece from w ∷ v) (sym (cond-false (ltb e (length xs)) (lines (e + 1) (drop (e + 1) xs)) [] (le-ltb e (length xs) g))))
    (cases_lt e (length xs))
