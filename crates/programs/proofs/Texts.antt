-- The lines of a text as their bytes, and the first that is % alone.
use Rattle.std.proofs.Common.{◌≡◌, ℕ, suc, ◌+◌, ◌-◌, ◌<◌, ◌≤◌, Bool, true, false, cond, List, [], ◌∷◌, ◌++◌, map, length, get_or, take, drop, sym, refl, ap, ◌∙◌, subst, ⊎_elim, append_assoc, append-nil, arith}
use Rattle.std.proofs.lemmas.List.{drop-take, drop_all, drop_more}
use Rattle.std.proofs.lemmas.Bool.{cases_lt, ne_eqb}
use Rattle.text.specs.Words.{Piece, piece, longer, pieces, ends_line, AllAre, IsLineEnd}
use Rattle.text.specs.Turns.{IsNextLine}
use Rattle.text.specs.declared.lines.Line.{Line}
use Rattle.text.specs.declared.lines.Lines.{Lines}
use Rattle.text.proofs.Wording.{pieces_last, pieces_next, stretch, stretch_all, stretch_rest, length_stretch}
use Rattle.grammar.specs.Lists.{each}
use Rattle.programs.specs.Output.{but_empty_last, line_texts}

-- the bytes of each piece
abbrev pub texts : List Piece → List (List ℕ)
texts ps = map (λ (p : Piece). p.bytes) ps

longer_texts : (at to b : ℕ) (ps qs : List Piece) → texts ps ≡ texts qs → texts (longer at b ps) ≡ texts (longer to b qs)
longer_texts at to b [] [] e = refl
longer_texts at to b [] (q ∷ qs) e = absurd (omega (arith, ap length e))
longer_texts at to b (p ∷ ps) [] e = absurd (omega (arith, ap length e))
longer_texts at to b (p ∷ ps) (q ∷ qs) e =
    let h : p.bytes ≡ q.bytes = cc in
    let t : texts ps ≡ texts qs = cc in
    cc

-- bytes do not hang on places
pub texts_anywhere : (p : ℕ → Bool) (at to : ℕ) (bs : List ℕ) → texts (pieces p at bs) ≡ texts (pieces p to bs)
unfolding pieces
texts_anywhere p at to [] = refl
texts_anywhere p at to (b ∷ bs) =
    let ih = texts_anywhere p (suc at) (suc to) bs in
    (elim (p b) as (λ t. texts (cond t (piece at [] ∷ pieces p (suc at) bs) (longer at b (pieces p (suc at) bs))) ≡ texts (cond t (piece to [] ∷ pieces p (suc to) bs) (longer to b (pieces p (suc to) bs)))) [
      | true ↦ ap (λ l. [] ∷ l) ih
      | false ↦ longer_texts at to b (pieces p (suc at) bs) (pieces p (suc to) bs) ih
    ])

-- there is a first piece
some_texts : (p : ℕ → Bool) (at : ℕ) (bs : List ℕ) → (v : List ℕ) × ((vs : List (List ℕ)) × (texts (pieces p at bs) ≡ v ∷ vs))
unfolding pieces
some_texts p at [] = ([], ([], refl))
some_texts p at (b ∷ bs) = (elim (p b) as (λ t. (v : List ℕ) × ((vs : List (List ℕ)) × (texts (cond t (piece at [] ∷ pieces p (suc at) bs) (longer at b (pieces p (suc at) bs))) ≡ v ∷ vs))) [
  | true ↦ ([], (texts (pieces p (suc at) bs), refl))
  | false ↦ grown (pieces p (suc at) bs)
])
  where
    grown : (ps : List Piece) → (v : List ℕ) × ((vs : List (List ℕ)) × (texts (longer at b ps) ≡ v ∷ vs))
    grown [] = (b ∷ [], ([], refl))
    grown (q ∷ qs) = (b ∷ q.bytes, (texts qs, refl))

-- no line where there is no byte
pub texts_none : line_texts [] ≡ []
unfolding line_texts pieces
texts_none = refl

-- a line that the text ends
pub texts_last : (b : ℕ) (w : List ℕ) → AllAre ends_line false (b ∷ w) → line_texts (b ∷ w) ≡ (b ∷ w) ∷ []
unfolding line_texts
texts_last b w h = ap (λ ps. but_empty_last (texts ps)) (pieces_last ends_line 0 (b ∷ w) h)

-- a line that a line feed ends
pub texts_next : (w rest : List ℕ) → AllAre ends_line false w → line_texts (w ++ (10 ∷ rest)) ≡ w ∷ line_texts rest
unfolding line_texts
texts_next w rest h =
    let s = some_texts ends_line 0 rest in
    ap (λ ps. but_empty_last (texts ps)) (pieces_next ends_line 0 w 10 rest h refl)
    ∙ ap (λ l. but_empty_last (w ∷ l)) (texts_anywhere ends_line (suc (0 + length w)) 0 rest ∙ s.1.1)
    ∙ sym (ap (λ l. w ∷ but_empty_last l) s.1.1)

-- By place

some_stretch : (w rest : List ℕ) → 0 < length w → rest ≡ [] → AllAre ends_line false w → line_texts (w ++ rest) ≡ w ∷ line_texts rest
some_stretch [] rest h e f = absurd (omega arith)
some_stretch (b ∷ w) rest h e f = ap (λ r. line_texts ((b ∷ w) ++ r)) e ∙ ap line_texts (append-nil (b ∷ w)) ∙ texts_last b w f ∙ ap (λ l. (b ∷ w) ∷ l) (sym (ap line_texts e ∙ texts_none))

-- the line from a place to its end
pub texts_at : (xs : List ℕ) (from e : ℕ) → from < length xs → IsLineEnd xs from e → line_texts (drop from xs) ≡ stretch xs from e ∷ line_texts (drop (e + 1) xs)
texts_at xs from e h is =
    let low : from ≤ e = omega (arith, is.later) in
    let w = stretch xs from e in
    let n = length_stretch xs from e low is.inside in
    let free = stretch_all ends_line false xs from e low is.inside (λ k a b. ne_eqb (get_or xs k 0) 10 (is.before k a b)) in
    ap line_texts (stretch_rest xs from e low) ∙ ⊎_elim
    (λ (l : e < length xs). ap (λ v. line_texts (w ++ v)) (drop_more xs e 0 l ∙ ap (λ b. b ∷ drop (e + 1) xs) (is.ended l)) ∙ texts_next w (drop (e + 1) xs) free)
    (λ (g : length xs ≤ e).
    let past : drop (e + 1) xs ≡ [] = drop_all (e + 1) xs (omega arith) in
    let none : drop e xs ≡ drop (e + 1) xs = drop_all e xs g ∙ sym past in
    ap (λ v. line_texts (w ++ v)) none ∙ some_stretch w (drop (e + 1) xs) (omega arith) past free)
    (cases_lt e (length xs))

-- the bytes of the next line are the stretch from its place to its end
pub bytes_at : (xs : List ℕ) (was is : Lines) (l : Line) → was.text.now ≡ xs → IsNextLine was l is → drop l.from l.text.now ≡ stretch xs was.from (length l.text.now)
bytes_at xs was is l e h =
    let from = l.from in
    let to = length l.text.now in
    let low : from ≤ to = omega (arith, h.ends.later, h.some, h.begins) in
    let s : from + (to - from) ≡ to = omega arith in
    ap (drop from) (h.part ∙ ap (take to) e) ∙ ap (λ n. drop from (take n xs)) (sym s) ∙ drop-take from (to - from) xs ∙ ap (λ n. stretch xs n to) h.begins

-- the next line, and those still to come
pub next_texts : (xs : List ℕ) (was is : Lines) (l : Line) → was.text.now ≡ xs → IsNextLine was l is → line_texts (drop was.from xs) ≡ drop l.from l.text.now ∷ line_texts (drop is.from xs)
next_texts xs was is l e h =
    let to = length l.text.now in
    let some : was.from < length xs = omega (arith, h.some, ap length e) in
    let ends = subst (λ n. IsLineEnd xs n to) h.begins (subst (λ x. IsLineEnd x l.from to) e h.ends) in
    texts_at xs was.from to some ends
    ∙ ap (λ w. w ∷ line_texts (drop (to + 1) xs)) (sym (bytes_at xs was is l e h)) ∙ ap (λ n. drop l.from l.text.now ∷ line_texts (drop n xs)) (sym h.past)

-- what f gives for the next line, and for those still to come
pub each_next : (f : List ℕ → List ℕ) (xs : List ℕ) (was is : Lines) (l : Line) (w out printed : List ℕ) → was.text.now ≡ xs → IsNextLine was l is → w ≡ drop l.from l.text.now → printed ≡ out ++ f w
    → out ++ each f (line_texts (drop was.from xs)) ≡ printed ++ each f (line_texts (drop is.from xs))
each_next f xs was is l w out printed e h b p =
    let rest = each f (line_texts (drop is.from xs)) in
    ap (λ ls. out ++ each f ls) (next_texts xs was is l e h) ∙ ap (λ v. out ++ (f v ++ rest)) (sym b) ∙ sym (append_assoc out (f w) rest) ∙ ap (λ o. o ++ rest) (sym p)

-- past the end there is no line
pub no_more : (f : List ℕ → List ℕ) (xs : List ℕ) (from : ℕ) → length xs ≤ from → each f (line_texts (drop from xs)) ≡ []
no_more f xs from h = ap (λ l. each f (line_texts l)) (drop_all from xs h) ∙ ap (each f) texts_none
