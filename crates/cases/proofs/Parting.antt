-- What a split of lines at each line end gives.
use Rattle.std.proofs.Common.{◌≡◌, ◌≢◌, ℕ, ◌-◌, Bool, true, false, ◌&&◌, true≢false, List, [], ◌∷◌, ◌++◌, All, Bor, length, map, take, drop, codes, Ok, Err, Result, IsErr, Vec, refl, sym, ap, ◌∙◌, subst}
use Rattle.std.specs.Cmp.Lexicographic.{pointwise, pointwise_decides}
use Rattle.std.specs.List.{slice_split, onto_first}
use Rattle.std.specs.Str.{bytes_eq}
use Rattle.std.proofs.lemmas.Slice.Eq.{bytes_eq-Decides}
use Rattle.std.proofs.lemmas.List.{drop-map, take-map, length-map, take-append-drop}
use Rattle.std.proofs.lemmas.List.Elements.{All-nil, All-cons, All-head, All-tail}
use Rattle.std.proofs.lemmas.List.Splits.{slice_split-cons_yes, slice_split-cons_no}
use Rattle.std.proofs.lemmas.List.Prefix.{end_rest}
use Rattle.cases.specs.declared.blocks.BlockFault.{BlockFault}
use Rattle.cases.specs.declared.blocks.BlockFault.TheVariants.{NoEnd, NoMemory}
use Rattle.cases.specs.Blocks.{texts, with_ends, NoEnds, Parted}

abbrev pub Line : Type 0
Line = Bor (List ℕ)

-- whether two lines are the same text
abbrev pub same : Line → Line → Bool
same x y = bytes_eq x.now y.now

-- whether a line is the line end
abbrev pub is_end : Line → Bool
is_end x = bytes_eq x.now (codes "end")

same_texts : (a b : List Line) → pointwise same a b ≡ pointwise bytes_eq (texts a) (texts b)
same_texts [] [] = refl
same_texts [] (y ∷ ys) = refl
same_texts (x ∷ xs) [] = refl
same_texts (x ∷ xs) (y ∷ ys) = ap (λ t. bytes_eq x.now y.now && t) (same_texts xs ys)

last_texts : (lines : List Line) (q : Line) → pointwise same (drop (length lines - 1) lines) (q ∷ []) ≡ pointwise bytes_eq (drop (length (texts lines) - 1) (texts lines)) (q.now ∷ [])
last_texts lines q =
    same_texts (drop (length lines - 1) lines) (q ∷ [])
    ∙ ap (λ l. pointwise bytes_eq l (q.now ∷ [])) (sym (drop-map (λ x. x.now) (length lines - 1) lines) ∙ ap (λ n. drop (n - 1) (texts lines)) (sym (length-map lines (λ x. x.now))))

-- the last line is another
pub other_last : (lines : List Line) (q : Line) → pointwise same (drop (length lines - 1) lines) (q ∷ []) ≡ false → (front : List (List ℕ)) → texts lines ≢ front ++ (q.now ∷ [])
other_last lines q differs front e =
    true≢false (sym ((pointwise_decides bytes_eq-Decides _ (q.now ∷ [])).1 (end_rest (texts lines) (q.now ∷ []) front e)) ∙ sym (last_texts lines q) ∙ differs)

-- the last line is this one
pub this_last : (lines inner : List Line) (q : Line) → pointwise same (drop (length lines - 1) lines) (q ∷ []) ≡ true → inner ≡ take (length lines - 1) lines → texts lines ≡ texts inner ++ (q.now ∷ [])
this_last lines inner q equal is =
    let n = length lines - 1 in
    let rest : drop n (texts lines) ≡ q.now ∷ [] = drop-map (λ x. x.now) n lines ∙ (pointwise_decides bytes_eq-Decides _ (q.now ∷ [])).0 (sym (same_texts (drop n lines) (q ∷ [])) ∙ equal) in
    sym (take-append-drop n (texts lines)) ∙ ap (λ l. take n (texts lines) ++ l) rest
    ∙ ap (λ l. l ++ (q.now ∷ [])) (take-map (λ x. x.now) n lines ∙ ap texts (sym is))

-- the lines of the parts, each with an end
onto_ends : (x : Line) (xs : List Line) (parts : List (List Line)) → with_ends (map texts parts) ≡ texts xs ++ (codes "end" ∷ [])
    → with_ends (map texts (onto_first x parts)) ≡ texts (x ∷ xs) ++ (codes "end" ∷ [])
onto_ends x [] [] e = cc
onto_ends x (y ∷ ys) [] e = cc
onto_ends x xs (part ∷ parts) e = ap (λ l. x.now ∷ l) e

more_ends : (x : Line) (xs : List Line) (b : Bool) → is_end x ≡ b → with_ends (map texts (slice_split is_end xs)) ≡ texts xs ++ (codes "end" ∷ [])
    → with_ends (map texts (slice_split is_end (x ∷ xs))) ≡ texts (x ∷ xs) ++ (codes "end" ∷ [])
more_ends x xs true e h = ap (λ l. with_ends (map texts l)) (slice_split-cons_yes is_end x xs e)
    ∙ ap (λ l. l ∷ with_ends (map texts (slice_split is_end xs))) (sym ((bytes_eq-Decides x.now (codes "end")).0 e)) ∙ ap (λ l. x.now ∷ l) h
more_ends x xs false e h = ap (λ l. with_ends (map texts l)) (slice_split-cons_no is_end x xs e) ∙ onto_ends x xs (slice_split is_end xs) h

pub parts_end : (xs : List Line) → with_ends (map texts (slice_split is_end xs)) ≡ texts xs ++ (codes "end" ∷ [])
parts_end [] = refl
parts_end (x ∷ xs) = more_ends x xs (is_end x) refl (parts_end xs)

-- no part has a line end
abbrev NotEnds : List (List ℕ) → Type 0
NotEnds block = All (λ line. line ≢ codes "end") block

none : NotEnds []
none = All-nil (λ line. line ≢ codes "end")

onto_none : (x : Line) (parts : List (List Line)) → x.now ≢ codes "end" → NoEnds (map texts parts) → NoEnds (map texts (onto_first x parts))
onto_none x [] h a = All-cons NotEnds (x.now ∷ []) [] (All-cons (λ line. line ≢ codes "end") x.now [] h none) (All-nil NotEnds)
onto_none x (part ∷ parts) h a = All-cons NotEnds (x.now ∷ texts part) (map texts parts) (All-cons (λ line. line ≢ codes "end") x.now (texts part) h (All-head NotEnds (texts part) (map texts parts) a)) (All-tail NotEnds (texts part) (map texts parts) a)

more_none : (x : Line) (xs : List Line) (b : Bool) → is_end x ≡ b → NoEnds (map texts (slice_split is_end xs)) → NoEnds (map texts (slice_split is_end (x ∷ xs)))
more_none x xs true e a = subst (λ l. NoEnds (map texts l)) (sym (slice_split-cons_yes is_end x xs e)) (All-cons NotEnds [] (map texts (slice_split is_end xs)) none a)
more_none x xs false e a = subst (λ l. NoEnds (map texts l)) (sym (slice_split-cons_no is_end x xs e))
    (onto_none x (slice_split is_end xs) (λ same. true≢false (sym ((bytes_eq-Decides x.now (codes "end")).1 same) ∙ e)) a)

pub parts_none : (xs : List Line) → NoEnds (map texts (slice_split is_end xs))
parts_none [] = All-cons NotEnds [] [] none (All-nil NotEnds)
parts_none (x ∷ xs) = more_none x xs (is_end x) refl (parts_none xs)

-- where the last line is not end, either refusal may be given
pub refused : {Z : Type 0} (lines : List (List ℕ)) (r : Result (Vec (Bor (List Line)) Z) BlockFault) → IsErr r → ((front : List (List ℕ)) → lines ≢ front ++ (codes "end" ∷ [])) → Parted lines r
refused lines (Ok v) e h = absurd (true≢false (sym e))
refused lines (Err NoEnd) e h = h
refused lines (Err NoMemory) e h = tt
