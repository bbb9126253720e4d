-- The two parts of an input are those of the law.
use Rattle.std.specs.Prelude.{◌↔◌}
use Rattle.std.proofs.Common.{◌≡◌, ℕ, suc, ◌+◌, ◌⊎◌, false, true≢false, List, [], ◌∷◌, ◌++◌, length, take, drop, sym, refl, ap, ◌∙◌, subst, inl, inr, append_assoc, arith, length-append}
use Rattle.std.proofs.lemmas.List.{take-append-drop, drop-drop, drop_all, take_all}
use Rattle.std.proofs.lemmas.Bool.{cases_Bool, cond-true, cond-false, eqb-true}
use Rattle.grammar.specs.Lists.{Mem, first_of, same_numbers}
use Rattle.text.specs.Words.{Piece, piece, pieces, ends_line, lines, AllAre, Cut}
use Rattle.text.specs.Words.Cut.{last, next}
use Rattle.text.proofs.Wording.{pieces_last, pieces_next}
use Rattle.text.proofs.Cutting.{cut_is}
use Rattle.programs.specs.Output.{line_texts, divides, divider, rules_part, traces_part, LinesAre, Whole, Divided}
use Rattle.programs.specs.Output.LinesAre.{none, last as last_line, next as next_line}
use Rattle.programs.proofs.Dividing.{just}
use Rattle.programs.proofs.Texts.{texts_none, texts_last, texts_next}

-- no line is % alone, wherever the text stands
abbrev Free : List ℕ → Type 0
Free text = (at : ℕ) (l : Piece) → Mem l (lines at text) → l.bytes ≡ 37 ∷ [] → ⊥

-- a text parted behind its first k bytes: no line before is % alone, and there the text ends or such a line stands
abbrev Parted : List ℕ → ℕ → Type 0
Parted text k = Free (take k text) × ((k ≡ length text) ⊎ (Whole (take k text) × ((drop k text ≡ 37 ∷ []) ⊎ ((rest : List ℕ) × (drop k text ≡ 37 ∷ (10 ∷ rest))))))

-- a line that fails the test is not % alone
not_alone : (w : List ℕ) → same_numbers w (37 ∷ []) ≡ false → w ≡ 37 ∷ [] → ⊥
not_alone w f e = true≢false (sym (ap (λ v. same_numbers v (37 ∷ [])) e) ∙ f)

free_none : Free []
unfolding pieces
free_none at l (inl e) h = let z : ◌≡◌ {A = ℕ} 0 1 = ap (λ (p : Piece). length p.bytes) (sym e) ∙ ap length h in omega arith
free_none at l (inr m) h = absurd m

free_last : (w : List ℕ) → AllAre ends_line false w → same_numbers w (37 ∷ []) ≡ false → Free w
free_last w free f at l m h = elim (subst (Mem l) (pieces_last ends_line at w free) m) [
  | inl e ↦ not_alone w f (sym (ap (λ (p : Piece). p.bytes) e) ∙ h)
  | inr n ↦ absurd n
]

free_next : (w rest : List ℕ) → AllAre ends_line false w → same_numbers w (37 ∷ []) ≡ false → Free rest → Free (w ++ (10 ∷ rest))
free_next w rest free f r at l m h = elim (subst (Mem l) (pieces_next ends_line at w 10 rest free refl) m) [
  | inl e ↦ not_alone w f (sym (ap (λ (p : Piece). p.bytes) e) ∙ h)
  | inr n ↦ r (suc (at + length w)) l n h
]

whole_next : (w rest : List ℕ) → Whole rest → Whole (w ++ (10 ∷ rest))
whole_next w rest (inl e) = inr (w, ap (λ r. w ++ (10 ∷ r)) e)
whole_next w rest (inr (front, e)) = inr (w ++ (10 ∷ front), ap (λ r. w ++ (10 ∷ r)) e ∙ sym (append_assoc w (10 ∷ front) (10 ∷ [])))

-- behind a line and k bytes more
take_past : (w : List ℕ) (b : ℕ) (rest : List ℕ) (n k : ℕ) → n ≡ length w + suc k → take n (w ++ (b ∷ rest)) ≡ w ++ (b ∷ take k rest)
take_past [] b rest n k e = let j : n ≡ suc k = omega arith in ap (λ m. take m (b ∷ rest)) j
take_past (c ∷ w) b rest n k e = let j : n ≡ suc (length w + suc k) = omega arith in ap (λ m. take m (c ∷ (w ++ (b ∷ rest)))) j ∙ ap (λ l. c ∷ l) (take_past w b rest (length w + suc k) k refl)

drop_past : (w : List ℕ) (b : ℕ) (rest : List ℕ) (n k : ℕ) → n ≡ length w + suc k → drop n (w ++ (b ∷ rest)) ≡ drop k rest
drop_past [] b rest n k e = let j : n ≡ suc k = omega arith in ap (λ m. drop m (b ∷ rest)) j
drop_past (c ∷ w) b rest n k e = let j : n ≡ suc (length w + suc k) = omega arith in ap (λ m. drop m (c ∷ (w ++ (b ∷ rest)))) j ∙ drop_past w b rest (length w + suc k) k refl

parted_next : (w rest : List ℕ) (k : ℕ) → AllAre ends_line false w → same_numbers w (37 ∷ []) ≡ false → Parted rest k → Parted (w ++ (10 ∷ rest)) (length w + suc k)
parted_next w rest k free f (r, s) =
    let n = length w + suc k in
    let front : take n (w ++ (10 ∷ rest)) ≡ w ++ (10 ∷ take k rest) = take_past w 10 rest n k refl in
    let behind : drop n (w ++ (10 ∷ rest)) ≡ drop k rest = drop_past w 10 rest n k refl in (
      subst Free (sym front) (free_next w (take k rest) free f r),
      elim s [
        | inl e ↦ inl (omega (arith, length-append w (10 ∷ rest)))
        | inr (whole, inl e) ↦ inr (subst Whole (sym front) (whole_next w (take k rest) whole), inl (behind ∙ e))
        | inr (whole, inr (more, e)) ↦ inr (subst Whole (sym front) (whole_next w (take k rest) whole), inr (more, behind ∙ e))
      ],
    )

-- the first line that is % alone, or the end, parts the text so
parted : {at : ℕ} {text : List ℕ} {ps : List Piece} → Cut ends_line at text ps → (n : ℕ) → n ≡ at + length text
    → (k : ℕ) × ((first_of divides (piece n []) ps).place ≡ at + k) × Parted text k
parted (last at w free) n e = elim (cases_Bool (same_numbers w (37 ∷ []))) [
  | inl t ↦
      let z : at ≡ at + 0 = omega arith in
      (0, ap (λ (p : Piece). p.place) (cond-true (same_numbers w (37 ∷ [])) (piece at w) (piece n []) t) ∙ z, subst (λ v. Parted v 0) (sym (just w t)) (free_none, inr (inl refl, inl refl)))
  | inr f ↦ (
    length w,
    ap (λ (p : Piece). p.place) (cond-false (same_numbers w (37 ∷ [])) (piece at w) (piece n []) f) ∙ e,
    (subst Free (sym (take_all (length w) w (omega arith))) (free_last w free f), inl refl),
  )
]
parted (next at w b rest ps free t cut) n e =
    let ten : 10 ≡ b = sym (eqb-true b 10 t) in
    let d = piece n [] in
    elim (cases_Bool (same_numbers w (37 ∷ []))) [
      | inl y ↦
          let z : at ≡ at + 0 = omega arith in
          let alone : Parted (37 ∷ (10 ∷ rest)) 0 = (free_none, inr (inl refl, inr (rest, refl))) in
          (0, ap (λ (p : Piece). p.place) (cond-true (same_numbers w (37 ∷ [])) (piece at w) (first_of divides d ps) y) ∙ z, subst (λ v. Parted (v ++ (b ∷ rest)) 0) (sym (just w y)) (subst (λ c. Parted (37 ∷ (c ∷ rest)) 0) ten alone))
      | inr f ↦
          let m : n ≡ suc (at + length w) + length rest = omega (arith, length-append w (b ∷ rest)) in
          let r = parted cut n m in
          let k = r.0 in
          let z : suc (at + length w) + k ≡ at + (length w + suc k) = omega arith in
          (length w + suc k, ap (λ (p : Piece). p.place) (cond-false (same_numbers w (37 ∷ [])) (piece at w) (first_of divides d ps) f) ∙ r.1 ∙ z, subst (λ c. Parted (w ++ (c ∷ rest)) (length w + suc k)) ten (parted_next w rest k free f r.2))
    ]

-- the parts before and behind it
parts_of : (text : List ℕ) (k : ℕ) → Parted text k → Divided text (take k text) (drop (k + 2) text)
parts_of text k (free, inl e) = (free 0, inl (take_all k text (omega arith), drop_all (k + 2) text (omega arith)))
parts_of text k (free, inr (whole, inl e)) =
    (free 0, inr (whole, inl (sym (take-append-drop k text) ∙ ap (λ r. take k text ++ r) e, sym (drop-drop 2 k text) ∙ ap (drop 2) e)))
parts_of text k (free, inr (whole, inr (rest, e))) =
    let behind : rest ≡ drop (k + 2) text = sym (sym (drop-drop 2 k text) ∙ ap (drop 2) e) in
    (free 0, inr (whole, inr (sym (take-append-drop k text) ∙ ap (λ r. take k text ++ r) e ∙ ap (λ r. take k text ++ (37 ∷ (10 ∷ r))) behind)))

pub divided : (input : List ℕ) → Divided input (rules_part input) (traces_part input)
unfolding divider
divided input =
    let n : length input ≡ 0 + length input = omega arith in
    let p = parted (cut_is ends_line 0 input) (length input) n in
    let at : p.0 ≡ divider input = (let z : 0 + p.0 ≡ p.0 = omega arith in sym (p.1 ∙ z)) in
    subst (λ k. Divided input (take k input) (drop (k + 2) input)) at (parts_of input p.0 p.2)

-- The lines of a text

lines_only : {text : List ℕ} {ws : List (List ℕ)} → LinesAre text ws → ws ≡ line_texts text
lines_only none = sym texts_none
lines_only (last_line b w free) = sym (texts_last b w free)
lines_only (next_line w rest ws free r) = ap (λ l. w ∷ l) (lines_only r) ∙ sym (texts_next w rest free)

lines_last : (w : List ℕ) → AllAre ends_line false w → LinesAre w (line_texts w)
lines_last [] free = subst (LinesAre []) (sym texts_none) none
lines_last (b ∷ w) free = subst (LinesAre (b ∷ w)) (sym (texts_last b w free)) (last_line b w free)

lines_are : {at : ℕ} {text : List ℕ} {ps : List Piece} → Cut ends_line at text ps → LinesAre text (line_texts text)
lines_are (last at w free) = lines_last w free
lines_are (next at w b rest ps free t cut) =
    let ten : 10 ≡ b = sym (eqb-true b 10 t) in
    let all : LinesAre (w ++ (10 ∷ rest)) (w ∷ line_texts rest) = next_line w rest (line_texts rest) free (lines_are cut) in
    subst (λ c. LinesAre (w ++ (c ∷ rest)) (line_texts (w ++ (c ∷ rest)))) ten (subst (LinesAre (w ++ (10 ∷ rest))) (sym (texts_next w rest free)) all)

pub lines_law : (text : List ℕ) (ws : List (List ℕ)) → LinesAre text ws ↔ (ws ≡ line_texts text)
lines_law text ws = (lines_only, λ e. subst (LinesAre text) (sym e) (lines_are (cut_is ends_line 0 text)))
