-- The lines and the words of a text are those of the laws, and no others.
use Rattle.std.proofs.Common.{◌≡◌, ℕ, suc, ◌+◌, Bool, true, false, cond, eqb, List, [], ◌∷◌, ◌++◌, length, sym, refl, ap, ◌∙◌, subst, inl, inr, append-nil, arith}
use Rattle.std.proofs.lemmas.Bool.{cases_Bool, cond-true, cond-false, or_right}
use Rattle.grammar.specs.Lists.{those, each}
use Rattle.text.specs.Words.{Piece, piece, longer, pieces, ends_line, parts, some_byte, words, line_words, AllAre, Cut, Ends, Words, CutInto}
use Rattle.text.specs.Words.Cut.{last, next as next_piece}
use Rattle.text.specs.Words.Words.{none, next as next_word}
use Rattle.text.proofs.Wording.{pieces_last, pieces_next, words_split, words_none, words_gap, words_word}

-- one byte more at the front, which parts nothing
grown : (p : ℕ → Bool) (at b : ℕ) → p b ≡ false → {n : ℕ} {bs : List ℕ} {ps : List Piece} → Cut p n bs ps → n ≡ suc at → Cut p at (b ∷ bs) (longer at b ps)
grown p at b f (last n w h) e = last at (b ∷ w) (λ c m. elim m [ inl q ↦ ap p q ∙ f | inr k ↦ h c k ])
grown p at b f (next_piece n w c rest ps h t r) e =
    let s : suc (n + length w) ≡ suc (at + suc (length w)) = omega arith in
    next_piece at (b ∷ w) c rest ps (λ d m. elim m [ inl q ↦ ap p q ∙ f | inr k ↦ h d k ]) t (subst (λ m. Cut p m rest ps) s r)

pub cut_is : (p : ℕ → Bool) (at : ℕ) (bs : List ℕ) → Cut p at bs (pieces p at bs)
unfolding pieces
cut_is p at [] = last at [] (λ b m. absurd m)
cut_is p at (b ∷ bs) = elim (cases_Bool (p b)) [
  | inl t ↦
      let s : suc at ≡ suc (at + 0) = omega arith in
      subst (Cut p at (b ∷ bs)) (sym (cond-true (p b) (piece at [] ∷ pieces p (suc at) bs) (longer at b (pieces p (suc at) bs)) t))
      (next_piece at [] b bs (pieces p (suc at) bs) (λ c m. absurd m) t (subst (λ m. Cut p m bs (pieces p (suc at) bs)) s (cut_is p (suc at) bs)))
  | inr f ↦
      subst (Cut p at (b ∷ bs)) (sym (cond-false (p b) (piece at [] ∷ pieces p (suc at) bs) (longer at b (pieces p (suc at) bs)) f))
      (grown p at b f (cut_is p (suc at) bs) refl)
]

cut_only : (p : ℕ → Bool) {at : ℕ} {bs : List ℕ} {ps : List Piece} → Cut p at bs ps → ps ≡ pieces p at bs
cut_only p (last at w h) = sym (pieces_last p at w h)
cut_only p (next_piece at w b rest ps h t r) = ap (λ l. piece at w ∷ l) (cut_only p r) ∙ sym (pieces_next p at w b rest h t)

-- one byte more at the front, which parts words
gap_more : (at c : ℕ) → parts c ≡ true → {n : ℕ} {bs : List ℕ} {ws : List Piece} → Words n bs ws → n ≡ suc at → Words at (c ∷ bs) ws
gap_more at c t (none n gap h) e = none at (c ∷ gap) (λ b m. elim m [ inl q ↦ ap parts q ∙ t | inr k ↦ h b k ])
gap_more at c t (next_word n gap b w rest ws h f ends r) e =
    let s : n + length gap ≡ at + suc (length gap) = omega arith in
    let all : AllAre parts true (c ∷ gap) = λ d m. elim m [ inl q ↦ ap parts q ∙ t | inr k ↦ h d k ] in
    subst (λ m. Words at (c ∷ (gap ++ ((b ∷ w) ++ rest))) (piece m (b ∷ w) ∷ ws)) (sym s) (next_word at (c ∷ gap) b w rest ws all f ends (subst (λ m. Words (m + length (b ∷ w)) rest ws) s r))

-- a stretch that parts no words, before what begins with a byte that does, or before nothing
word_more : (at : ℕ) (w rest : List ℕ) (ws : List Piece) → AllAre parts false w → Ends rest → Words (at + length w) rest ws
    → Words at (w ++ rest) (cond (some_byte w) (piece at w ∷ ws) ws)
word_more at [] rest ws f ends r = let e : at + 0 ≡ at = omega arith in subst (λ n. Words n rest ws) e r
word_more at (b ∷ w) rest ws f ends r =
    let e : at + length (b ∷ w) ≡ at + 0 + length (b ∷ w) = omega arith in
    let z : at + 0 ≡ at = omega arith in
    subst (λ n. Words at ((b ∷ w) ++ rest) (piece n (b ∷ w) ∷ ws)) z (next_word at [] b w rest ws (λ c m. absurd m) f ends (subst (λ n. Words n rest ws) e r))

cut_words : {at : ℕ} {bs : List ℕ} {ps : List Piece} → Cut parts at bs ps → Words at bs (those (λ (q : Piece). some_byte q.bytes) ps)
cut_words (last at w h) = subst (λ l. Words at l (cond (some_byte w) (piece at w ∷ []) [])) (append-nil w) (word_more at w [] [] h tt (none (at + length w) [] (λ b m. absurd m)))
cut_words (next_piece at w b rest ps h t r) = word_more at w (b ∷ rest) (those (λ (q : Piece). some_byte q.bytes) ps) h t (gap_more (at + length w) b t (cut_words r) refl)

words_only : {at : ℕ} {bs : List ℕ} {ws : List Piece} → Words at bs ws → ws ≡ words at bs
words_only (none at gap h) = sym (ap (words at) (sym (append-nil gap)) ∙ words_gap at gap [] h ∙ words_none (at + length gap))
words_only (next_word at gap b w rest ws h f ends r) =
    ap (λ l. piece (at + length gap) (b ∷ w) ∷ l) (words_only r) ∙ sym (words_gap at gap ((b ∷ w) ++ rest) h ∙ words_word (at + length gap) b w rest f ends)

lines_words : {at : ℕ} {bs : List ℕ} {ps : List Piece} → Cut ends_line at bs ps → words at bs ≡ each line_words ps
lines_words (last at w h) = sym (append-nil (words at w))
lines_words (next_piece at w b rest ps h t r) = words_split at w b rest (or_right (eqb b 32) (eqb b 10) t) ∙ ap (λ l. words at w ++ l) (lines_words r)

pub cut_into : (at : ℕ) (text : List ℕ) → CutInto at text
cut_into at text = record {
  lines_are = cut_is ends_line at text;
  only_lines = λ ps c. cut_only ends_line c;
  words_are = cut_words (cut_is parts at text);
  only_words = λ ws w. words_only w;
  by_line = lines_words (cut_is ends_line at text);
}
