-- How words are spelled.
use Rattle.std.proofs.Common.{◌≡◌, ℕ, ◌-◌, ◌<◌, Bool, true, false, not, ◌&&◌, cond, eqb, ◌⊎◌, List, [], ◌∷◌, length, get_or, take, drop, Decides, sym, refl, ap, ◌∙◌, subst, inl, inr, ⊎_elim, arith, rules}
use Rattle.std.proofs.lemmas.Slice.Eq.{compares_Decides}
use Rattle.std.proofs.lemmas.List.{take_rest}
use Rattle.std.proofs.lemmas.Slice.{first_rest}
use Rattle.std.proofs.lemmas.Bool.{and_parts, both_ways, cases_Bool, cases_eq, ne_eqb, cond-true, cond-false}
use Rattle.grammar.specs.Lists.{same_numbers}
use Rattle.text.specs.Kinds.{Kind, arrow, blank, head, pattern, cost, unknown, lettered as by_letter, spelled as by_spelling, kind, word_of, kind_of, Spelled, OfKind, Sound}
use Rattle.text.specs.declared.token.Token.{Token}
use Rattle.text.specs.declared.token.Token.TheVariants.{Arrow, Blank, Head, Pattern, Cost, Unknown}
use Rattle.text.specs.Numbers.{is_numeral, said_number}
use Rattle.text.proofs.Short.{all_digits, arrow_text, blank_text}

-- a letter before a number
abbrev pub Lettered : ℕ → List ℕ → Type 0
Lettered a w = (d : List ℕ) × (is_numeral d ≡ true) × (w ≡ a ∷ d)

-- a word of some kind; H is 72, P is 80 and # is 35
abbrev pub Known : List ℕ → Type 0
Known w = (w ≡ arrow_text) ⊎ ((w ≡ blank_text) ⊎ (Lettered 72 w ⊎ (Lettered 80 w ⊎ Lettered 35 w)))

-- the token's word is spelled as its kind says
abbrev pub FitsWord : Token → Type 0
FitsWord (Arrow w at) = w.now ≡ arrow_text
FitsWord (Blank w at) = w.now ≡ blank_text
FitsWord (Head w at) = Lettered 72 w.now
FitsWord (Pattern w at) = Lettered 80 w.now
FitsWord (Cost w at) = Lettered 35 w.now
FitsWord (Unknown w at) = Known w.now → ⊥

-- a list by its length and elements
pub of_two : (w : List ℕ) (a b : ℕ) → length w ≡ 2 → get_or w 0 0 ≡ a → get_or w 1 0 ≡ b → w ≡ a ∷ (b ∷ [])
of_two [] a b l p q = absurd (omega arith)
of_two (x ∷ []) a b l p q = absurd (omega arith)
of_two (x ∷ (y ∷ [])) a b l p q = cc
of_two (x ∷ (y ∷ (z ∷ zs))) a b l p q = absurd (omega arith)

pub of_five : (w : List ℕ) (a b c d e : ℕ) → length w ≡ 5 → get_or w 0 0 ≡ a → get_or w 1 0 ≡ b → get_or w 2 0 ≡ c → get_or w 3 0 ≡ d → get_or w 4 0 ≡ e → w ≡ a ∷ (b ∷ (c ∷ (d ∷ (e ∷ []))))
of_five [] a b c d e l p q r s t = absurd (omega arith)
of_five (x ∷ w) a b c d e l p q r s t = cc (of_four w b c d e (omega arith) q r s t, p)
  where
    of_three : (w : List ℕ) (b c d : ℕ) → length w ≡ 3 → get_or w 0 0 ≡ b → get_or w 1 0 ≡ c → get_or w 2 0 ≡ d → w ≡ b ∷ (c ∷ (d ∷ []))
    of_three [] b c d l p q r = absurd (omega arith)
    of_three (x ∷ w) b c d l p q r = cc (of_two w c d (omega arith) q r, p)

    of_four : (w : List ℕ) (b c d e : ℕ) → length w ≡ 4 → get_or w 0 0 ≡ b → get_or w 1 0 ≡ c → get_or w 2 0 ≡ d → get_or w 3 0 ≡ e → w ≡ b ∷ (c ∷ (d ∷ (e ∷ [])))
    of_four [] b c d e l p q r s = absurd (omega arith)
    of_four (x ∷ w) b c d e l p q r s = cc (of_three w c d e (omega arith) q r s, p)

-- a first byte and the rest
pub spelled : (w : List ℕ) (a : ℕ) → 0 < a → get_or w 0 0 ≡ a → a ∷ take (length w - 1) (drop 1 w) ≡ w
spelled [] a h p = absurd (omega arith)
spelled (x ∷ w) a h p = ap (λ z. z ∷ take (length (x ∷ w) - 1) w) (sym p) ∙ sym (first_rest (x ∷ w) 0 (omega arith))

pub rest_of : (w d : List ℕ) (a : ℕ) → w ≡ a ∷ d → take (length w - 1) (drop 1 w) ≡ d
rest_of w d a e = take_rest w 1 ∙ ap (drop 1) e

-- a letter before a number
pub lettered : (w : List ℕ) (a : ℕ) → 0 < a → get_or w 0 0 ≡ a → is_numeral (take (length w - 1) (drop 1 w)) ≡ true → Lettered a w
lettered w a h p n = (take (length w - 1) (drop 1 w), n, sym (spelled w a h p))

-- two spellings are one, or not
same_decides : (v w : List ℕ) → Decides (same_numbers v w) (v ≡ w)
same_decides v w = compares_Decides same_numbers (search rules) v w

pub kind_arrow : (w : List ℕ) → w ≡ arrow_text → kind w ≡ arrow
unfolding kind
kind_arrow w e = ap kind e

pub kind_blank : (w : List ℕ) → w ≡ blank_text → kind w ≡ blank
unfolding kind
kind_blank w e = ap kind e

-- the letter is none that comes before a number
pub other_letter : (a n : ℕ) → (a ≡ 72 → ⊥) → (a ≡ 80 → ⊥) → (a ≡ 35 → ⊥) → by_letter a n ≡ unknown
other_letter a n h p c =
    cond-false (eqb a 72) (head n) (cond (eqb a 80) (pattern n) (cond (eqb a 35) (cost n) unknown)) (ne_eqb a 72 h)
    ∙ cond-false (eqb a 80) (pattern n) (cond (eqb a 35) (cost n) unknown) (ne_eqb a 80 p)
    ∙ cond-false (eqb a 35) (cost n) unknown (ne_eqb a 35 c)

-- a word is of the kind as which it is spelled
pub of_kind : (w : List ℕ) → OfKind w
unfolding kind
of_kind w = record { is_kind = is; known = by_arrow (cases_Bool (same_numbers w arrow_text)) (cases_Bool (same_numbers w blank_text)) }
  where
    is : (k : Kind) → Spelled w k → kind w ≡ k
    is arrow e = kind_arrow w e
    is blank e = kind_blank w e
    is (head n) (d, num, val, e) = ap kind e ∙ cond-true (is_numeral d) (head (said_number d)) unknown num ∙ ap head val
    is (pattern n) (d, num, val, e) = ap kind e ∙ cond-true (is_numeral d) (pattern (said_number d)) unknown num ∙ ap pattern val
    is (cost n) (d, num, val, e) = ap kind e ∙ cond-true (is_numeral d) (cost (said_number d)) unknown num ∙ ap cost val
    is unknown e = absurd e

    letter : (a : ℕ) (d : List ℕ) → is_numeral d ≡ true → w ≡ a ∷ d → (by_letter a (said_number d) ≡ unknown) ⊎ Spelled w (by_letter a (said_number d))
    letter a d num e = elim (cases_eq a 72) [
      | inl h ↦ inr (subst (λ z. Spelled w (by_letter z (said_number d))) (sym h) (d, num, refl, e ∙ ap (λ z. z ∷ d) h))
      | inr h ↦ elim (cases_eq a 80) [
        | inl p ↦ inr (subst (λ z. Spelled w (by_letter z (said_number d))) (sym p) (d, num, refl, e ∙ ap (λ z. z ∷ d) p))
        | inr p ↦ elim (cases_eq a 35) [
          | inl c ↦ inr (subst (λ z. Spelled w (by_letter z (said_number d))) (sym c) (d, num, refl, e ∙ ap (λ z. z ∷ d) c))
          | inr c ↦ inl (other_letter a (said_number d) h p c)
        ]
      ]
    ]

    rest : (v : List ℕ) → w ≡ v → (by_spelling v ≡ unknown) ⊎ Spelled w (by_spelling v)
    rest [] e = inl refl
    rest (a ∷ d) e = elim (cases_Bool (is_numeral d)) [
      | inl t ↦ subst (λ (k : Kind). (k ≡ unknown) ⊎ Spelled w k) (sym (cond-true (is_numeral d) (by_letter a (said_number d)) unknown t)) (letter a d t e)
      | inr f ↦ inl (cond-false (is_numeral d) (by_letter a (said_number d)) unknown f)
    ]

    by_arrow : ((same_numbers w arrow_text ≡ true) ⊎ (same_numbers w arrow_text ≡ false)) → ((same_numbers w blank_text ≡ true) ⊎ (same_numbers w blank_text ≡ false)) → (kind w ≡ unknown) ⊎ Spelled w (kind w)
    by_arrow (inl t) b = let e = (same_decides w arrow_text).0 t in inr (subst (Spelled w) (sym (kind_arrow w e)) e)
    by_arrow (inr f) (inl t) = let e = (same_decides w blank_text).0 t in inr (subst (Spelled w) (sym (kind_blank w e)) e)
    by_arrow (inr f) (inr g) = subst (λ (k : Kind). (k ≡ unknown) ⊎ Spelled w k)
        (sym (cond-false (same_numbers w arrow_text) arrow (cond (same_numbers w blank_text) blank (by_spelling w)) f ∙ cond-false (same_numbers w blank_text) blank (by_spelling w) g)) (rest w refl)

-- a word that is spelled as some kind is known
spelled_known : (w : List ℕ) (k : Kind) → Spelled w k → Known w
spelled_known w arrow e = inl e
spelled_known w blank e = inr (inl e)
spelled_known w (head n) (d, num, val, e) = inr (inr (inl (d, num, e)))
spelled_known w (pattern n) (d, num, val, e) = inr (inr (inr (inl (d, num, e))))
spelled_known w (cost n) (d, num, val, e) = inr (inr (inr (inr (d, num, e))))
spelled_known w unknown e = absurd e

-- a token of its word's kind says what the word is
pub sound_kind : (t : Token) → FitsWord t → Sound t
sound_kind (Arrow w at) e = kind_arrow w.now e
sound_kind (Blank w at) e = kind_blank w.now e
sound_kind (Head w at) (d, num, e) = (of_kind w.now).is_kind (head (said_number d)) (d, num, refl, e) ∙ ap (λ v. head (said_number (drop 1 v))) (sym e)
sound_kind (Pattern w at) (d, num, e) = (of_kind w.now).is_kind (pattern (said_number d)) (d, num, refl, e) ∙ ap (λ v. pattern (said_number (drop 1 v))) (sym e)
sound_kind (Cost w at) (d, num, e) = (of_kind w.now).is_kind (cost (said_number d)) (d, num, refl, e) ∙ ap (λ v. cost (said_number (drop 1 v))) (sym e)
sound_kind (Unknown w at) other = ⊎_elim (λ (u : kind w.now ≡ unknown). u) (λ (s : Spelled w.now (kind w.now)). absurd (other (spelled_known w.now (kind w.now) s))) (of_kind w.now).known

-- Words with a number

numeral_digits : (ds : List ℕ) → is_numeral ds ≡ true → all_digits ds ≡ true
numeral_digits [] n = absurd (both_ways _ refl n)
numeral_digits (b ∷ []) n = ap (λ t. t && true) n
numeral_digits (b ∷ (c ∷ cs)) n = (and_parts (not (eqb b 48)) (all_digits (b ∷ (c ∷ cs))) n).1

-- a word with a number
abbrev pub numbered : Kind → Bool
numbered (head n) = true
numbered (pattern n) = true
numbered (cost n) = true
numbered _ = false

spelled_digits : (w : List ℕ) (k : Kind) → Spelled w k → numbered k ≡ true → (0 < length w) × (all_digits (drop 1 w) ≡ true)
spelled_digits w arrow s t = absurd (both_ways _ refl t)
spelled_digits w blank s t = absurd (both_ways _ refl t)
spelled_digits w (head n) (d, num, val, e) t = (omega (arith, ap length e), ap (λ v. all_digits (drop 1 v)) e ∙ numeral_digits d num)
spelled_digits w (pattern n) (d, num, val, e) t = (omega (arith, ap length e), ap (λ v. all_digits (drop 1 v)) e ∙ numeral_digits d num)
spelled_digits w (cost n) (d, num, val, e) t = (omega (arith, ap length e), ap (λ v. all_digits (drop 1 v)) e ∙ numeral_digits d num)
spelled_digits w unknown s t = absurd s

-- a sound token with a number: digits stand behind its letter
pub token_digits : (t u : Token) → Sound t → t ≡ u → numbered (kind_of u) ≡ true → (0 < length (word_of u)) × (all_digits (drop 1 (word_of u)) ≡ true)
token_digits t u s e n =
    let k : kind (word_of u) ≡ kind_of u = subst Sound e s in
    ⊎_elim
    (λ (z : kind (word_of u) ≡ unknown). absurd (both_ways _ (ap numbered (sym k ∙ z)) n))
    (λ (z : Spelled (word_of u) (kind (word_of u))). spelled_digits (word_of u) (kind_of u) (subst (Spelled (word_of u)) k z) n)
    (of_kind (word_of u)).known
