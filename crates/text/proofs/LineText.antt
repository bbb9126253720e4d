-- The words of a production's line, and what they are.
use Rattle.std.proofs.Common.{◌≡◌, ℕ, suc, ◌+◌, ◌-◌, ◌^◌, ◌<◌, ◌≤◌, true, false, cond, not, ◌&&◌, ltb, List, [], ◌∷◌, ◌++◌, map, length, get_or, decimal as digits_of, sym, refl, ap, ◌∙◌, subst, inl, inr, ⊎_elim, append-nil, arith, rules}
use Rattle.std.proofs.lemmas.Fmt.{digits_decimal, digits_value-decimal, decimal_nonempty, first_decimal, decimal_digit}
use Rattle.std.proofs.lemmas.Str.Parse.{IsNumeralModel, numerals_by_fold, not_in_digits}
use Rattle.std.proofs.lemmas.Bool.{cases_lt, ne_eqb, cond-true, cond-false, lt-ltb, le-ltb, and_parts}
use Rattle.std.proofs.lemmas.Bool.Decides.{nat_tests}
use Rattle.grammar.specs.Lists.{Mem, each}
use Rattle.grammar.specs.Productions.{Production}
use Rattle.grammar.proofs.Lists.{map_mem, mem_append}
use Rattle.text.specs.Kinds.{Kind, arrow, blank, head, pattern, cost, unknown, lettered, kind}
use Rattle.text.specs.Outcomes.{kinds, item_kind, right_kinds, Writable, front_kinds, word_text, spaced, line_text, Says}
use Rattle.text.specs.Numbers.{is_digit, is_numeral, said_number}
use Rattle.text.proofs.Short.{decimal_after, all_digits, arrow_text, blank_text}
use Rattle.text.specs.Words.{piece, ends_line, parts, words, AllAre}
use Rattle.text.proofs.Spelled.{kind_arrow, kind_blank}
use Rattle.text.proofs.Wording.{words_split, words_word, words_none, all_places}

own : IsNumeralModel (λ ds. all_digits ds ≡ true) (decimal_after 0)
own = numerals_by_fold _ (search rules) decimal_after (search rules)

-- digits with no leading zero
decimal_numeral : (n : ℕ) → n < 2 ^ 64 → is_numeral (digits_of n) ≡ true
decimal_numeral n h = at (digits_of n) refl (digits_decimal own n h)
  where
    single : (b : ℕ) → is_digit b && true ≡ true → is_digit b ≡ true
    single b t = (and_parts (is_digit b) true t).0

    at : (ds : List ℕ) → digits_of n ≡ ds → all_digits ds ≡ true → is_numeral ds ≡ true
    at [] e d = absurd (omega (arith, decimal_nonempty n h, ap length e))
    at (b ∷ []) e d = single b d
    at (b ∷ (c ∷ cs)) e d = ⊎_elim
        (λ (z : n < 1). let s : n ≡ 0 = omega arith in absurd (omega (arith, ap length (sym e ∙ decimal_digit n (omega arith)))))
        (λ (g : 1 ≤ n). ap (λ t. not t && all_digits (b ∷ (c ∷ cs))) (ne_eqb b 48 (λ q. omega (arith, first_decimal n g h, ap (λ l. get_or l 0 0) e, q))) ∙ d)
        (cases_lt n 1)

-- a letter before a number is of its kind
letter_kind : (a n : ℕ) → n < 2 ^ 64 → kind (a ∷ digits_of n) ≡ cond (is_numeral (digits_of n)) (lettered a (said_number (digits_of n))) unknown → kind (a ∷ digits_of n) ≡ lettered a n
letter_kind a n h e = e ∙ cond-true (is_numeral (digits_of n)) (lettered a (said_number (digits_of n))) unknown (decimal_numeral n h) ∙ ap (lettered a) (digits_value-decimal own n h)

-- a kind that can be written
abbrev PlainKind : Kind → Type 0
PlainKind arrow = Unit {0}
PlainKind blank = Unit {0}
PlainKind (head n) = n < 2 ^ 64
PlainKind (pattern n) = n < 2 ^ 64
PlainKind (cost n) = n < 2 ^ 64
PlainKind unknown = ⊥

kind_of_word : (k : Kind) → PlainKind k → kind (word_text k) ≡ k
unfolding kind
kind_of_word arrow h = kind_arrow arrow_text refl
kind_of_word blank h = kind_blank blank_text refl
kind_of_word (head n) h = letter_kind 72 n h refl
kind_of_word (pattern n) h = letter_kind 80 n h refl
kind_of_word (cost n) h = letter_kind 35 n h refl
kind_of_word unknown h = absurd h

-- a byte of a word: no space and no line feed
word_byte : (b : ℕ) → (b ≡ 32 → ⊥) → (b ≡ 10 → ⊥) → parts b ≡ false
word_byte b s l = grind (arith, nat_tests)

no_gap : (n : ℕ) → n < 2 ^ 64 → AllAre parts false (digits_of n)
no_gap n h = all_places parts false (digits_of n) (λ k l.
    word_byte (get_or (digits_of n) k 0) (not_in_digits own (digits_of n) 32 (digits_decimal own n h) (λ i. omega (arith, i)) k l) (not_in_digits own (digits_of n) 10 (digits_decimal own n h) (λ i. omega (arith, i)) k l))

with_letter : (a : ℕ) (w : List ℕ) → parts a ≡ false → AllAre parts false w → AllAre parts false (a ∷ w)
with_letter a w e h b (inl q) = ap parts q ∙ e
with_letter a w e h b (inr m) = h b m

-- a word: some bytes, none of which parts words
abbrev Wordly : List ℕ → Type 0
Wordly w = (0 < length w) × AllAre parts false w

none_part : AllAre parts false []
none_part b m = absurd m

wordly : (k : Kind) → PlainKind k → Wordly (word_text k)
wordly arrow h = (omega arith, with_letter 45 (62 ∷ []) refl (with_letter 62 [] refl none_part))
wordly blank h = (omega arith, with_letter 98 (108 ∷ 97 ∷ 110 ∷ 107 ∷ []) refl (with_letter 108 (97 ∷ 110 ∷ 107 ∷ []) refl (with_letter 97 (110 ∷ 107 ∷ []) refl (with_letter 110 (107 ∷ []) refl (with_letter 107 [] refl none_part)))))
wordly (head n) h = (omega arith, with_letter 72 (digits_of n) refl (no_gap n h))
wordly (pattern n) h = (omega arith, with_letter 80 (digits_of n) refl (no_gap n h))
wordly (cost n) h = (omega arith, with_letter 35 (digits_of n) refl (no_gap n h))
wordly unknown h = absurd h

-- the words of a spaced text
one_word : (at : ℕ) (w : List ℕ) → Wordly w → words at w ≡ piece at w ∷ []
one_word at [] h = absurd (omega (arith, h.0))
one_word at (b ∷ w) h = ap (words at) (sym (append-nil (b ∷ w))) ∙ words_word at b w [] h.1 tt ∙ ap (λ l. piece at (b ∷ w) ∷ l) (words_none (at + length (b ∷ w)))

spaced_kinds : (at : ℕ) (w : List ℕ) (ws : List (List ℕ)) → ((v : List ℕ) → Mem v (w ∷ ws) → Wordly v) → kinds (words at (spaced (w ∷ ws))) ≡ map kind (w ∷ ws)
spaced_kinds at w [] h = ap (λ l. kinds (words at l)) (append-nil w) ∙ ap kinds (one_word at w (h w (inl refl)))
spaced_kinds at w (v ∷ vs) h =
    ap kinds (words_split at w 32 (spaced (v ∷ vs)) refl ∙ ap (λ l. l ++ words (suc (at + length w)) (spaced (v ∷ vs))) (one_word at w (h w (inl refl))))
    ∙ ap (λ l. kind w ∷ l) (spaced_kinds (suc (at + length w)) v vs (λ u m. h u (inr m)))

all_kinds : (ks : List Kind) → ((k : Kind) → Mem k ks → PlainKind k) → map kind (map word_text ks) ≡ ks
all_kinds [] h = refl
all_kinds (k ∷ ks) h = ap (λ z. z ∷ map kind (map word_text ks)) (kind_of_word k (h k (inl refl))) ∙ ap (λ l. k ∷ l) (all_kinds ks (λ j m. h j (inr m)))

item_plain : (i : ℕ) → i < 64 → PlainKind (item_kind i)
item_plain i h = ⊎_elim
    (λ (l : i < 32). subst PlainKind (sym (cond-true (ltb i 32) (head i) (pattern (i - 32)) (lt-ltb i 32 l))) (omega arith))
    (λ (g : 32 ≤ i). subst PlainKind (sym (cond-false (ltb i 32) (head i) (pattern (i - 32)) (le-ltb i 32 g))) (omega arith))
    (cases_lt i 32)

right_plain : (is : List ℕ) → ((i : ℕ) → Mem i is → i < 64) → (k : Kind) → Mem k (right_kinds is) → PlainKind k
right_plain [] low k (inl e) = subst PlainKind (sym e) tt
right_plain [] low k (inr m) = absurd m
right_plain (i ∷ is) low k m = let q = map_mem item_kind k (i ∷ is) m in subst PlainKind (sym q.2) (item_plain q.0 (low q.0 q.1))

plain_line : (p : Production) → Writable p → (k : Kind) → Mem k (front_kinds p ++ (cost p.cost ∷ [])) → PlainKind k
plain_line p w k m = elim (mem_append k (front_kinds p) (cost p.cost ∷ []) m) [
  | inl (inl e) ↦ subst PlainKind (sym e) (omega (arith, w.low_head))
  | inl (inr (inl e)) ↦ subst PlainKind (sym e) tt
  | inl (inr (inr q)) ↦ right_plain p.right w.low_items k q
  | inr (inl e) ↦ subst PlainKind (sym e) (omega (arith, w.low_cost))
  | inr (inr q) ↦ absurd q
]

-- the line of a production says it
pub text_says : (at : ℕ) (p : Production) → Writable p → Says (kinds (words at (line_text p))) p
text_says at p w =
    let ks = front_kinds p ++ (cost p.cost ∷ []) in
    let plain = plain_line p w in (
      w,
      inl (spaced_kinds at (word_text (head p.head)) (map word_text (arrow ∷ (right_kinds p.right ++ (cost p.cost ∷ []))))
          (λ v m. let q = map_mem word_text v ks m in subst Wordly (sym q.2) (wordly q.0 (plain q.0 q.1))) ∙ all_kinds ks plain),
    )

-- it is one line
spaced_one : (w : List ℕ) (ws : List (List ℕ)) → ((v : List ℕ) → Mem v (w ∷ ws) → Wordly v) → AllAre ends_line false (spaced (w ∷ ws))
spaced_one w ws h b m = elim (mem_append b w (each (λ (v : List ℕ). 32 ∷ v) ws) m) [
  | inl k ↦ no_feed b ((h w (inl refl)).1 b k)
  | inr k ↦ rest ws (λ v n. h v (inr n)) k
]
  where
    no_feed : (c : ℕ) → parts c ≡ false → ends_line c ≡ false
    no_feed c f = grind (arith, nat_tests)

    rest : (vs : List (List ℕ)) → ((v : List ℕ) → Mem v vs → Wordly v) → Mem b (each (λ (v : List ℕ). 32 ∷ v) vs) → ends_line b ≡ false
    rest [] g k = absurd k
    rest (v ∷ vs) g (inl e) = ap ends_line e
    rest (v ∷ vs) g (inr k) = elim (mem_append b v (each (λ (v : List ℕ). 32 ∷ v) vs) k) [ inl n ↦ no_feed b ((g v (inl refl)).1 b n) | inr n ↦ rest vs (λ u q. g u (inr q)) n ]

pub text_one_line : (p : Production) → Writable p → AllAre ends_line false (line_text p)
text_one_line p w =
    let ks = front_kinds p ++ (cost p.cost ∷ []) in
    spaced_one (word_text (head p.head)) (map word_text (arrow ∷ (right_kinds p.right ++ (cost p.cost ∷ []))))
    (λ v m. let q = map_mem word_text v ks m in subst Wordly (sym q.2) (wordly q.0 (plain_line p w q.0 q.1)))
