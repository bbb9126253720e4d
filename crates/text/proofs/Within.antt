-- Places lie within the text, and what is refused has one of the numbers 20 to 23.
use Rattle.std.proofs.Common.{◌≡◌, ℕ, ◌+◌, ◌<◌, ◌≤◌, Bool, true, false, cond, ltb, List, [], ◌∷◌, length, get_or, drop, Some, None, Ok, Err, Option, Result, sym, refl, ap, ◌∙◌, subst, inl, inr, ⊎_elim, arith, length-append}
use Rattle.std.proofs.lemmas.Bool.{both_ways, cases_lt, cond-true, lt-ltb}
use Rattle.std.proofs.lemmas.List.{length-drop}
use Rattle.grammar.specs.Lists.{Mem}
use Rattle.grammar.proofs.Lists.{mem_right, those_mem}
use Rattle.text.specs.Kinds.{Kind, arrow, blank, head, pattern, cost, unknown, kind, Spelled}
use Rattle.text.specs.Numbers.{is_numeral, said_number}
use Rattle.text.specs.Faults.{line_fault_number, line_fault_place}
use Rattle.text.specs.Outcomes.{Outcome, nothing, rule, fault, Refused, word_refused, too_short, refusal_of, line, Means, OfDigits, line_said, in_nine, Limits}
use Rattle.text.specs.declared.fault.LineFault.{LineFault}
use Rattle.text.specs.declared.rule_line.RuleLine.{RuleLine}
use Rattle.text.specs.Words.{Piece, pieces, parts, some_byte, words, Cut}
use Rattle.text.specs.Words.Cut.{last, next}
use Rattle.text.proofs.Cutting.{cut_is}
use Rattle.text.proofs.Meaning.{line_means}
use Rattle.text.proofs.Items.{take_below}
use Rattle.text.proofs.Spelled.{of_kind}
use Rattle.text.proofs.Wording.{words_past}

cut_inside : {p : ℕ → Bool} {at : ℕ} {bs : List ℕ} {ps : List Piece} → Cut p at bs ps → (q : Piece) → Mem q ps → q.place + length q.bytes ≤ at + length bs
cut_inside (last at w h) q (inl e) = omega (arith, ap (λ (r : Piece). r.place + length r.bytes) e)
cut_inside (last at w h) q (inr m) = absurd m
cut_inside (next at w b rest ps h t r) q (inl e) = omega (arith, ap (λ (r : Piece). r.place + length r.bytes) e, length-append w (b ∷ rest))
cut_inside (next at w b rest ps h t r) q (inr m) = omega (arith, cut_inside r q m, length-append w (b ∷ rest))

-- a piece of a text ends within it
pub pieces_inside : (p : ℕ → Bool) (at : ℕ) (bs : List ℕ) (q : Piece) → Mem q (pieces p at bs) → q.place + length q.bytes ≤ at + length bs
pieces_inside p at bs q m = cut_inside (cut_is p at bs) q m

-- so does a word
pub words_inside : (at : ℕ) (bs : List ℕ) (q : Piece) → Mem q (words at bs) → q.place + length q.bytes ≤ at + length bs
words_inside at bs q m = pieces_inside parts at bs q (those_mem (λ (p : Piece). some_byte p.bytes) q (pieces parts at bs) m).0

-- the number of a word's refusal
over_range : (b : Bool) → (20 ≤ cond b 21 22) × (cond b 21 22 ≤ 22)
over_range true = (omega arith, omega arith)
over_range false = (omega arith, omega arith)

refusal_range : (k : Kind) → (20 ≤ refusal_of k) × (refusal_of k ≤ 22)
refusal_range arrow = (omega arith, omega arith)
refusal_range blank = (omega arith, omega arith)
refusal_range (head n) = over_range (ltb 31 n)
refusal_range (pattern n) = over_range (ltb 31 n)
refusal_range (cost n) = over_range (ltb 65535 n)
refusal_range unknown = (omega arith, omega arith)

-- a line that is refused
pub line_within : (end : ℕ) (ws : List Piece) (n at : ℕ) → ((w : Piece) → Mem w ws → w.place ≤ end) → line end ws ≡ fault n at → (20 ≤ n) × (n ≤ 23) × (at ≤ end)
line_within end ws n at inside e = refused_within n at (subst (Means end ws) e (line_means end ws))
  where
    refused_within : (n at : ℕ) → Refused end ws n at → (20 ≤ n) × (n ≤ 23) × (at ≤ end)
    refused_within n at (word_refused before w after are b c) =
        let k = refusal_range (kind w.bytes) in
        (k.0, omega (arith, k.1), inside w (subst (Mem w) (sym are) (mem_right w before (w ∷ after) (inl refl))))
    refused_within n at (too_short s b c) = (omega arith, omega arith, omega arith)

-- so does a word of a text from a place on
words_in_text : (text : List ℕ) (from : ℕ) (w : Piece) → Mem w (words from (drop from text)) → w.place ≤ length text
words_in_text text from w m = ⊎_elim
    (λ (l : from < length text). omega (arith, words_inside from (drop from text) w m, length-drop from text))
    (λ (g : length text ≤ from). absurd (subst (Mem w) (words_past text from g) m))
    (cases_lt from (length text))

abbrev is_fault : Outcome → Bool
is_fault (fault n at) = true
is_fault o = false

fault_same : (o : Outcome) (n at : ℕ) → fault n at ≡ in_nine o → o ≡ fault n at
fault_same nothing n at e = absurd (both_ways true (ap is_fault e) refl)
fault_same (rule p) n at e = absurd (both_ways true (ap is_fault e) refl)
fault_same (fault m b) n at e = sym e

-- a line's rule, or its refusal
pub line_limits : (text : List ℕ) (from : ℕ) (r : Result (Option RuleLine) LineFault) → line_said r ≡ in_nine (line (length text) (words from (drop from text))) → Limits (length text) r
line_limits text from (Ok None) e = tt
line_limits text from (Ok (Some l)) e = (l.named, take_below l.items 64 l.len (omega arith) l.known, l.held)
line_limits text from (Err f) e =
    let ws = words from (drop from text) in
    line_within (length text) ws (line_fault_number f) (line_fault_place f) (words_in_text text from) (fault_same (line (length text) ws) _ _ e)

-- Numbers of any length

second : (w v : List ℕ) → w ≡ v → get_or w 1 0 ≡ get_or v 1 0
second w v e = ap (λ l. get_or l 1 0) e

zero_is_none : (a c : ℕ) (cs d : List ℕ) (l : ℕ) → is_numeral d ≡ true → a ∷ (48 ∷ (c ∷ cs)) ≡ l ∷ d → ⊥
zero_is_none a c cs d l num e = both_ways _ refl (ap (λ v. is_numeral (drop 1 v)) e ∙ num)

pub of_digits : (d : List ℕ) → OfDigits d
of_digits d = record {
  head_over = λ t o. ap refusal_of ((of_kind (72 ∷ d)).is_kind (head (said_number d)) (d, t, refl, refl)) ∙ cond-true (ltb 31 (said_number d)) 21 22 (lt-ltb 31 (said_number d) o);
  pattern_over = λ t o. ap refusal_of ((of_kind (80 ∷ d)).is_kind (pattern (said_number d)) (d, t, refl, refl)) ∙ cond-true (ltb 31 (said_number d)) 21 22 (lt-ltb 31 (said_number d) o);
  cost_over = λ t o. ap refusal_of ((of_kind (35 ∷ d)).is_kind (cost (said_number d)) (d, t, refl, refl)) ∙ cond-true (ltb 65535 (said_number d)) 21 22 (lt-ltb 65535 (said_number d) o);
  zero_first = λ a s. ap refusal_of (zero_unknown a d s);
}
  where
    spelled_not : (a : ℕ) (d : List ℕ) → 0 < length d → (k : Kind) → Spelled (a ∷ (48 ∷ d)) k → ⊥
    spelled_not a d s arrow e = omega (arith, second (a ∷ (48 ∷ d)) (45 ∷ (62 ∷ [])) e)
    spelled_not a d s blank e = omega (arith, second (a ∷ (48 ∷ d)) (98 ∷ (108 ∷ (97 ∷ (110 ∷ (107 ∷ []))))) e)
    spelled_not a [] s k e = omega (arith, s)
    spelled_not a (c ∷ cs) s (head n) (v, num, val, e) = zero_is_none a c cs v 72 num e
    spelled_not a (c ∷ cs) s (pattern n) (v, num, val, e) = zero_is_none a c cs v 80 num e
    spelled_not a (c ∷ cs) s (cost n) (v, num, val, e) = zero_is_none a c cs v 35 num e
    spelled_not a (c ∷ cs) s unknown e = e

    zero_unknown : (a : ℕ) (d : List ℕ) → 0 < length d → kind (a ∷ (48 ∷ d)) ≡ unknown
    zero_unknown a d s = ⊎_elim
        (λ (u : kind (a ∷ (48 ∷ d)) ≡ unknown). u)
        (λ (p : Spelled (a ∷ (48 ∷ d)) (kind (a ∷ (48 ∷ d)))). absurd (spelled_not a d s (kind (a ∷ (48 ∷ d))) p))
        (of_kind (a ∷ (48 ∷ d))).known
