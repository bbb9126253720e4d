-- The scripts of an input, and the first word of each.
use Rattle.std.proofs.Common.{◌≡◌, ℕ, suc, ◌+◌, ◌-◌, ◌<◌, ◌≤◌, true, false, cond, ltb, List, [], ◌∷◌, ◌++◌, length, map, get_or, take, drop, sym, refl, ap, ◌∙◌, subst, inl, inr, ⊎_elim, append_assoc, append-nil, nat_eq, arith}
use Rattle.std.specs.Prelude.{codes}
use Rattle.std.proofs.Math.Seq.{take-add}
use Rattle.std.proofs.lemmas.List.{take_more, take_all, drop_all, drop-append-le, length-take-le, length-take, length-drop}
use Rattle.std.proofs.lemmas.Bool.{cases_lt, cases_Bool, cond-true, cond-false, ne_eqb, lt-ltb, le-ltb}
use Rattle.text.specs.Words.{Piece, words, ends_line, AllAre, IsLineEnd}
use Rattle.text.specs.Turns.{IsNextLine}
use Rattle.text.specs.declared.lines.Line.{Line}
use Rattle.text.specs.declared.lines.Lines.{Lines}
use Rattle.text.proofs.Wording.{stretch, stretch_all}
use Rattle.grammar.specs.Lists.{same_numbers}
use Rattle.book.specs.Fits.{card_test}
use Rattle.text.proofs.Later.{shift, words_later}
use Rattle.programs.specs.Output.{line_texts}
use Rattle.programs.specs.ScriptOutput.{Part, part, is_bar, longer, parts, malformed_line, read_print, first_or, first_word, named_print, part_print, parts_print, script_output}
use Rattle.programs.specs.Spelling.{bytes_spelling, cards_spelling}
use Rattle.programs.specs.ScriptLines.{read}
use Rattle.programs.specs.declared.script.fault.Cause.TheVariants.{NoAlphabet}
use Rattle.programs.proofs.Texts.{texts_none, texts_next, texts_at, next_texts, bytes_at}

-- The first word

same_first : (n k : ℕ) (ws : List Piece) (later : ℕ × List ℕ) → first_or n (map (shift k) ws) later ≡ first_or n ws later
same_first n k [] later = refl
same_first n k (v ∷ vs) later = refl

-- a line's words begin alike wherever it stands
first_there : (n from : ℕ) (w : List ℕ) (later : ℕ × List ℕ) → first_or n (words 0 w) later ≡ first_or n (words from w) later
first_there n from w later =
    let e : from + 0 ≡ from = omega arith in
    sym (same_first n from (words 0 w) later) ∙ ap (λ ws. first_or n ws later) (sym (words_later from 0 w)) ∙ ap (λ k. first_or n (words k w) later) e

-- a line without words is passed over
pub first_passes : (n from : ℕ) (w : List ℕ) (ls ws : List (List ℕ)) → ls ≡ w ∷ ws → words from w ≡ [] → first_word n ls ≡ first_word (n + 1) ws
unfolding first_word
first_passes n from w ls ws l e =
    let m : suc n ≡ n + 1 = omega arith in
    ap (first_word n) l ∙ first_there n from w (first_word (suc n) ws) ∙ ap (λ vs. first_or n vs (first_word (suc n) ws)) e ∙ ap (λ k. first_word k ws) m

-- a line with a word
pub first_found : (n from : ℕ) (w : List ℕ) (ls ws : List (List ℕ)) (v : Piece) (vs : List Piece) → ls ≡ w ∷ ws → words from w ≡ v ∷ vs → first_word n ls ≡ (n, v.bytes)
unfolding first_word
first_found n from w ls ws v vs l e = ap (first_word n) l ∙ first_there n from w (first_word (suc n) ws) ∙ ap (λ us. first_or n us (first_word (suc n) ws)) e

-- no line
pub first_none : (n : ℕ) (ls : List (List ℕ)) → ls ≡ [] → first_word n ls ≡ (n, [])
unfolding first_word
first_none n ls e = ap (first_word n) e

-- By the first word

module _ (p : Part) (n : ℕ) (w : List ℕ) (e : ◌≡◌ {A = ℕ × List ℕ} (n, w) (first_word p.first p.lines)) where
  abbrev over_bytes : List ℕ
  over_bytes = read_print nat_eq (read bytes_spelling p.first p.lines)

  abbrev over_cards : List ℕ
  over_cards = read_print card_test (read cards_spelling p.first p.lines)

  abbrev over_none : List ℕ
  over_none = malformed_line n NoAlphabet

  pub named_bytes : same_numbers w bytes_spelling.name ≡ true → over_bytes ≡ part_print p
  unfolding part_print
  named_bytes b = sym (ap (λ q. named_print q p) (sym e) ∙ cond-true (same_numbers w bytes_spelling.name) over_bytes (cond (same_numbers w cards_spelling.name) over_cards over_none) b)

  module _ (b : same_numbers w bytes_spelling.name ≡ false) where
    others : named_print (n, w) p ≡ cond (same_numbers w cards_spelling.name) over_cards over_none
    others = cond-false (same_numbers w bytes_spelling.name) over_bytes (cond (same_numbers w cards_spelling.name) over_cards over_none) b

    pub named_cards : same_numbers w cards_spelling.name ≡ true → over_cards ≡ part_print p
    unfolding part_print
    named_cards c = sym (ap (λ q. named_print q p) (sym e) ∙ others ∙ cond-true (same_numbers w cards_spelling.name) over_cards over_none c)

    pub named_none : same_numbers w cards_spelling.name ≡ false → over_none ≡ part_print p
    unfolding part_print
    named_none c = sym (ap (λ q. named_print q p) (sym e) ∙ others ∙ cond-false (same_numbers w cards_spelling.name) over_cards over_none c)

-- Script by script

-- the scripts with these lines at the front of the first, which then begins with the line of a number
abbrev pub onto : ℕ → List (List ℕ) → List Part → List Part
onto n ls [] = part n ls ∷ []
onto n ls (p ∷ ps) = part n (ls ++ p.lines) ∷ ps

-- there is a first script, and it begins where the lines do
some_part : (n : ℕ) (ws : List (List ℕ)) → (p : Part) × ((ps : List Part) × (parts n ws ≡ p ∷ ps) × (p.first ≡ n))
unfolding parts
some_part n [] = (part n [], ([], refl, refl))
some_part n (w ∷ ws) = elim (cases_Bool (is_bar w)) [
  | inl t ↦ (part n [], (parts (suc n) ws, cond-true (is_bar w) (part n [] ∷ parts (suc n) ws) (longer n w (parts (suc n) ws)) t, refl))
  | inr f ↦
      let q = some_part (suc n) ws in
      (part n (w ∷ q.0.lines), (q.1.0, cond-false (is_bar w) (part n [] ∷ parts (suc n) ws) (longer n w (parts (suc n) ws)) f ∙ ap (longer n w) q.1.1, refl))
]

pub onto_none : (n : ℕ) (ws : List (List ℕ)) → onto n [] (parts n ws) ≡ parts n ws
onto_none n ws =
    let q = some_part n ws in
    ap (onto n []) q.1.1 ∙ ap (λ k. part k q.0.lines ∷ q.1.0) (sym q.1.2) ∙ sym q.1.1

-- a line more of the script
pub onto_line : (first n : ℕ) (w : List ℕ) (ls ws : List (List ℕ)) → is_bar w ≡ false → onto first ls (parts n (w ∷ ws)) ≡ onto first (ls ++ (w ∷ [])) (parts (n + 1) ws)
unfolding parts
onto_line first n w ls ws f =
    let q = some_part (suc n) ws in
    let m : suc n ≡ n + 1 = omega arith in
    ap (onto first ls) (cond-false (is_bar w) (part n [] ∷ parts (suc n) ws) (longer n w (parts (suc n) ws)) f ∙ ap (longer n w) q.1.1)
    ∙ ap (λ l. part first l ∷ q.1.0) (sym (append_assoc ls (w ∷ []) q.0.lines))
    ∙ sym (ap (onto first (ls ++ (w ∷ []))) q.1.1)
    ∙ ap (λ k. onto first (ls ++ (w ∷ [])) (parts k ws)) m

-- the line that parts it from the next
pub print_bar : (first n : ℕ) (w : List ℕ) (ls ws : List (List ℕ)) → is_bar w ≡ true
    → parts_print (onto first ls (parts n (w ∷ ws))) ≡ part_print (part first ls) ++ (codes "%\n" ++ parts_print (parts (n + 1) ws))
unfolding parts
print_bar first n w ls ws t =
    let q = some_part (suc n) ws in
    let m : suc n ≡ n + 1 = omega arith in
    ap (λ l. parts_print (onto first ls l)) (cond-true (is_bar w) (part n [] ∷ parts (suc n) ws) (longer n w (parts (suc n) ws)) t ∙ ap (λ l. part n [] ∷ l) q.1.1)
    ∙ ap (λ l. part_print (part first l) ++ (codes "%\n" ++ parts_print (q.0 ∷ q.1.0))) (append-nil ls)
    ∙ ap (λ l. part_print (part first ls) ++ (codes "%\n" ++ parts_print l)) (sym q.1.1)
    ∙ ap (λ k. part_print (part first ls) ++ (codes "%\n" ++ parts_print (parts k ws))) m

-- the end of the last
pub print_last : (first n : ℕ) (ls ws : List (List ℕ)) → ws ≡ [] → parts_print (onto first ls (parts n ws)) ≡ part_print (part first ls)
unfolding parts
print_last first n ls ws e = ap (λ l. parts_print (onto first ls (parts n l))) e ∙ ap (λ l. part_print (part first l)) (append-nil ls)

-- Lines of a stretch

-- a text whose lines are its own whatever comes behind it
abbrev pub Splits : List ℕ → Type 0
Splits a = (b : List ℕ) → line_texts (a ++ b) ≡ line_texts a ++ line_texts b

pub splits_none : Splits []
splits_none b = ap (λ l. l ++ line_texts b) (sym texts_none)

module _ (xs : List ℕ) (from at e : ℕ) (low : from ≤ at) (some : at < length xs) (is : IsLineEnd xs at e) (splits : Splits (drop from (take at xs))) where
  abbrev a : List ℕ
  a = drop from (take at xs)

  abbrev w : List ℕ
  w = stretch xs at e

  later : at ≤ e
  later = omega (arith, is.later)

  -- the text up to the line's end
  up_to : drop from (take e xs) ≡ a ++ w
  up_to =
      let n : length (take at xs) ≡ at = length-take-le at xs (omega arith) in
      let l : at ≤ e = later in
      let s : at + (e - at) ≡ e = omega arith in
      ap (drop from) (ap (λ k. take k xs) (sym s) ∙ take-add at (e - at) xs) ∙ drop-append-le from (take at xs) w (omega arith)

  free : AllAre ends_line false w
  free = stretch_all ends_line false xs at e later is.inside (λ k f t. ne_eqb (get_or xs k 0) 10 (is.before k f t))

  module _ (ended : e < length xs) where
    past : drop from (take (e + 1) xs) ≡ a ++ (w ++ (10 ∷ []))
    past =
        let n : length (take e xs) ≡ e = length-take-le e xs (omega arith) in
        let l : at ≤ e = later in
        ap (drop from) (take_more xs e 0 ended ∙ ap (λ b. take e xs ++ (b ∷ [])) (is.ended ended)) ∙ drop-append-le from (take e xs) (10 ∷ []) (omega arith)
        ∙ ap (λ t. t ++ (10 ∷ [])) up_to ∙ append_assoc a w (10 ∷ [])

    -- the line, and what comes behind it
    with_more : (b : List ℕ) → line_texts ((a ++ (w ++ (10 ∷ []))) ++ b) ≡ line_texts a ++ (w ∷ line_texts b)
    with_more b =
        ap line_texts (append_assoc a (w ++ (10 ∷ [])) b ∙ ap (λ t. a ++ t) (append_assoc w (10 ∷ []) b)) ∙ splits (w ++ (10 ∷ b)) ∙ ap (λ l. line_texts a ++ l) (texts_next w b free)

    alone : line_texts (a ++ (w ++ (10 ∷ []))) ≡ line_texts a ++ (w ∷ [])
    alone = ap line_texts (sym (append-nil (a ++ (w ++ (10 ∷ []))))) ∙ with_more [] ∙ ap (λ l. line_texts a ++ (w ∷ l)) texts_none

    split_past : Splits (a ++ (w ++ (10 ∷ [])))
    split_past b = with_more b ∙ sym (ap (λ l. l ++ line_texts b) alone ∙ append_assoc (line_texts a) (w ∷ []) (line_texts b))

  -- one line more
  pub line_more : line_texts (drop from (take (e + 1) xs)) ≡ line_texts a ++ (w ∷ [])
  line_more = ⊎_elim
      (λ (k : e < length xs). ap line_texts (past k) ∙ alone k)
      (λ (k : length xs ≤ e).
      let whole : take (e + 1) xs ≡ take e xs = take_all (e + 1) xs (omega arith) ∙ sym (take_all e xs k) in
      let rest : w ≡ drop at xs = take_all (e - at) (drop at xs) (omega (arith, length-drop at xs)) in
      let none : line_texts (drop (e + 1) xs) ≡ [] = ap line_texts (drop_all (e + 1) xs (omega arith)) ∙ texts_none in
      ap (λ t. line_texts (drop from t)) whole ∙ ap line_texts up_to ∙ splits w
      ∙ ap (λ t. line_texts a ++ line_texts t) rest
      ∙ ap (λ l. line_texts a ++ l) (texts_at xs at e some is ∙ ap (λ l. w ∷ l) none))
      (cases_lt e (length xs))

  pub split_more : e + 1 ≤ length xs → Splits (drop from (take (e + 1) xs))
  split_more k = subst Splits (sym (past (omega arith))) (split_past (omega arith))

-- One line of the input

module _ (xs : List ℕ) (was is : Lines) (l : Line) (e : was.text.now ≡ xs) (h : IsNextLine was l is) (from : ℕ) (low : from ≤ was.from) (splits : was.from ≤ length xs → Splits (drop from (take was.from xs))) where
  abbrev begun : List (List ℕ)
  begun = line_texts (drop from (take was.from xs))

  abbrev line : List ℕ
  line = drop l.from l.text.now

  abbrev rest : List (List ℕ)
  rest = line_texts (drop is.from xs)

  inside : was.from < length xs
  inside = omega (arith, h.some, ap length e)

  ends : IsLineEnd xs was.from (length l.text.now)
  ends = subst (λ n. IsLineEnd xs n (length l.text.now)) h.begins (subst (λ x. IsLineEnd x l.from (length l.text.now)) e h.ends)

  splits_here : Splits (drop from (take was.from xs))
  splits_here = let i : was.from < length xs = inside in splits (omega arith)

  lines_more : line_texts (drop from (take is.from xs)) ≡ begun ++ (line ∷ [])
  lines_more =
      ap (λ n. line_texts (drop from (take n xs))) h.past ∙ line_more xs from was.from (length l.text.now) low inside ends splits_here ∙ ap (λ w. begun ++ (w ∷ [])) (sym (bytes_at xs was is l e h))

  pub splits_more : is.from ≤ length xs → Splits (drop from (take is.from xs))
  splits_more k = subst (λ n. Splits (drop from (take n xs))) (sym h.past) (split_more xs from was.from (length l.text.now) low inside ends splits_here (omega (arith, h.past)))

  -- it belongs to the script that was begun
  pub turn : (first n : ℕ) → is_bar line ≡ false
      → onto first begun (parts n (line_texts (drop was.from xs))) ≡ onto first (line_texts (drop from (take is.from xs))) (parts (n + 1) rest)
  turn first n f = ap (λ ls. onto first begun (parts n ls)) (next_texts xs was is l e h) ∙ onto_line first n line begun rest f ∙ ap (λ ls. onto first ls (parts (n + 1) rest)) (sym lines_more)

  -- no line of the next script has come
  fresh : line_texts (drop is.from (take is.from xs)) ≡ []
  fresh = ap line_texts (drop_all is.from (take is.from xs) (omega (arith, length-take is.from xs))) ∙ texts_none

  -- it is % alone
  pub bar_turn : (first n : ℕ) → is_bar line ≡ true
      → parts_print (onto first begun (parts n (line_texts (drop was.from xs))))
      ≡ part_print (part first begun) ++ (codes "%\n" ++ parts_print (onto (n + 1) (line_texts (drop is.from (take is.from xs))) (parts (n + 1) rest)))
  bar_turn first n t =
      ap (λ ls. parts_print (onto first begun (parts n ls))) (next_texts xs was is l e h) ∙ print_bar first n line begun rest t
      ∙ ap (λ ps. part_print (part first begun) ++ (codes "%\n" ++ parts_print ps)) (sym (ap (λ ls. onto (n + 1) ls (parts (n + 1) rest)) fresh ∙ onto_none (n + 1) rest))

-- The whole input

pub too_long : (input : List ℕ) → 1048576 < length input → script_output input ≡ codes "refused 25\n"
unfolding script_output
too_long input h = cond-true (ltb 1048576 (length input)) (codes "refused 25\n") (parts_print (parts 1 (line_texts input))) (lt-ltb 1048576 (length input) h)

pub short_enough : (input : List ℕ) → length input ≤ 1048576 → parts_print (parts 1 (line_texts input)) ≡ script_output input
unfolding script_output
short_enough input h = sym (cond-false (ltb 1048576 (length input)) (codes "refused 25\n") (parts_print (parts 1 (line_texts input))) (le-ltb 1048576 (length input) h))
