-- A script is read line by line.
use Rattle.std.proofs.Common.{◌≡◌, ℕ, suc, ◌+◌, ◌-◌, ◌<◌, ◌≤◌, true, false, List, [], ◌∷◌, ◌++◌, length, take, drop, Some, None, Ok, Err, Option, Result, sym, refl, ap, ◌∙◌, subst, ⊎_elim, append_assoc, true≢false, arith}
use Rattle.std.specs.Prelude.{option_map, is_some}
use Rattle.std.proofs.lemmas.List.{drop-append-le, take-append-le, take_more, take-take, take_all, take-append-drop, drop-take, drop_all, length-take-le, length-append}
use Rattle.std.proofs.lemmas.Bool.{cases_lt}
use Rattle.text.specs.Turns.{IsNextLine}
use Rattle.text.specs.Words.{IsLineEnd}
use Rattle.text.specs.declared.lines.Line.{Line}
use Rattle.text.specs.declared.lines.Lines.{Lines}
use Rattle.programs.specs.Output.{line_texts}
use Rattle.programs.specs.Scripts.{Script}
use Rattle.programs.specs.Spelling.{Spelling}
use Rattle.programs.specs.ScriptLines.{so_far, ReadSoFar, behind_line, at_end, go_on, read_on}
use Rattle.programs.specs.ScriptSaid.{LineGives, ScriptGives}
use Rattle.programs.specs.declared.script.fault.Cause.{Cause}
use Rattle.programs.specs.declared.script.fault.Cause.TheVariants.{NoEnd}
use Rattle.programs.specs.declared.script.fault.ScriptFault.{ScriptFault}
use Rattle.programs.specs.declared.script.fault.ScriptFault.TheVariants.{Line as LineFault, NoMemory}
use Rattle.programs.proofs.Texts.{texts_none}

-- The text of rules that follow

-- one line more
pub rules_more : (text : List ℕ) (from at : ℕ) → from ≤ at → at ≤ length text → drop from (text ++ (10 ∷ [])) ≡ drop from (take at text) ++ (drop at text ++ (10 ∷ []))
rules_more text from at low inside =
    let front = take at text in
    let n : length front ≡ at = length-take-le at text inside in
    let all : text ++ (10 ∷ []) ≡ front ++ (drop at text ++ (10 ∷ [])) = ap (λ t. t ++ (10 ∷ [])) (sym (take-append-drop at text)) ∙ append_assoc front (drop at text) (10 ∷ []) in
    ap (drop from) all ∙ drop-append-le from front (drop at text ++ (10 ∷ [])) (omega arith)

-- up to the line that ends them
pub rules_whole : (text : List ℕ) (from at : ℕ) → from ≤ at → take (at - from) (drop from text) ≡ drop from (take at text)
rules_whole text from at low = let e : from + (at - from) ≡ at = omega arith in sym (drop-take from (at - from) text) ∙ ap (λ n. drop from (take n text)) e

-- Where lines begin and end

module _ (xs : List ℕ) (was is : Lines) (l : Line) (e : was.text.now ≡ xs) (h : IsNextLine was l is) where
  -- the line is a part of the text
  abbrev part : l.text.now ≡ take (length l.text.now) xs
  part = h.part ∙ ap (take (length l.text.now)) e

  abbrev ends : IsLineEnd xs was.from (length l.text.now)
  ends = subst (λ n. IsLineEnd xs n (length l.text.now)) h.begins (subst (λ x. IsLineEnd x l.from (length l.text.now)) e h.ends)

  -- the text before the line
  pub before_line : take l.from l.text.now ≡ take was.from (xs ++ (10 ∷ []))
  before_line =
      let n = length l.text.now in
      let i = l.inside in
      let some : was.from < length xs = omega (arith, h.some, ap length e) in
      ap (take l.from) part ∙ take-take l.from n xs i ∙ ap (λ k. take k xs) h.begins ∙ sym (take-append-le was.from xs (10 ∷ []) (omega arith))

  -- the text before the next one; where the text ends in no line feed, one is added
  pub behind_it : l.text.now ++ (10 ∷ []) ≡ take is.from (xs ++ (10 ∷ []))
  behind_it =
      let n = length l.text.now in
      ap (λ t. t ++ (10 ∷ [])) part
      ∙ ⊎_elim
      (λ (k : n < length xs).
      ap (λ b. take n xs ++ (b ∷ [])) (sym (ends.ended k)) ∙ sym (take_more xs n 0 k) ∙ sym (take-append-le (n + 1) xs (10 ∷ []) (omega arith)))
      (λ (k : length xs ≤ n).
      ap (λ t. t ++ (10 ∷ [])) (take_all n xs k) ∙ sym (take_all (n + 1) (xs ++ (10 ∷ [])) (omega (arith, length-append xs (10 ∷ [])))))
      (cases_lt n (length xs))
      ∙ ap (λ k. take k (xs ++ (10 ∷ []))) (sym h.past)

-- Line by line

module _ {P E : Type 0} (S : Spelling P E) where
  -- one line was taken
  pub on_ok : (n : ℕ) (r next : ReadSoFar P E) (w : List ℕ) (ws rest : List (List ℕ)) → ws ≡ w ∷ rest → behind_line S r w ≡ Ok next → read_on S n r ws ≡ read_on S (n + 1) next rest
  unfolding read_on
  on_ok n r next w ws rest e b =
      let m : suc n ≡ n + 1 = omega arith in
      ap (read_on S n r) e ∙ ap (λ q. go_on n q (λ then. read_on S (suc n) then rest)) b ∙ ap (λ k. read_on S k next rest) m

  -- one line has a fault
  pub on_err : (n : ℕ) (r : ReadSoFar P E) (w : List ℕ) (ws rest : List (List ℕ)) (c : Cause) → ws ≡ w ∷ rest → behind_line S r w ≡ Err c → read_on S n r ws ≡ Err (n, c)
  unfolding read_on
  on_err n r w ws rest c e b = ap (read_on S n r) e ∙ ap (λ q. go_on n q (λ then. read_on S (suc n) then rest)) b

  -- no line is left
  pub on_end : (n : ℕ) (r : ReadSoFar P E) (ws : List (List ℕ)) → ws ≡ [] → read_on S n r ws ≡ at_end n r
  unfolding read_on
  on_end n r ws e = ap (read_on S n r) e

-- past the end there is no line
pub no_line : (xs : List ℕ) (from : ℕ) → length xs ≤ from → line_texts (drop from xs) ≡ []
no_line xs from h = ap line_texts (drop_all from xs h) ∙ texts_none

-- at the end, rules that follow have found no end
pub end_missed : {P E : Type 0} (n : ℕ) (s : Script P E) (f : ℕ → List ℕ) (o : Option ℕ) → is_some o ≡ true → at_end n (so_far s (option_map f o)) ≡ Err (n, NoEnd)
end_missed n s f None h = absurd (true≢false (sym h))
end_missed n s f (Some from) h = refl

pub end_reached : {P E : Type 0} (n : ℕ) (s : Script P E) (f : ℕ → List ℕ) (o : Option ℕ) → is_some o ≡ false → at_end n (so_far s (option_map f o)) ≡ Ok s
end_reached n s f None h = refl
end_reached n s f (Some from) h = absurd (true≢false h)

-- a fault of one line is that of the script
pub fault_given : {A B P E : Type 0} (S : Spelling P E) (f : A → ReadSoFar P E) (g : B → Script P E) (n : ℕ) (r : ReadSoFar P E) (w : List ℕ) (ws rest : List (List ℕ)) (q : Result (Script P E) (ℕ × Cause)) (e : ScriptFault)
    → q ≡ read_on S n r ws → ws ≡ w ∷ rest → LineGives n f (Err e) (behind_line S r w) → ScriptGives g (Err e) q
fault_given S f g n r w ws rest q (LineFault m c) all first (same, wrong) = all ∙ on_err S n r w ws rest c first wrong ∙ ap (λ k. Err (k, c)) (sym same)
fault_given S f g n r w ws rest q (NoMemory a) all first h = tt
