-- What the definition of the script program's output means.
use Rattle.std.proofs.Common.{◌≡◌, ℕ, suc, ◌+◌, Bool, false, nat_eq, List, [], ◌∷◌, ◌++◌, length, None, Ok, Err, Result, true≢false, sym, refl, ap, ◌∙◌, subst, inl, inr, append_assoc, append-nil, arith}
use Rattle.std.proofs.lemmas.Bool.{cases_Bool, cond-true, cond-false}
use Rattle.book.specs.Fits.{Tests, CardFits, card_test}
use Rattle.book.specs.Tested.{bytes_tested, cards_tested}
use Rattle.programs.specs.Output.{line_texts}
use Rattle.programs.specs.Scripts.{Script}
use Rattle.programs.specs.Spelling.{Spelling, bytes_spelling, cards_spelling}
use Rattle.programs.specs.ScriptLines.{nothing_said, so_far, read_on, read}
use Rattle.programs.specs.ScriptOutput.{Part, part, is_bar, longer, parts}
use Rattle.programs.specs.ScriptMeans.{NoBar, Parted, SayScript, BeginScript, LineRefused, ReadMeans, PartMeans, ScriptMeans}
use Rattle.programs.specs.ScriptMeans.Parted.{last, next}
use Rattle.programs.specs.declared.script.fault.Cause.{Cause}
use Rattle.programs.proofs.Parts.{lines_law}
use Rattle.programs.proofs.ScriptLaw.{same_is, same_self, over, on_wrong, read_means}
use Rattle.programs.proofs.ScriptCosts.{all_cheap}
use Rattle.programs.proofs.ScriptWording.{Apart, bytes_apart, cards_apart, line_law, none_law, unknown_law}
use Rattle.programs.proofs.ScriptMeaning.{print_means}

-- The scripts of an input

no_bar_more : (w : List ℕ) (ls : List (List ℕ)) → is_bar w ≡ false → NoBar ls → NoBar (w ∷ ls)
no_bar_more w ls f h v (inl e) q = true≢false (sym (same_self (37 ∷ [])) ∙ ap is_bar (sym (sym e ∙ q)) ∙ f)
no_bar_more w ls f h v (inr m) q = h v m q

-- a line at the front of the first script
grown : {m : ℕ} {ws : List (List ℕ)} {ps : List Part} (n : ℕ) (w : List ℕ) → Parted m ws ps → m ≡ suc n → is_bar w ≡ false → Parted n (w ∷ ws) (longer n w ps)
grown n w (last m ls h) e f = last n (w ∷ ls) (no_bar_more w ls f h)
grown n w (next m ls ws ps h r) e f =
    let z : suc (m + length ls) ≡ suc (n + suc (length ls)) = omega (arith, e) in
    next n (w ∷ ls) ws ps (no_bar_more w ls f h) (subst (λ k. Parted k ws ps) z r)

parted : (n : ℕ) (ls : List (List ℕ)) → Parted n ls (parts n ls)
unfolding parts
parted n [] = last n [] (λ w m. absurd m)
parted n (w ∷ ws) = elim (cases_Bool (is_bar w)) [
  | inl t ↦
      let z : suc n ≡ suc (n + 0) = omega arith in
      let bar : 37 ∷ [] ≡ w = sym (same_is w (37 ∷ []) t) in
      subst (Parted n (w ∷ ws)) (sym (cond-true (is_bar w) (part n [] ∷ parts (suc n) ws) (longer n w (parts (suc n) ws)) t))
      (subst (λ v. Parted n (v ∷ ws) (part n [] ∷ parts (suc n) ws)) bar (next n [] ws (parts (suc n) ws) (λ v m. absurd m) (subst (λ k. Parted k ws (parts (suc n) ws)) z (parted (suc n) ws))))
  | inr f ↦ subst (Parted n (w ∷ ws)) (sym (cond-false (is_bar w) (part n [] ∷ parts (suc n) ws) (longer n w (parts (suc n) ws)) f)) (grown n w (parted (suc n) ws) refl f)
]

-- One script

module _ {P E : Type 0} (S : Spelling P E) where
  -- lines that say a script are read as it
  said_read : (n : ℕ) (ls : List (List ℕ)) (t : Script P E) → SayScript S ls t → read S n ls ≡ Ok t
  unfolding read_on
  said_read n ls t (is, are, follow) = ap (read_on S n (so_far nothing_said None)) (sym (append-nil ls)) ∙ over S are n nothing_said t [] follow

  read_said : (n : ℕ) (ls : List (List ℕ)) (t : Script P E) → read S n ls ≡ Ok t → SayScript S ls t
  read_said n ls t e = subst (ReadMeans S n nothing_said ls) e (read_means S n nothing_said ls)

  refused : (n : ℕ) (ls : List (List ℕ)) (m : ℕ) (c : Cause) (r : LineRefused S n nothing_said ls m c) → BeginScript S (r.before ++ (r.line ∷ [])) → ⊥
  refused n ls m c r (more, (t, say)) =
      let ok : read_on S n (so_far nothing_said None) ((r.before ++ (r.line ∷ [])) ++ more) ≡ Ok t = said_read n ((r.before ++ (r.line ∷ [])) ++ more) t say in
      let err : read_on S n (so_far nothing_said None) ((r.before ++ (r.line ∷ [])) ++ more) ≡ Err (n + length r.before, c) = ap (read_on S n (so_far nothing_said None)) (append_assoc r.before (r.line ∷ []) more)
      ∙ over S r.say.1 n nothing_said r.said (r.line ∷ more) r.say.2 ∙ on_wrong S (n + length r.before) r.said r.line more c r.wrong in
      two_ways (sym ok ∙ err)
    where
      two_ways : {x : Script P E} {y : ℕ × Cause} → ◌≡◌ {A = Result (Script P E) (ℕ × Cause)} (Ok x) (Err y) → ⊥
      two_ways e = absurd cc

  pub part_means : (fits : P → E → Type 0) (test : P → E → Bool) → Tests fits test → Apart S.name → (n : ℕ) (ls : List (List ℕ)) → PartMeans S fits test n ls
  part_means fits test tested apart n ls = record {
    each_line = line_law S apart;
    no_words = none_law S;
    unknown = unknown_law S apart;
    script = λ t. (said_read n ls t, read_said n ls t);
    fault = λ m c e. subst (ReadMeans S n nothing_said ls) e (read_means S n nothing_said ls);
    no_longer = refused n ls;
    prints = λ t e.
        let say = read_said n ls t e in
        print_means t (all_cheap S say.1 nothing_said t say.2 (λ x m. absurd m)) fits test tested;
  }

pub script_means : (input : List ℕ) → ScriptMeans input
script_means input = record {
  lines = lines_law input;
  parted = parted 1 (line_texts input);
  bytes = λ p. part_means bytes_spelling (λ (b e : ℕ). b ≡ e) nat_eq bytes_tested bytes_apart p.first p.lines;
  cards = λ p. part_means cards_spelling CardFits card_test cards_tested cards_apart p.first p.lines;
}
