-- The numbers that the words of a script say.
use Rattle.std.proofs.Common.{◌≡◌, ℕ, ◌<◌, ◌≤◌, true, false, ◌&&◌, leb, List, [], ◌∷◌, ◌++◌, Some, None, Option, sym, refl, ap, ◌∙◌, append_assoc, append-nil, arith}
use Rattle.std.specs.Prelude.{MatchOption, option_map, option_and_then}
use Rattle.std.proofs.lemmas.Bool.{cond-true, cond-false, le-leb, lt-leb}
use Rattle.text.specs.Numbers.{all_digits, said_number}
use Rattle.programs.specs.Spelling.{number_said, first_number, numbers_said}

-- a word of other bytes says none
pub no_digits : (limit : ℕ) (w : List ℕ) → all_digits w ≡ false → None ≡ number_said limit w
unfolding number_said
no_digits limit w f = sym (cond-false (all_digits w && leb (said_number w) limit) (Some (said_number w)) None (ap (λ b. b && leb (said_number w) limit) f))

-- a word of digits says its number, within the limit
pub of_digits : (limit : ℕ) (w : List ℕ) (r : Option ℕ) → all_digits w ≡ true → MatchOption r (limit < said_number w) (λ n. (n ≡ said_number w) × (n ≤ limit)) → r ≡ number_said limit w
unfolding number_said
of_digits limit w None t h = sym (cond-false (all_digits w && leb (said_number w) limit) (Some (said_number w)) None (ap (λ b. b && leb (said_number w) limit) t ∙ lt-leb (said_number w) limit h))
of_digits limit w (Some n) t (e, l) =
    ap Some e ∙ sym (cond-true (all_digits w && leb (said_number w) limit) (Some (said_number w)) None (ap (λ b. b && leb (said_number w) limit) t ∙ le-leb (said_number w) limit (let m : said_number w ≤ limit = omega (arith, e, l) in m)))

-- no word says no number
pub none_first : (limit : ℕ) (ws : List (List ℕ)) → ws ≡ [] → first_number limit ws ≡ None
unfolding first_number
none_first limit ws e = ap (first_number limit) e

-- the number of the first word
pub first_is : (limit : ℕ) (ws : List (List ℕ)) (w : List ℕ) (rest : List (List ℕ)) (r : Option ℕ) → ws ≡ w ∷ rest → r ≡ number_said limit w
    → MatchOption r (first_number limit ws ≡ None) (λ n. first_number limit ws ≡ Some (n, rest))
unfolding first_number
first_is limit ws w rest None e h = ap (first_number limit) e ∙ ap (option_map (λ n. (n, rest))) (sym h)
first_is limit ws w rest (Some n) e h = ap (first_number limit) e ∙ ap (option_map (λ n. (n, rest))) (sym h)

-- behind some numbers
abbrev pub numbers_behind : ℕ → List ℕ → List (List ℕ) → Option (List ℕ)
numbers_behind limit ns ws = option_map (λ (more : List ℕ). ns ++ more) (numbers_said limit ws)

-- a word that says none
pub numbers_stop : (limit : ℕ) (ns : List ℕ) (ws : List (List ℕ)) (w : List ℕ) (rest : List (List ℕ)) → ws ≡ w ∷ rest → None ≡ number_said limit w → None ≡ numbers_behind limit ns ws
unfolding numbers_said
numbers_stop limit ns ws w rest e h =
    sym (ap (numbers_behind limit ns) e ∙ ap (λ o. option_map (λ (more : List ℕ). ns ++ more) (option_and_then (λ n. option_map (λ (ms : List ℕ). n ∷ ms) (numbers_said limit rest)) o)) (sym h))

-- one number more
pub numbers_more : (limit : ℕ) (ns : List ℕ) (ws : List (List ℕ)) (w : List ℕ) (rest : List (List ℕ)) (n : ℕ) → ws ≡ w ∷ rest → Some n ≡ number_said limit w
    → numbers_behind limit (ns ++ (n ∷ [])) rest ≡ numbers_behind limit ns ws
unfolding numbers_said
numbers_more limit ns ws w rest n e h =
    joined (numbers_said limit rest)
    ∙ sym (ap (numbers_behind limit ns) e ∙ ap (λ o. option_map (λ (more : List ℕ). ns ++ more) (option_and_then (λ m. option_map (λ (ms : List ℕ). m ∷ ms) (numbers_said limit rest)) o)) (sym h))
  where
    joined : (o : Option (List ℕ)) → option_map (λ (more : List ℕ). (ns ++ (n ∷ [])) ++ more) o ≡ option_map (λ (more : List ℕ). ns ++ more) (option_map (λ (ms : List ℕ). n ∷ ms) o)
    joined None = refl
    joined (Some ms) = ap Some (append_assoc ns (n ∷ []) ms)

-- the last
pub numbers_end : (limit : ℕ) (ns : List ℕ) (ws : List (List ℕ)) → ws ≡ [] → Some ns ≡ numbers_behind limit ns ws
unfolding numbers_said
numbers_end limit ns ws e = ap Some (sym (append-nil ns)) ∙ sym (ap (numbers_behind limit ns) e)

pub numbers_none : (limit : ℕ) (ws : List (List ℕ)) → numbers_behind limit [] ws ≡ numbers_said limit ws
numbers_none limit ws = by_cases (numbers_said limit ws)
  where
    by_cases : (o : Option (List ℕ)) → option_map (λ (more : List ℕ). [] ++ more) o ≡ o
    by_cases None = refl
    by_cases (Some ms) = refl
