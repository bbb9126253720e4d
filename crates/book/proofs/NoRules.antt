-- A book that holds no rule has at most one strict rule for each symbol.
use Rattle.std.proofs.Common.{◌≡◌, ℕ, zero, suc, ◌+◌, ◌*◌, ◌<◌, ◌≤◌, Bool, true, false, cond, eqb, List, [], ◌∷◌, map, length, sym, refl, ap, ◌∙◌, subst, one-mul, mul-suc, arith, length-append}
use Rattle.std.proofs.lemmas.List.{length-map}
use Rattle.std.proofs.lemmas.Bool.{eqb-true, ne_eqb}
use Rattle.grammar.specs.Lists.{those, each, count_up, below}
use Rattle.grammar.proofs.Lists.{length_count_up, length_those}
use Rattle.grammar.specs.Productions.{Book}
use Rattle.grammar.specs.Binarised.{terminal, OwnRule, rules_in, rules_of}
use Rattle.grammar.specs.Nullable.{nullable}
use Rattle.grammar.specs.Chains.{steps_by, steps, within, reached}
use Rattle.grammar.specs.Strict.{strict_rule, proper, strict_rules_of, strict_rules}
use Rattle.grammar.specs.Binarise.{binarised, Admitted}
use Rattle.grammar.proofs.Short.{terminal_rule}
use Rattle.conversion.proofs.Found.{within_none}

-- at most c for each
each_length : {A B : Type 0} (f : A → List B) (xs : List A) (c : ℕ) → ((x : A) → length (f x) ≤ c) → length (each f xs) ≤ c * length xs
each_length f [] c h = omega arith
each_length f (x ∷ xs) c h = omega (arith, length-append (f x) (each f xs), h x, each_length f xs c h, mul-suc c (length xs))

-- the numbers from a on, one of them at most equal to x
none_equal : (x a n : ℕ) → x < a → those (λ y. eqb x y) (count_up a n) ≡ []
none_equal x a zero h = refl
none_equal x a (suc n) h = ap (λ b. cond b (a ∷ those (λ y. eqb x y) (count_up (suc a) n)) (those (λ y. eqb x y) (count_up (suc a) n))) (ne_eqb x a (λ e. omega arith)) ∙ none_equal x (suc a) n (omega arith)

one_equal : (x a n : ℕ) → length (those (λ y. eqb x y) (count_up a n)) ≤ 1
one_equal x a zero = omega arith
one_equal x a (suc n) = (elim (eqb x a) as (λ b. eqb x a ≡ b → length (cond b (a ∷ those (λ y. eqb x y) (count_up (suc a) n)) (those (λ y. eqb x y) (count_up (suc a) n))) ≤ 1) [
  | true ↦ λ e. let q : x ≡ a = eqb-true x a e in omega (arith, ap length (none_equal x (suc a) n (omega arith)))
  | false ↦ λ e. one_equal x (suc a) n
]) refl

-- the terminal rules of the patterns from a on, one of them at most a rule of x
no_rule : (x a n : ℕ) → x < 32 + a → rules_in x (map terminal_rule (count_up a n)) ≡ []
no_rule x a zero h = refl
no_rule x a (suc n) h =
    ap (λ b. cond b ((255, terminal a) ∷ rules_in x (map terminal_rule (count_up (suc a) n))) (rules_in x (map terminal_rule (count_up (suc a) n)))) (ne_eqb (32 + a) x (λ e. omega arith))
    ∙ no_rule x (suc a) n (omega arith)

one_rule : (x a n : ℕ) → length (rules_in x (map terminal_rule (count_up a n))) ≤ 1
one_rule x a zero = omega arith
one_rule x a (suc n) = (elim (eqb (32 + a) x) as (λ b. eqb (32 + a) x ≡ b
    → length (cond b ((255, terminal a) ∷ rules_in x (map terminal_rule (count_up (suc a) n))) (rules_in x (map terminal_rule (count_up (suc a) n)))) ≤ 1) [
      | true ↦ λ e. let q : 32 + a ≡ x = eqb-true (32 + a) x e in omega (arith, ap length (no_rule x (suc a) n (omega arith)))
      | false ↦ λ e. one_rule x (suc a) n
    ]) refl

-- no unit step is by a terminal rule
no_step : (h : ℕ → Bool) (x a n : ℕ) → each (λ (o : OwnRule). steps_by h x o.0 o.1) (rules_in x (map terminal_rule (count_up a n))) ≡ []
no_step h x a zero = refl
no_step h x a (suc n) = (elim (eqb (32 + a) x) as (λ b. eqb (32 + a) x ≡ b
    → each (λ (o : OwnRule). steps_by h x o.0 o.1) (cond b ((255, terminal a) ∷ rules_in x (map terminal_rule (count_up (suc a) n))) (rules_in x (map terminal_rule (count_up (suc a) n)))) ≡ []) [
      | true ↦ λ e. no_step h x (suc a) n
      | false ↦ λ e. no_step h x (suc a) n
    ]) refl

-- the book that holds no rule
abbrev none : ℕ → Book
none T = record { productions = []; patterns = T }

steps_none : (T x : ℕ) → steps (binarised (none T)) x ≡ []
unfolding steps rules_of binarised
steps_none T x = no_step (nullable (binarised (none T))) x 0 T

those_same : {A : Type 0} (p q : A → Bool) (xs : List A) → ((x : A) → p x ≡ q x) → those p xs ≡ those q xs
those_same p q [] h = refl
those_same p q (x ∷ xs) h = ap (λ l. cond (p x) (x ∷ l) l) (those_same p q xs h) ∙ ap (λ b. cond b (x ∷ those q xs) (those q xs)) (h x)

reached_none : (T x : ℕ) → length (reached (binarised (none T)) x) ≤ 1
unfolding reached
reached_none T x =
    let B = binarised (none T) in
    subst (λ (l : List ℕ). length l ≤ 1) (sym (those_same (λ y. within B y B.symbols x) (λ y. eqb x y) (below B.symbols) (λ y. within_none B x y B.symbols (steps_none T x)))) (one_equal x 0 B.symbols)

strict_of_none : (T x : ℕ) → length (strict_rules_of (binarised (none T)) x) ≤ 1
unfolding strict_rules_of rules_of binarised
strict_of_none T x =
    let B = binarised (none T) in
    let each-one = each_length (λ y. map (strict_rule x y) (those (λ (o : OwnRule). proper o.1) (rules_of B y))) (reached B x) 1
    (λ y. omega (arith, length-map (those (λ (o : OwnRule). proper o.1) (rules_of B y)) (strict_rule x y), length_those (λ (o : OwnRule). proper o.1) (rules_of B y), one_rule y 0 T)) in
    omega (arith, reached_none T x, one-mul (length (reached B x)))

-- at most one for each of the 64 symbols
pub few_without_rules : (T : ℕ) → length (strict_rules (binarised (none T))) ≤ 1024
unfolding strict_rules binarised
few_without_rules T =
    let B = binarised (none T) in
    omega (arith, each_length (strict_rules_of B) (below B.symbols) 1 (strict_of_none T), length_count_up 0 64)

-- it keeps to the bounds
pub admitted_without_rules : (T : ℕ) → T ≤ 32 → Admitted (none T)
admitted_without_rules T h = record {
  sound = record {
    heads = λ p m. absurd m;
    items = λ p y m k. absurd m;
    short = λ p m. absurd m;
    cheap = λ p m. absurd m;
    different = tt;
    few_patterns = h;
    few_rules = omega arith;
    few_tails = omega arith;
  };
  few_strict = few_without_rules T;
}
