-- Whether one of a list passes a test, step by step.
use Rattle.std.proofs.Common.{◌≡◌, ℕ, ◌+◌, ◌<◌, ◌≤◌, Bool, true, false, ◌||◌, List, [], ◌∷◌, map, length, get_or, drop, refl, ap, ◌∙◌}
use Rattle.std.proofs.lemmas.List.{at_drop_more, at_drop_all}
use Rattle.grammar.specs.Lists.{some_of}

-- the element at i passes
pub some_here : {A : Type 0} (p : A → Bool) (xs : List A) (i : ℕ) (d : A) → i < length xs → p (get_or xs i d) ≡ true → some_of p (drop i xs) ≡ true
some_here p xs i d h e = at_drop_more (some_of p) xs i d h ∙ ap (λ b. b || some_of p (drop (i + 1) xs)) e

-- the element at i does not pass
pub some_later : {A : Type 0} (p : A → Bool) (xs : List A) (i : ℕ) (d : A) → i < length xs → p (get_or xs i d) ≡ false → some_of p (drop i xs) ≡ some_of p (drop (i + 1) xs)
some_later p xs i d h e = at_drop_more (some_of p) xs i d h ∙ ap (λ b. b || some_of p (drop (i + 1) xs)) e

-- no element is left
pub some_none : {A : Type 0} (p : A → Bool) (xs : List A) (i : ℕ) → length xs ≤ i → some_of p (drop i xs) ≡ false
some_none p xs i h = at_drop_all (some_of p) xs i h

-- a test of what f gives
pub some_map : {A B : Type 0} (p : B → Bool) (f : A → B) (xs : List A) → some_of p (map f xs) ≡ some_of (λ x. p (f x)) xs
some_map p f [] = refl
some_map p f (x ∷ xs) = ap (λ b. p (f x) || b) (some_map p f xs)
