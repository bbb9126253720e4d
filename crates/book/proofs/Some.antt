-- Whether one of a list passes a test, by std's word.
use Rattle.std.proofs.Common.{◌≡◌, Bool, ◌||◌, List, [], ◌∷◌, map, refl, ap}
use Rattle.std.specs.List.{list_any}
use Rattle.grammar.specs.Lists.{some_of}

pub some_is_any : {A : Type 0} (p : A → Bool) (xs : List A) → list_any p xs ≡ some_of p xs
some_is_any p [] = refl
some_is_any p (x ∷ xs) = ap (λ b. p x || b) (some_is_any p xs)

-- of what f gives
pub some_map_is_any : {A B : Type 0} (p : B → Bool) (f : A → B) (xs : List A) → list_any (λ x. p (f x)) xs ≡ some_of p (map f xs)
some_map_is_any p f [] = refl
some_map_is_any p f (x ∷ xs) = ap (λ b. p (f x) || b) (some_map_is_any p f xs)
