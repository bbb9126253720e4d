-- A list in an array, seen through a function, with one more at its end.
use Rattle.std.proofs.Common.{◌≡◌, ℕ, ◌+◌, ◌<◌, ◌≤◌, List, [], ◌∷◌, ◌++◌, map, length, take, set, ap, ◌∙◌}
use Rattle.std.proofs.lemmas.List.{take_more_set, map_push, length-map, length-take-le}

pub held_push : {A B : Type 0} (f : A → B) (xs : List A) (n : ℕ) (y : A) → n < length xs → map f (take (n + 1) (set xs n y)) ≡ map f (take n xs) ++ (f y ∷ [])
held_push f xs n y h = ap (map f) (take_more_set xs n y h) ∙ map_push f (take n xs) y

pub held_length : {A B : Type 0} (f : A → B) (xs : List A) (n : ℕ) → n ≤ length xs → length (map f (take n xs)) ≡ n
held_length f xs n h = length-map (take n xs) f ∙ length-take-le n xs h
