-- How many tails right sides take.
use Rattle.std.proofs.Common.{◌≡◌, ◌+◌, List, [], ◌∷◌, map, sum_by, refl, ap, ◌∙◌}
use Rattle.std.proofs.lemmas.List.Sums.{sum_by-cons}
use Rattle.grammar.specs.Productions.{Production, tails, all_tails}

-- those of rows, row by row
pub tails_summed : {A : Type 0} (f : A → Production) (xs : List A) → sum_by (λ x. tails (f x).right) xs ≡ all_tails (map f xs)
tails_summed f [] = refl
tails_summed f (x ∷ xs) = sum_by-cons (λ y. tails (f y).right) x xs ∙ ap (λ n. tails (f x).right + n) (tails_summed f xs)
