-- Tests over a list with more at its end, and the rules of a symbol there.
use Rattle.std.proofs.Common.{◌≡◌, ℕ, Bool, true, false, cond, ◌||◌, eqb, List, [], ◌∷◌, ◌++◌, refl, ap}
use Rattle.grammar.specs.Lists.{some_of, first_of}
use Rattle.grammar.specs.Binarised.{Rule, rules_in}

pub some_append : {A : Type 0} (p : A → Bool) (xs ys : List A) → some_of p (xs ++ ys) ≡ (some_of p xs || some_of p ys)
some_append p [] ys = refl
some_append p (x ∷ xs) ys = (elim (p x) as (λ b. (b || some_of p (xs ++ ys)) ≡ ((b || some_of p xs) || some_of p ys))
    [ true ↦ refl | false ↦ some_append p xs ys ])

-- the first that passes is in the first part, if one there does
pub first_append : {A : Type 0} (p : A → Bool) (d : A) (xs ys : List A) → first_of p d (xs ++ ys) ≡ cond (some_of p xs) (first_of p d xs) (first_of p d ys)
first_append p d [] ys = refl
first_append p d (x ∷ xs) ys =
    (elim (p x) as (λ b. cond b x (first_of p d (xs ++ ys)) ≡ cond (b || some_of p xs) (cond b x (first_of p d xs)) (first_of p d ys))
    [ true ↦ refl | false ↦ first_append p d xs ys ])

-- the rules of x in a list with more at its end
pub own_append : (x : ℕ) (rs qs : List Rule) → rules_in x (rs ++ qs) ≡ rules_in x rs ++ rules_in x qs
own_append x [] qs = refl
own_append x (r ∷ rs) qs =
    (elim (eqb r.left x) as (λ b. cond b ((r.number, r.right) ∷ rules_in x (rs ++ qs)) (rules_in x (rs ++ qs))
    ≡ cond b ((r.number, r.right) ∷ rules_in x rs) (rules_in x rs) ++ rules_in x qs)
    [ true ↦ ap (λ l. (r.number, r.right) ∷ l) (own_append x rs qs) | false ↦ own_append x rs qs ])
