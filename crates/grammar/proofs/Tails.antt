-- How many tails the productions of a book take.
use Rattle.std.proofs.Common.{◌≡◌, ℕ, zero, suc, ◌+◌, ◌<◌, ◌≤◌, List, [], ◌∷◌, ◌++◌, length, get_or, take, refl, ap, inl, inr, arith}
use Rattle.std.proofs.lemmas.Bool.{cases_order}
use Rattle.grammar.specs.Productions.{Production, tails, all_tails, Book, right_of, production, tails_before}

next_tails : (ps : List Production) (n : ℕ) (d : Production) → tails d.right ≡ 0 → all_tails (take (suc n) ps) ≡ all_tails (take n ps) + tails (get_or ps n d).right
next_tails [] zero d e = omega arith
next_tails [] (suc n) d e = omega arith
next_tails (p ∷ ps) zero d e = omega arith
next_tails (p ∷ ps) (suc n) d e = let h = next_tails ps n d e in omega arith

-- one production more
pub tails_next : (W : Book) (n : ℕ) → tails_before W (suc n) ≡ tails_before W n + tails (right_of W n)
unfolding tails_before production
tails_next W n = next_tails W.productions n _ refl

-- the tails of a list with one production more
pub tails_push : (ps : List Production) (p : Production) → all_tails (ps ++ (p ∷ [])) ≡ all_tails ps + tails p.right
tails_push [] p = omega arith
tails_push (q ∷ ps) p = let h = tails_push ps p in omega arith

whole_tails : (ps : List Production) → all_tails (take (length ps) ps) ≡ all_tails ps
whole_tails [] = refl
whole_tails (p ∷ ps) = ap (λ n. tails p.right + n) (whole_tails ps)

-- the tails before the number of the next production are all
pub tails_whole : (W : Book) → tails_before W (length W.productions) ≡ all_tails W.productions
unfolding tails_before
tails_whole W = whole_tails W.productions

pub tails_upto : (W : Book) (n m : ℕ) → n < m → tails_before W n + tails (right_of W n) ≤ tails_before W m
tails_upto W n zero h = absurd (omega arith)
tails_upto W n (suc m) h = elim (cases_order n m) [
  | inl e ↦ let k = ap (tails_before W) e in let j = ap (λ i. tails (right_of W i)) e in omega (arith, tails_next W m)
  | inr d ↦ elim d [ inl l ↦ omega (arith, tails_upto W n m l, tails_next W m) | inr g ↦ absurd (omega arith) ]
]

-- the tails of one production are among all
pub tails_within : (W : Book) (n : ℕ) → n < length W.productions → tails_before W n + tails (right_of W n) ≤ all_tails W.productions
tails_within W n h = omega (arith, tails_upto W n (length W.productions) h, tails_whole W)
