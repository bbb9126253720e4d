-- A test for the bounds of a book.
use Rattle.std.proofs.Common.{◌≡◌, ℕ, ◌+◌, Bool, true, false, not, ◌&&◌, eqb, ltb, leb, List, [], ◌∷◌, length, sym, refl, ap, ◌∙◌, true≢false}
use Rattle.std.proofs.lemmas.Bool.{ltb-true, leb-true, eq-eqb, and_parts, and_from}
use Rattle.grammar.specs.Lists.{Mem, Sorted, same_numbers}
use Rattle.grammar.specs.Productions.{Production, Book, Sound, SameRule, all_tails}
use Rattle.grammar.proofs.Worked.{every, every_gives}

abbrev small : ℕ → Production → Bool
small T p = (ltb p.head 32 && leb (length p.right) 8) && (leb p.cost 65535 && every (λ y. ltb y (32 + T)) p.right)

abbrev same : Production → Production → Bool
same p q = eqb p.head q.head && same_numbers p.right q.right

abbrev apart : List Production → Bool
apart [] = true
apart (p ∷ ps) = every (λ q. not (same p q)) ps && apart ps

abbrev pub within_bounds : Book → Bool
within_bounds W = (every (small W.patterns) W.productions && apart W.productions)
    && (leb W.patterns 32 && (leb (length W.productions) 64 && leb (all_tails W.productions) 64))

numbers_same : (xs ys : List ℕ) → xs ≡ ys → same_numbers xs ys ≡ true
numbers_same [] [] e = refl
numbers_same [] (y ∷ ys) e = let z : ◌≡◌ {A = Bool} true false = cc in absurd (true≢false z)
numbers_same (x ∷ xs) [] e = let z : ◌≡◌ {A = Bool} true false = cc in absurd (true≢false z)
numbers_same (x ∷ xs) (y ∷ ys) e = let p : x ≡ y = cc in let q : xs ≡ ys = cc in and_from _ _ (eq-eqb x y p) (numbers_same xs ys q)

apart_sorted : (ps : List Production) → apart ps ≡ true → Sorted (λ p q. SameRule p q → ⊥) ps
apart_sorted [] t = tt
apart_sorted (p ∷ ps) t =
    let k = and_parts (every (λ q. not (same p q)) ps) (apart ps) t in (
      (λ q m s. true≢false (sym (every_gives (λ q. not (same p q)) ps k.0 q m)
          ∙ ap not (and_from _ _ (eq-eqb p.head q.head s.same_head) (numbers_same p.right q.right s.same_right)))),
      apart_sorted ps k.1,
    )

pub sound_by : (W : Book) → within_bounds W ≡ true → Sound W
sound_by W t = record {
  heads = λ p m. ltb-true _ _ (and_parts _ _ (of p m).0).0;
  items = λ p y m i. ltb-true _ _ (every_gives (λ y. ltb y (32 + W.patterns)) p.right (and_parts _ _ (of p m).1).1 y i);
  short = λ p m. leb-true _ _ (and_parts _ _ (of p m).0).1;
  cheap = λ p m. leb-true _ _ (and_parts _ _ (of p m).1).0;
  different = apart_sorted W.productions a.1;
  few_patterns = leb-true _ _ b.0;
  few_rules = leb-true _ _ c.0;
  few_tails = leb-true _ _ c.1;
}
  where
    k : ((every (small W.patterns) W.productions && apart W.productions) ≡ true)
        × ((leb W.patterns 32 && (leb (length W.productions) 64 && leb (all_tails W.productions) 64)) ≡ true)
    k = and_parts _ _ t

    a : (every (small W.patterns) W.productions ≡ true) × (apart W.productions ≡ true)
    a = and_parts _ _ k.0

    b : (leb W.patterns 32 ≡ true) × ((leb (length W.productions) 64 && leb (all_tails W.productions) 64) ≡ true)
    b = and_parts _ _ k.1

    c : (leb (length W.productions) 64 ≡ true) × (leb (all_tails W.productions) 64 ≡ true)
    c = and_parts _ _ b.1

    of : (p : Production) → Mem p W.productions
        → ((ltb p.head 32 && leb (length p.right) 8) ≡ true) × ((leb p.cost 65535 && every (λ y. ltb y (32 + W.patterns)) p.right) ≡ true)
    of p m = and_parts _ _ (every_gives (small W.patterns) W.productions a.0 p m)
