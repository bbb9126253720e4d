-- From lists of trees of binarised rules to lists of readings, with the same sum.
use Rattle.std.proofs.Common.{◌≡◌, ℕ, ◌<◌, Bool, ◌↔◌, List, [], ◌∷◌, map, sym, refl, subst, ap₂, inl, inr}
use Rattle.grammar.specs.Lists.{Mem, Distinct}
use Rattle.grammar.specs.Binarised.{Tree, Derives}
use Rattle.grammar.specs.Productions.{Book, Sound}
use Rattle.grammar.specs.Readings.{Reading, Reads}
use Rattle.grammar.specs.Binarise.{binarise, binarised}
use Rattle.grammar.specs.Semiring.{Ops, Semiring, sum}
use Rattle.grammar.specs.Cells.{tree_weight}
use Rattle.grammar.specs.Weights.{reading_weight, binarised_weight}
use Rattle.grammar.proofs.Lists.{mem_map, map_mem}
use Rattle.grammar.proofs.Binarise.{binarised_back, binarised_injective}
use Rattle.grammar.proofs.Weights.{binarised_weighs}

pub distinct_from_map : {A B : Type 0} (f : A → B) (xs : List A) → Distinct (map f xs) → Distinct xs
distinct_from_map f [] d = tt
distinct_from_map f (x ∷ xs) d = (λ m. d.0 (mem_map f x xs m), distinct_from_map f xs d.1)

-- readings and their binarised forms have the same sum
pub binarised_sum : (W : Book) (S : Sound W) {E : Type 0} (fits : E → ℕ → Bool) {V : Type 0} (M : Ops V) (L : Semiring M) (rs : List Reading)
    → ((r : Reading) → Mem r rs → (x : ℕ) × ((w : List E) × Reads W fits x r w))
    → sum M (reading_weight W M) rs ≡ sum M (tree_weight M (binarised_weight W M)) (map (binarise W) rs)
binarised_sum W S fits M L [] h = refl
binarised_sum W S fits M L (r ∷ rs) h =
    ap₂ M.plus (sym (binarised_weighs W M L fits S (h r (inl refl)).1.1)) (binarised_sum W S fits M L rs (λ q i. h q (inr i)))

-- the trees ts are the binarised forms of the readings rs, each of w from x, and those are all whose binarised form is in ts
pub record Matched (W : Book) {E : Type 0} (fits : E → ℕ → Bool) (x : ℕ) (w : List E) (ts : List Tree) : Type 0 where
  pub rs : List Reading
  pub are : map (binarise W) rs ≡ ts
  pub hold : (r : Reading) → Mem r rs ↔ (Reads W fits x r w × Mem (binarise W r) ts)

module _ (W : Book) (S : Sound W) {E : Type 0} (fits : E → ℕ → Bool) (x : ℕ) (small : x < 32) (w : List E) where
  back_list : (ts : List Tree) → ((s : Tree) → Mem s ts → Derives (binarised W) fits x s w)
      → (rs : List Reading) × (map (binarise W) rs ≡ ts) × ((r : Reading) → Mem r rs → Reads W fits x r w)
  back_list [] h = ([], refl, λ r m. elim m [ ])
  back_list (s ∷ ts) h =
      let k = binarised_back W S fits small (h s (inl refl)) in
      let j = back_list ts (λ t m. h t (inr m)) in (
        k.0 ∷ j.0,
        ap₂ (λ t l. t ∷ l) k.2 j.1,
        λ r m. elim m [ inl e ↦ subst (λ q. Reads W fits x q w) (sym e) k.1 | inr i ↦ j.2 r i ],
      )

  pub matched : (ts : List Tree) → ((s : Tree) → Mem s ts → Derives (binarised W) fits x s w) → Matched W fits x w ts
  matched ts h =
      let k = back_list ts h in record {
        rs = k.0;
        are = k.1;
        hold = λ r. (
          λ m. (k.2 r m, subst (Mem (binarise W r)) k.1 (mem_map (binarise W) r k.0 m)),
          λ p. let j = map_mem (binarise W) (binarise W r) k.0 (subst (Mem (binarise W r)) (sym k.1) p.1) in
              subst (λ q. Mem q k.0) (sym (binarised_injective W fits p.0 (k.2 j.0 j.1) j.2)) j.1,
        );
      }

  pub matched_once : (ts : List Tree) (m : Matched W fits x w ts) → Distinct ts → Distinct m.rs
  matched_once ts m d = distinct_from_map (binarise W) m.rs (subst Distinct (sym m.are) d)
