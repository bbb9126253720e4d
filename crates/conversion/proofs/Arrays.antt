-- Tables of rows of equal length.
use Rattle.std.proofs.Common.{◌≡◌, ℕ, ◌<◌, ◌≤◌, ◌⊎◌, List, [], length, get_or, set, replicate, ap, ◌∙◌, inl, inr, ⊎_elim, arith, length-set, get_or-set_other, get_or-set_same}
use Rattle.std.proofs.lemmas.Bool.{cases_lt, cases_eq}
use Rattle.std.proofs.lemmas.List.{get_or_past}
use Rattle.std.proofs.lemmas.Simd.{length-replicate, get_or-replicate}

-- a table of n rows, each of n places
abbrev pub Square : {X : Type 0} → ℕ → List (List X) → Type 0
Square n rows = (length rows ≡ n) × ((x : ℕ) → x < n → length (get_or rows x []) ≡ n)

-- past the rows or the places of a row nothing stands
pub outside : {X : Type 0} (n : ℕ) (rows : List (List X)) (x y : ℕ) (d : X) → Square n rows → (n ≤ x) ⊎ (n ≤ y) → get_or (get_or rows x []) y d ≡ d
outside n rows x y d s (inl h) = ap (λ r. get_or r y d) (get_or_past rows x [] (omega (arith, s.0))) ∙ get_or_past [] y d (omega arith)
outside n rows x y d s (inr h) =
    ⊎_elim
    (λ (b : x < n). get_or_past (get_or rows x []) y d (omega (arith, s.1 x b)))
    (λ (b : n ≤ x). ap (λ r. get_or r y d) (get_or_past rows x [] (omega (arith, s.0))) ∙ get_or_past [] y d (omega arith))
    (cases_lt x n)

-- a write of one place keeps the table's shape
pub square_set : {X : Type 0} (n : ℕ) (rows : List (List X)) (x y : ℕ) (v : X) → x < n → Square n rows → Square n (set rows x (set (get_or rows x []) y v))
square_set n rows x y v h s =
    let row : List _ = set (get_or rows x []) y v in (
      length-set rows x row ∙ s.0,
      λ k b.
          ⊎_elim
          (λ (e : k ≡ x). ap (λ j. length (get_or (set rows x row) j [])) e ∙ ap length (get_or-set_same rows x row [] (omega (arith, s.0))) ∙ length-set (get_or rows x []) y v ∙ s.1 x h)
          (λ (e : k ≡ x → ⊥). ap length (get_or-set_other rows x k row [] e) ∙ s.1 k b)
          (cases_eq k x),
    )

-- a table of one value throughout
pub square_replicate : {X : Type 0} (n : ℕ) (v : X) → Square n (replicate n (replicate n v))
square_replicate n v = (length-replicate n (replicate n v), λ x h. ap length (get_or-replicate n x (replicate n v) [] h) ∙ length-replicate n v)
