-- Lists made piece by piece, and the numbers below a number.
use Rattle.std.proofs.Common.{◌≡◌, ℕ, zero, suc, ◌+◌, ◌-◌, ◌<◌, ◌≤◌, Bool, true, false, cond, List, [], ◌∷◌, ◌++◌, sym, refl, ap, ◌∙◌, ap₂, add-one, arith}
use Rattle.std.proofs.lemmas.List.{append_assoc, append-nil}
use Rattle.grammar.specs.Lists.{those, each, count_up, below}

pub each_append : {A B : Type 0} (f : A → List B) (xs ys : List A) → each f (xs ++ ys) ≡ each f xs ++ each f ys
each_append f [] ys = refl
each_append f (x ∷ xs) ys = ap (λ l. f x ++ l) (each_append f xs ys) ∙ sym (append_assoc (f x) (each f xs) (each f ys))

pub each_push : {A B : Type 0} (f : A → List B) (xs : List A) (y : A) → each f (xs ++ (y ∷ [])) ≡ each f xs ++ f y
each_push f xs y = each_append f xs (y ∷ []) ∙ ap (λ l. each f xs ++ l) (append-nil (f y))

-- one after the other by those that pass a test: nothing for the others
pub each_those : {A B : Type 0} (f : A → List B) (p : A → Bool) (xs : List A) → each f (those p xs) ≡ each (λ x. cond (p x) (f x) []) xs
each_those f p [] = refl
each_those f p (x ∷ xs) =
    elim (p x) as (λ b. each f (cond b (x ∷ those p xs) (those p xs)) ≡ cond b (f x) [] ++ each (λ y. cond (p y) (f y) []) xs)
    [ true ↦ ap (λ l. f x ++ l) (each_those f p xs) | false ↦ each_those f p xs ]

count_up_last : (a n : ℕ) → count_up a (suc n) ≡ count_up a n ++ ((a + n) ∷ [])
count_up_last a zero = ap (λ m. m ∷ []) (omega arith)
count_up_last a (suc n) = ap (λ l. a ∷ l) (count_up_last (suc a) n ∙ ap (λ m. count_up (suc a) n ++ (m ∷ [])) (omega arith))

-- the numbers below n + 1
pub below_more : (n : ℕ) → below (n + 1) ≡ below n ++ (n ∷ [])
below_more n = ap below (add-one n) ∙ count_up_last 0 n ∙ ap (λ m. below n ++ (m ∷ [])) (omega arith)

pub each_more : {B : Type 0} (f : ℕ → List B) (n : ℕ) → each f (below (n + 1)) ≡ each f (below n) ++ f n
each_more f n = ap (each f) (below_more n) ∙ each_push f (below n) n

-- the same pieces for the numbers below n
pub each_same : {B : Type 0} (f g : ℕ → List B) (n : ℕ) → ((i : ℕ) → i < n → f i ≡ g i) → each f (below n) ≡ each g (below n)
each_same f g zero h = refl
each_same f g (suc n) h =
    ap (λ m. each f (below m)) (sym (add-one n)) ∙ each_more f n ∙ ap₂ ◌++◌ (each_same f g n (λ i l. h i (omega arith))) (h n (omega arith))
    ∙ sym (each_more g n) ∙ ap (λ m. each g (below m)) (add-one n)

-- k more numbers, with nothing for each
each_past : {B : Type 0} (f : ℕ → List B) (n k : ℕ) → ((i : ℕ) → n ≤ i → i < n + k → f i ≡ []) → each f (below (n + k)) ≡ each f (below n)
each_past f n zero h = ap (λ m. each f (below m)) (omega arith)
each_past f n (suc k) h =
    let next : n + suc k ≡ n + k + 1 = omega arith in
    ap (λ m. each f (below m)) next ∙ each_more f (n + k) ∙ ap₂ ◌++◌ (each_past f n k (λ i a b. h i a (omega arith))) (h (n + k) (omega arith) (omega arith))
    ∙ append-nil (each f (below n))

-- numbers from n on, with nothing for each
pub each_shorter : {B : Type 0} (f : ℕ → List B) (n m : ℕ) → n ≤ m → ((i : ℕ) → n ≤ i → i < m → f i ≡ []) → each f (below m) ≡ each f (below n)
each_shorter f n m h g =
    let all : m ≡ n + (m - n) = omega arith in
    ap (λ j. each f (below j)) all ∙ each_past f n (m - n) (λ i a b. g i a (omega arith))
