-- Lists: what they hold, in which order, and how they are cut.
use Rattle.std.specs.Prelude.{◌≡◌, ℕ, zero, suc, Bool, true, false, cond, ◌⊎◌, List, [], ◌∷◌, map, take, drop}
-- those of a list that pass a test, the lists given for each in a row, whether one passes, and whether two lists are of the same numbers
pub use Rattle.std.specs.List.{filter as those, flat_map as each, list_any as some_of}
pub use Rattle.std.specs.Prelude.{bytes_eq as same_numbers}

-- a is one of the list
abbrev pub Mem : {A : Type 0} → A → List A → Type 0
Mem a [] = ⊥
Mem a (x ∷ xs) = (a ≡ x) ⊎ Mem a xs

-- no two places hold the same
abbrev pub Distinct : {A : Type 0} → List A → Type 0
Distinct [] = Unit {0}
Distinct (x ∷ xs) = (Mem x xs → ⊥) × Distinct xs

-- each stands in the relation R to all that come after it
abbrev pub Sorted : {A : Type 0} → (A → A → Type 0) → List A → Type 0
Sorted {A} R [] = Unit {0}
Sorted {A} R (a ∷ l) = ((b : A) → Mem b l → R a b) × Sorted R l

-- the first of the list that passes the test, or d if none does
abbrev pub first_of : {A : Type 0} → (A → Bool) → A → List A → A
first_of p d [] = d
first_of p d (x ∷ xs) = cond (p x) x (first_of p d xs)

-- a is the first of the list that passes the test: it passes, and none before it does
abbrev pub First : {A : Type 0} → (A → Bool) → List A → A → Type 0
First p [] a = ⊥
First p (x ∷ xs) a = ((p x ≡ true) × (a ≡ x)) ⊎ ((p x ≡ false) × First p xs a)

-- n numbers from a on
abbrev pub count_up : ℕ → ℕ → List ℕ
count_up a zero = []
count_up a (suc n) = a ∷ count_up (suc a) n

-- the numbers below n, in order
abbrev pub below : ℕ → List ℕ
below n = count_up zero n

abbrev pub Cut : Type 0 → Type 0
Cut E = List E × List E

-- all cuts of a list into two parts that are not empty, the shortest left part first
abbrev pub cuts : {E : Type 0} → List E → List (Cut E)
cuts [] = []
cuts (e ∷ []) = []
cuts (e ∷ f ∷ w) = (e ∷ [], f ∷ w) ∷ map (λ (c : List _ × List _). (e ∷ c.0, c.1)) (cuts (f ∷ w))

-- the l events from place i on
abbrev pub span : {E : Type 0} → List E → ℕ → ℕ → List E
span ev i l = take l (drop i ev)
