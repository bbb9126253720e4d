-- Lists of small numbers.
use Rattle.std.proofs.Common.{ℕ, zero, suc, ◌<◌, List, [], ◌∷◌, get_or, take, set}

-- a small number in a list of small ones
pub set_below : (xs : List ℕ) (b i n : ℕ) → 0 < b → ((k : ℕ) → get_or xs k 0 < b) → n < b → (k : ℕ) → get_or (set xs i n) k 0 < b
set_below [] b i n z h l k = z
set_below (x ∷ xs) b zero n z h l zero = l
set_below (x ∷ xs) b zero n z h l (suc k) = h (suc k)
set_below (x ∷ xs) b (suc i) n z h l zero = h 0
set_below (x ∷ xs) b (suc i) n z h l (suc k) = set_below xs b i n z (λ j. h (suc j)) l k

-- the first ones of a list of small numbers
pub take_below : (xs : List ℕ) (b n : ℕ) → 0 < b → ((k : ℕ) → get_or xs k 0 < b) → (k : ℕ) → get_or (take n xs) k 0 < b
take_below xs b zero z h k = z
take_below [] b (suc n) z h k = z
take_below (x ∷ xs) b (suc n) z h zero = h 0
take_below (x ∷ xs) b (suc n) z h (suc k) = take_below xs b n z (λ j. h (suc j)) k
