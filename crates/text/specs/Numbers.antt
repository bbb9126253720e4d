-- Numbers in base ten.
use Rattle.std.specs.List.{list_all}
use Rattle.std.specs.Prelude.{ℕ, ◌+◌, ◌-◌, ◌*◌, Bool, false, not, ◌&&◌, List, [], ◌∷◌, fold, ◌==◌, nat_le}

-- 0 to 9
abbrev pub is_digit : ℕ → Bool
is_digit b = nat_le 48 b && nat_le b 57

abbrev pub all_digits : List ℕ → Bool
all_digits ds = list_all is_digit ds

-- digits, at least one, with no leading zero but 0 itself
abbrev pub is_numeral : List ℕ → Bool
is_numeral [] = false
is_numeral (b ∷ []) = is_digit b
is_numeral (b ∷ (c ∷ cs)) = not (b == 48) && all_digits (b ∷ (c ∷ cs))

-- the number that digits say in base ten
abbrev pub said_number : List ℕ → ℕ
said_number ds = fold (λ n d. n * 10 + (d - 48)) 0 ds
