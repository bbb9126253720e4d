-- Short names for parts of the definitions, for proofs alone.
use Rattle.std.proofs.Common.{ℕ, ◌+◌, ◌-◌, ◌*◌, Bool, List, [], ◌∷◌, take, fold, Option}
use Rattle.std.specs.List.{list_all}
use Rattle.std.specs.Option.{option_map_or}
use Rattle.grammar.specs.Productions.{Production, written}
use Rattle.text.specs.Numbers.{is_digit}

-- one thing of what is there, another of nothing
abbrev pub by : {A : Type 0} → Option ℕ → A → (ℕ → A) → A
by o x f = option_map_or f o x

-- a production with its first nine items, which stand for nine and more: a book refuses both alike
abbrev pub first_nine : Production → Production
first_nine p = written p.head (take 9 p.right) p.cost

-- digits in base ten after a number
abbrev pub decimal_after : ℕ → List ℕ → ℕ
decimal_after n ds = fold (λ m d. m * 10 + (d - 48)) n ds

-- every byte is a digit
abbrev pub all_digits : List ℕ → Bool
all_digits bs = list_all is_digit bs

-- ->
abbrev pub arrow_text : List ℕ
arrow_text = 45 ∷ (62 ∷ [])

-- blank
abbrev pub blank_text : List ℕ
blank_text = 98 ∷ (108 ∷ (97 ∷ (110 ∷ (107 ∷ []))))
