-- The three weighings: yes or no, how many, and the least cost, the last two held at a limit; and maps between weighings.
use Rattle.std.specs.Prelude.{◌≡◌, ℕ, ◌+◌, ◌*◌, ◌≤◌, min, Bool, true, false, ◌&&◌, ◌||◌}
use Rattle.grammar.specs.Semiring.{Ops}

-- yes or no: or, and; each cost weighs yes
abbrev pub yes_no : Ops Bool
yes_no = record { zero = false; one = true; plus = ◌||◌; times = ◌&&◌; weight = λ c. true }

-- the sum and the product of numbers, each held at C; each cost weighs 1
abbrev pub counts : ℕ → Ops ℕ
counts C = record { zero = 0; one = 1; plus = λ a b. min (a + b) C; times = λ a b. min (a * b) C; weight = λ c. 1 }

-- the smaller, and the sum held at C; a cost weighs itself
abbrev pub costs : ℕ → Ops ℕ
costs C = record { zero = C; one = 0; plus = λ a b. min a b; times = λ a b. min (a + b) C; weight = λ c. c }

-- f keeps zero, one, sums, products, and the weights of the costs that there are
pub record Keeps {V U : Type 0} (M : Ops V) (N : Ops U) (f : V → U) : Type 0 where
  pub zero_to : f M.zero ≡ N.zero
  pub one_to : f M.one ≡ N.one
  pub plus_to : (a b : V) → f (M.plus a b) ≡ N.plus (f a) (f b)
  pub times_to : (a b : V) → f (M.times a b) ≡ N.times (f a) (f b)
  pub weight_to : (c : ℕ) → c ≤ 65535 → f (M.weight c) ≡ N.weight c
