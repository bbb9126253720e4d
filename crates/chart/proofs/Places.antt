-- Where columns and cells lie.
use Rattle.std.proofs.Common.{◌≡◌, ℕ, zero, suc, ◌+◌, ◌-◌, ◌*◌, ◌/◌, ◌<◌, ◌≤◌, sym, refl, ap, ◌∙◌, subst, suc-mul, mul_comm, add-mul, one-mul, mul-suc, arith}
use Rattle.std.proofs.lemmas.Nat.{mul-le, shl-shr}
use Rattle.chart.specs.Table.{column_place, cell_place}

-- 0 + 1 + .. + (e - 1)
abbrev tri : ℕ → ℕ
tri zero = 0
tri (suc e) = tri e + e

less_one : (e : ℕ) → e * (e - 1) + e ≡ e * e
less_one zero = refl
less_one (suc n) = let h : suc n - 1 ≡ n = omega arith in ap (λ m. suc n * m + suc n) h ∙ sym (mul-suc (suc n) n)

tri_double : (e : ℕ) → tri e * 2 ≡ e * (e - 1)
tri_double zero = refl
tri_double (suc e) =
    let h : suc e - 1 ≡ e = omega arith in
    let q : suc e * (suc e - 1) ≡ suc e * e = ap (λ m. suc e * m) h in
    omega (arith, tri_double e, less_one e, suc-mul e e, q)

pub start_tri : (s e : ℕ) → column_place s e ≡ tri e * s
start_tri s e = ap (λ m. m / 2 * s) (sym (tri_double e)) ∙ ap (λ m. m * s) (shl-shr (tri e) 1)

-- the next column begins where this one ends
pub start_next : (s e : ℕ) → column_place s (e + 1) ≡ column_place s e + e * s
start_next s e =
    let h : e + 1 ≡ suc e = omega arith in
    start_tri s (e + 1) ∙ ap (λ m. tri m * s) h ∙ add-mul (tri e) e s ∙ ap (λ m. m + e * s) (sym (start_tri s e))

tri_mono : (k n : ℕ) → tri k ≤ tri (k + n)
tri_mono k zero = let h : k ≡ k + 0 = omega arith in subst (λ m. tri k ≤ tri m) h (omega arith)
tri_mono k (suc n) =
    let h : suc (k + n) ≡ k + suc n = omega arith in
    let p : tri k ≤ tri (suc (k + n)) = omega (arith, tri_mono k n) in
    subst (λ m. tri k ≤ tri m) h p

pub start_mono : (s k e : ℕ) → k ≤ e → column_place s k ≤ column_place s e
start_mono s k e h =
    let q : k + (e - k) ≡ e = omega arith in
    let p : tri k ≤ tri e = subst (λ m. tri k ≤ tri m) q (tri_mono k (e - k)) in
    omega (arith, start_tri s k, start_tri s e, mul-le (tri k) s (tri e) s p (omega arith))

-- a cell lies in its column
pub cell_within : (s e i : ℕ) → i < e → cell_place s e i + s ≤ column_place s (e + 1)
cell_within s e i h = omega (arith, start_next s e, mul-le (i + 1) s e s (omega arith) (omega arith), add-mul i 1 s, one-mul s)

-- the room that a feed asks for, as the code works it out
pub room : (s n : ℕ) → (n + 1) * (n + 2) / 2 * s ≡ column_place s (n + 2)
room s n = let h : n + 2 - 1 ≡ n + 1 = omega arith in ap (λ m. m / 2 * s) (mul_comm (n + 1) (n + 2)) ∙ ap (λ m. (n + 2) * m / 2 * s) (sym h)

-- a chart's table is small
pub place_small : (s e i : ℕ) → s ≤ 128 → e ≤ 256 → i < e → cell_place s e i ≤ 10000000
place_small s e i hs he hi =
    omega (arith, cell_within s e i hi, start_tri s (e + 1), mul-le (tri (e + 1)) s 40000 128 (omega (arith, tri_double (e + 1), mul-le (e + 1) (e + 1 - 1) 257 256 (omega arith) (omega arith))) hs)

-- a cell of an earlier column lies before the column
pub cell_before : (s k e i : ℕ) → i < k → k < e → cell_place s k i + s ≤ column_place s e
cell_before s k e i hi hk = omega (arith, cell_within s k i hi, start_mono s (k + 1) e (omega arith))

-- the cells of a column lie one after the other
pub cell_next : (s e i : ℕ) → cell_place s e (i + 1) ≡ cell_place s e i + s
cell_next s e i = omega (arith, add-mul i 1 s, one-mul s)

pub cell_mono : (s e i k : ℕ) → i ≤ k → cell_place s e i ≤ cell_place s e k
cell_mono s e i k h = omega (arith, mul-le i s k s h (omega arith))

-- the weights of a cell lie in the table
pub inside : (s k e i x r n : ℕ) → r ≡ cell_place s k i → i < k → k ≤ e → column_place s (e + 1) ≤ n → x < s → r + x < n
inside s k e i x r n q hi hk room hx = omega (arith, cell_within s k i hi, start_mono s (k + 1) (e + 1) (omega arith))
