-- The lists of pairs and of weighed rules have room in memory, since a value is small.
use Rattle.std.proofs.Common.{ℕ, ◌+◌, ◌-◌, ◌*◌, ◌%◌, ◌<◌, ◌≤◌, max, mod-lt, arith, w8, w16, w32, w64}
use mir.Syntax.{Width, w128, Ty}
use mir.Val.{bytes}
use prog.Memory.{size, align, up}
use prog.Align.{align-bytes, align_w}
use Rattle.std.proofs.lemmas.Nat.{mul-le}

width_small : (w : Width) → (0 < bytes w) × (bytes w ≤ 16)
width_small w8 = (omega arith, omega arith)
width_small w16 = (omega arith, omega arith)
width_small w32 = (omega arith, omega arith)
width_small w64 = (omega arith, omega arith)
width_small w128 = (omega arith, omega arith)

align_small : (τ : Ty) → (0 < align τ) × (align τ ≤ 16)
align_small τ = let w = width_small (align_w τ) in (omega (arith, align-bytes τ, w.0), omega (arith, align-bytes τ, w.1))

-- rounding up to a multiple of a small number adds little
up_little : (k e : ℕ) → 0 < k → k ≤ 16 → up k e ≤ e + 16
up_little k e h l = let m : (k - e % k) % k < k = mod-lt (k - e % k) h in omega arith

-- the bytes of a list of 1,024 items, with a value beside its length
abbrev list_size : ℕ → ℕ → Ty → ℕ
list_size k one τ =
    up (max (max k 1) (max 8 (max (align τ) 1)))
    (up (align τ) (up 8 (up (max k 1) 0 + up (max k 1) (up k 0 + 1024 * up k one)) + 8) + size τ)

list_small : (k one : ℕ) (τ : Ty) → 0 < k → k ≤ 16 → one ≤ 4503599627370544 → size τ ≤ 4503599627370496 → list_size k one τ < 9223372036854775808
list_small k one τ k0 k1 o v =
    let a = align_small τ in
    let h : ℕ = max k 1 in
    let h0 : 0 < h = omega arith in
    let h1 : h ≤ 16 = omega (arith, k1) in
    let top : ℕ = max h (max 8 (max (align τ) 1)) in
    let item : up k one ≤ 4503599627370560 = omega (arith, up_little k one k0 k1, o) in
    let many : 1024 * up k one ≤ 1024 * 4503599627370560 = mul-le 1024 (up k one) 1024 4503599627370560 (omega arith) item in
    let list : up h (up k 0 + 1024 * up k one) ≤ 32 + 1024 * 4503599627370560 = omega (arith, up_little h (up k 0 + 1024 * up k one) h0 h1, up_little k 0 k0 k1, many) in
    let cells : up 8 (up h 0 + up h (up k 0 + 1024 * up k one)) ≤ 64 + 1024 * 4503599627370560 = omega (arith, up_little 8 (up h 0 + up h (up k 0 + 1024 * up k one)) (omega arith) (omega arith), up_little h 0 h0 h1, list) in
    let whole : up (align τ) (up 8 (up h 0 + up h (up k 0 + 1024 * up k one)) + 8) ≤ 88 + 1024 * 4503599627370560 = omega (arith, up_little (align τ) (up 8 (up h 0 + up h (up k 0 + 1024 * up k one)) + 8) a.0 a.1, cells) in
    omega (arith, up_little top (up (align τ) (up 8 (up h 0 + up h (up k 0 + 1024 * up k one)) + 8) + size τ) (omega arith) (omega (arith, h1, a.1)), whole, v)

pub pairs_small : (τ : Ty) → size τ ≤ 4503599627370496 → list_size (max 1 (max 1 (max (align τ) 1))) (up (align τ) 2 + size τ) τ < 9223372036854775808
pairs_small τ h =
    let a = align_small τ in
    list_small (max 1 (max 1 (max (align τ) 1))) (up (align τ) 2 + size τ) τ (omega arith) (omega (arith, a.1)) (omega (arith, up_little (align τ) 2 a.0 a.1, h)) h

pub rules_small : (τ : Ty) → size τ ≤ 4503599627370496 → list_size (max 1 (max (align τ) 1)) (up (align τ) 6 + size τ) τ < 9223372036854775808
rules_small τ h =
    let a = align_small τ in
    list_small (max 1 (max (align τ) 1)) (up (align τ) 6 + size τ) τ (omega arith) (omega (arith, a.1)) (omega (arith, up_little (align τ) 6 a.0 a.1, h)) h
