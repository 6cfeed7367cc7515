-- The widths, all facts over w: w bytes have 2^(8w) values, and heights up to top w leave half of them to each sign.
use Prim.Native.Nat.{ℕ, suc, ◌+◌, ◌*◌, ◌-◌, ◌%◌, ◌<◌, ◌≤◌, ◌^◌}
use mathlib.Core.Path.{◌≡◌, ap, ◌∙◌}
use native.Mathlib.Omega.{arith}
use native.Mathlib.Nat.{one-mul, mul-le-mul}
use lib.Pow.{pow-add, pow_pos, pow_mono, shl_exact}
use lib.IntN.{pos, negsuc}
use borrow.Author.Tests.{le-leb, lt-leb}
use Rattle.widths.specs.Numbers.{top, signed_of}

-- 2^(8w), half of it and top w
pub halves : (w : ℕ) → 0 < w → 2 ^ (8 * w) ≡ 2 * 2 ^ (8 * w - 1)
halves w h =
    let e : 8 * w ≡ 1 + (8 * w - 1) = omega arith in
    ap (λ (k : ℕ). 2 ^ k) e ∙ pow-add 2 1 (8 * w - 1)

pub full : (w : ℕ) → 0 < w → 2 ^ (8 * w) ≡ 2 * top w + 2
unfolding top
full w h = omega (arith, halves w h, pow_pos (8 * w - 1))

pub full_suc : (w : ℕ) → 2 ^ (8 * suc w) ≡ 256 * 2 ^ (8 * w)
full_suc w =
    let e : 8 * suc w ≡ 8 + 8 * w = omega arith in
    ap (λ (k : ℕ). 2 ^ k) e ∙ pow-add 2 8 (8 * w)

pub full_mono : {v w : ℕ} → v ≤ w → 2 ^ (8 * v) ≤ 2 ^ (8 * w)
full_mono h = pow_mono (omega arith)

-- at most 8 bytes: a height fits 63 bits
pub top_small : (w : ℕ) → 0 < w → w ≤ 8 → top w < 2 ^ 63
top_small w h l = omega (arith, full w h, full_mono l)

-- top w as the code makes it
pub shifted : (w : ℕ) → 0 < w → w ≤ 8 → (1 * 2 ^ (8 * w - 1)) % 2 ^ 64 ≡ top w + 1
unfolding top
shifted w h l =
    shl_exact 1 (8 * w - 1) 64 (omega arith) (omega arith)
    ∙ omega (arith, one-mul (2 ^ (8 * w - 1)), pow_pos (8 * w - 1))

-- what v stands for, by its half, as the code makes it from m, which is top w
pub signed_low : (w m v : ℕ) → m ≡ top w → v ≤ m → pos v ≡ signed_of w v
unfolding signed_of
signed_low w m v e h = simp (le-leb v (top w) (omega arith))

pub signed_high : (w m v : ℕ) → 0 < w → m ≡ top w → m < v → negsuc (m - (v - m - 1)) ≡ signed_of w v
unfolding signed_of
signed_high w m v h e l =
    let back : m - (v - m - 1) ≡ 2 ^ (8 * w) - suc v = omega (arith, full w h) in
    simp (lt-leb v (top w) (omega arith), back)

-- a record's bytes are few
pub few : (k w : ℕ) → k ≤ 65536 → w ≤ 8 → k * w ≤ 524288
few k w h l = mul-le-mul h l

pub nonzero : (w : ℕ) → (w ≡ 0 → ⊥) → 0 < w
nonzero w z = omega arith
