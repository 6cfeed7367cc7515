-- Numbers and their bytes, coefficients and theirs, each way and back, all over the width w.
use Prim.Native.Nat.{ℕ, zero, suc, ◌+◌, ◌*◌, ◌-◌, ◌/◌, ◌%◌, ◌≤◌, ◌<◌, ◌^◌}
use mathlib.Core.Path.{◌≡◌, refl, sym, ap, ◌∙◌}
use mathlib.Core.Bool.{Bool, true, false, cond}
use lib.Dec.{leb, eqb, eqb-suc-zero}
use mathlib.Core.List.{List, [], ◌∷◌, ◌++◌, append_assoc}
use native.Mathlib.Omega.{arith}
use native.Mathlib.Nat.{zero-mul, suc-mul}
use lib.ListN.{length, get_or, take, drop, length-drop}
use lib.Seq.{take_at, drop_at, take-add, length-take-le}
use lib.IntN.{ℤ, pos, negsuc, nat_abs}
use borrow.Author.Tests.{le-leb, lt-leb, leb-false, ne_eqb}
use Rattle.definitions.specs.Answer.{height_of}
use Rattle.widths.specs.Numbers.{bytes_of, number, top, twos, signed_of, body, coefficients_at}
use Rattle.widths.proofs.Widths.{full, full_suc}

-- a list of bytes, and its parts
abbrev pub Bytes : List ℕ → Type 0
Bytes [] = Unit
Bytes (b ∷ bs) = (b < 256) × Bytes bs

pub bytes_each : (bs : List ℕ) → ((i : ℕ) → get_or bs i 0 < 256) → Bytes bs
bytes_each [] p = tt
bytes_each (b ∷ bs) p = (p 0, bytes_each bs (λ i. p (suc i)))

pub bytes_take : (n : ℕ) (bs : List ℕ) → Bytes bs → Bytes (take n bs)
bytes_take zero bs p = tt
bytes_take (suc n) [] p = tt
bytes_take (suc n) (b ∷ bs) p = (p.0, bytes_take n bs p.1)

pub bytes_drop : (n : ℕ) (bs : List ℕ) → Bytes bs → Bytes (drop n bs)
bytes_drop zero bs p = p
bytes_drop (suc n) [] p = tt
bytes_drop (suc n) (b ∷ bs) p = bytes_drop n bs p.1

-- numbers
pub bytes_number : (w : ℕ) (bs : List ℕ) → length bs ≡ w → Bytes bs → bytes_of w (number bs) ≡ bs
unfolding bytes_of number
bytes_number zero [] e p = refl
bytes_number zero (b ∷ bs) e p = absurd (omega arith)
bytes_number (suc w) [] e p = absurd (omega arith)
bytes_number (suc w) (b ∷ bs) e p =
    let low : (b + 256 * number bs) % 256 ≡ b = omega arith in
    let high : (b + 256 * number bs) / 256 ≡ number bs = omega arith in
    rw (low, high, bytes_number w bs (omega arith) p.1)

pub number_bytes : (w v : ℕ) → v < 2 ^ (8 * w) → number (bytes_of w v) ≡ v
unfolding bytes_of number
number_bytes zero v h = omega arith
number_bytes (suc w) v h = rw (number_bytes w (v / 256) (omega (arith, full_suc w))) (omega arith)

pub number_less : (w : ℕ) (bs : List ℕ) → length bs ≡ w → Bytes bs → number bs < 2 ^ (8 * w)
unfolding number
number_less zero [] e p = omega arith
number_less zero (b ∷ bs) e p = absurd (omega arith)
number_less (suc w) [] e p = absurd (omega arith)
number_less (suc w) (b ∷ bs) e p = omega (arith, full_suc w, number_less w bs (omega arith) p.1)

pub length-bytes_of : (w v : ℕ) → length (bytes_of w v) ≡ w
unfolding bytes_of
length-bytes_of zero v = refl
length-bytes_of (suc w) v = ap suc (length-bytes_of w (v / 256))

-- two's complement
pub twos_less : (w : ℕ) (z : ℤ) → 0 < w → nat_abs z ≤ top w → twos w z < 2 ^ (8 * w)
unfolding twos
twos_less w (pos n) h t = omega (arith, full w h)
twos_less w (negsuc n) h t = omega (arith, full w h)

pub signed-twos : (w : ℕ) (z : ℤ) → 0 < w → nat_abs z ≤ top w → signed_of w (twos w z) ≡ z
unfolding twos signed_of
signed-twos w (pos n) h t = simp (le-leb n (top w) t)
signed-twos w (negsuc n) h t =
    let above : top w < 2 ^ (8 * w) - suc n = omega (arith, full w h) in
    let back : 2 ^ (8 * w) - suc (2 ^ (8 * w) - suc n) ≡ n = omega (arith, full w h) in
    simp (lt-leb (2 ^ (8 * w) - suc n) (top w) above, back)

pub twos-signed : (w v : ℕ) → v < 2 ^ (8 * w) → twos w (signed_of w v) ≡ v
unfolding twos signed_of
twos-signed w v h = go (leb v (top w))
  where
    go : (b : Bool) → twos w (cond b (pos v) (negsuc (2 ^ (8 * w) - suc v))) ≡ v
    go true = refl
    go false = omega arith

-- the number 0
pub zero-signed : (w v : ℕ) → eqb (nat_abs (signed_of w v)) 0 ≡ eqb v 0
unfolding signed_of
zero-signed w v = go (leb v (top w)) refl
  where
    go : (b : Bool) → leb v (top w) ≡ b
        → eqb (nat_abs (cond b (pos v) (negsuc (2 ^ (8 * w) - suc v)))) 0 ≡ eqb v 0
    go true e = refl
    go false e = eqb-suc-zero (2 ^ (8 * w) - suc v) ∙ sym (ne_eqb v 0 (λ z. omega (arith, leb-false v (top w) e)))

-- coefficients
pub coefficients-body : (w : ℕ) (cs : List ℤ) (rest : List ℕ) → 0 < w → height_of cs ≤ top w →
    coefficients_at w (length cs) (body w cs ++ rest) ≡ cs
unfolding coefficients_at body height_of
coefficients-body w [] rest h t = refl
coefficients-body w (c ∷ cs) rest h t =
    let z = twos w c in
    let tall : nat_abs c ≤ top w = omega arith in
    let others : height_of cs ≤ top w = omega arith in
    let tail = body w cs ++ rest in
    let long = length-bytes_of w z in
    let first : signed_of w (number (bytes_of w z)) ≡ c = ap (signed_of w) (number_bytes w z (twos_less w c h tall))
    ∙ signed-twos w c h tall in
    rw (
      append_assoc (bytes_of w z) (body w cs) rest,
      take_at (bytes_of w z) tail w long,
      drop_at (bytes_of w z) tail w long,
      first,
      coefficients-body w cs rest h others,
    )

pub body-coefficients : (w k : ℕ) (bs : List ℕ) → k * w ≤ length bs → Bytes bs → body w (coefficients_at w k bs)
    ≡ take (k * w) bs
unfolding coefficients_at body
body-coefficients w zero bs h p = rw zero-mul
body-coefficients w (suc k) bs h p =
    let room : w + k * w ≤ length bs = omega (arith, suc-mul k w) in
    let one = take w bs in
    let long : length one ≡ w = length-take-le w bs (omega arith) in
    let bytes = bytes_take w bs p in
    let first : bytes_of w (twos w (signed_of w (number one))) ≡ one =
    ap (bytes_of w) (twos-signed w (number one) (number_less w one long bytes))
    ∙ bytes_number w one long bytes in
    let others : body w (coefficients_at w k (drop w bs)) ≡ take (k * w) (drop w bs) = body-coefficients w k (drop w bs)
    (rw length-drop (omega arith)) (bytes_drop w bs p) in
    let sum : suc k * w ≡ w + k * w = omega (arith, suc-mul k w) in
    rw (first, others, sum, take-add w (k * w) bs)
