-- A whole number in two parts: v = m q + r, where q is v / m rounded down, as a signed shift has it, and r, from 0 to
-- m - 1, is the rest. By the sign of v; a number and the part above its rest have one sign.
use Rattle.std.specs.Prelude.{◌≡◌, refl, ℕ, zero, suc, ◌+◌, ◌*◌, ◌-◌, ◌/◌, ◌%◌, ◌<◌, ◌≤◌, ℤ, pos, negsuc, neg_ℤ, ◌+ℤ◌}
use Rattle.std.proofs.Common.{sym, ◌∙◌, ap, div-add-mod', mod-lt, div-lt_iff_lt-mul, suc-mul, arith, lt-ltb}
use Rattle.std.specs.Int.Signed.{mag, shr_z}
use Rattle.definitions.specs.Integers.{◌⊕◌, ◌⊗◌}

-- 2^32, and 2^22
abbrev pub half : ℕ
half = 4294967296

abbrev pub base : ℕ
base = 4194304

unfoldable pub rest : ℕ → ℤ → ℕ
rest m (pos n) = n % m
rest m (negsuc n) = m - suc (n % m)

pub rest_below : (m : ℕ) → 1 ≤ m → (v : ℤ) → rest m v < m
unfolding rest
rest_below m h (pos n) = mod-lt n h
rest_below m h (negsuc n) = omega arith

below_zero : (a r n : ℕ) → a ≡ r + suc n → neg_ℤ (pos a) +ℤ pos r ≡ negsuc n
below_zero zero r n e = absurd (omega arith)
below_zero (suc a) r n e = rw (lt-ltb r (suc a) (omega arith)) (ap negsuc (omega arith))

-- two parts put together
pub joined_pos : (m n d : ℕ) → pos n ⊗ pos m ⊕ pos d ≡ pos (n * m + d)
unfolding ◌⊕◌ ◌⊗◌
joined_pos m n d = refl

pub joined_neg : (m n d : ℕ) → d < m → negsuc n ⊗ pos m ⊕ pos d ≡ negsuc (n * m + (m - suc d))
unfolding ◌⊕◌ ◌⊗◌
joined_neg m n d h = below_zero (suc n * m) d (n * m + (m - suc d)) (omega (arith, suc-mul n m))

pub split : (m : ℕ) → 1 ≤ m → (v : ℤ) → v ≡ shr_z v m ⊗ pos m ⊕ pos (rest m v)
unfolding rest
split m h (pos n) = sym (joined_pos m (n / m) (n % m) ∙ ap pos (div-add-mod' n m))
split m h (negsuc n) =
    sym (joined_neg m (n / m) (m - suc (n % m)) (omega (arith, mod-lt n h))
    ∙ ap negsuc (omega (arith, div-add-mod' n m, mod-lt n h)))

-- how large the parts are
pub mag_above : (m k : ℕ) → 1 ≤ m → (v : ℤ) → mag v < k * m → mag (shr_z v m) < k
mag_above m k h (pos n) l = (div-lt_iff_lt-mul h).1 l
mag_above m k h (negsuc n) l = (div-lt_iff_lt-mul h).1 l

module _ (m : ℕ) (v : ℤ) (d : ℕ) (h : d < m) where
  pub joined_least : mag v * m ≤ mag (v ⊗ pos m ⊕ pos d)
  joined_least = go v
    where
      go : (v : ℤ) → mag v * m ≤ mag (v ⊗ pos m ⊕ pos d)
      go (pos n) = rw (joined_pos m n d) (omega arith)
      go (negsuc n) = rw (joined_neg m n d h) (omega arith)

  pub joined_most : mag (v ⊗ pos m ⊕ pos d) < suc (mag v) * m
  joined_most = go v
    where
      go : (v : ℤ) → mag (v ⊗ pos m ⊕ pos d) < suc (mag v) * m
      go (pos n) = rw (joined_pos m n d) (omega (arith, suc-mul n m))
      go (negsuc n) = rw (joined_neg m n d h) (omega (arith, suc-mul n m))

-- d is a rest of division by m
pub record Rest (m : ℕ) (d : ℤ) : Type 0 where
  pub size : ℕ
  pub below : size < m
  pub is : d ≡ pos size
