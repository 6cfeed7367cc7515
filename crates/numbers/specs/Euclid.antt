-- Euclid's algorithm as a derivation: `Gcd a b g` tells by which steps g is reached from a and b, so that a fact about
-- the greatest common divisor, of numbers or of what they index, is one induction on the derivation (`by_euclid`).
use Rattle.std.specs.Prelude.{ℕ, zero, suc, ◌+◌, ◌*◌, ◌-◌, ◌≤◌, ◌<◌, ◌≡◌, refl}
use Rattle.std.specs.Int.{◌∣◌}
use Rattle.std.proofs.Math.Nat.{dvd_refl, dvd-zero, dvd-add, dvd-add_iff_right, pos_of_dvd_of_pos}
use Rattle.std.proofs.Common.{mul-add, add-sub_of_le, arith}
use Rattle.std.proofs.Math.Decide.{dec_le}
use Rattle.numbers.specs.Tests.{strong}

pub data Gcd : ℕ → ℕ → ℕ → Type 0 where
  done : {a : ℕ} → Gcd a 0 a
  swap : {a b g : ℕ} → Gcd a b g → Gcd b a g
  plus : {a b g : ℕ} → Gcd a b g → Gcd a (a + b) g

pub by_euclid :
    (P : ℕ → ℕ → ℕ → Type 0)
    → ((a : ℕ) → P a 0 a)
    → ((a b g : ℕ) → P a b g → P b a g)
    → ((a b g : ℕ) → P a b g → P a (a + b) g)
    → {a b g : ℕ}
    → Gcd a b g
    → P a b g
by_euclid P d s p (done {a = a}) = d a
by_euclid P d s p (swap {a = a} {b = b} {g = g} r) = s a b g (by_euclid P d s p r)
by_euclid P d s p (plus {a = a} {b = b} {g = g} r) = p a b g (by_euclid P d s p r)

-- the derivation exists: by strong induction on the sum
abbrev Found : ℕ → ℕ → Type 0
Found a b = (g : ℕ) × Gcd a b g

one-step : (a b : ℕ) → a ≤ b → Found a (b - a) → Found a b
one-step a b l f = (f.0, rw (add-sub_of_le l) at (plus f.1))

swapped : (a b : ℕ) → Found a b → Found b a
swapped a b f = (f.0, swap f.1)

gcd_at : (s : ℕ) → ((m : ℕ) → m < s → (a b : ℕ) → a + b ≡ m → Found a b) → (a b : ℕ) → a + b ≡ s → Found a b
gcd_at s ih a zero e = (a, done)
gcd_at s ih zero (suc b) e = (suc b, swap done)
gcd_at s ih (suc a) (suc b) e = by_order (dec_le (suc a) (suc b))
  where
    by_order : Dec (suc a ≤ suc b) → Found (suc a) (suc b)
    by_order (yes l) = one-step (suc a) (suc b) l (ih (suc b) (omega arith) (suc a) (suc b - suc a) (omega arith))
    by_order (no n) =
        swapped (suc b) (suc a)
        (one-step (suc b) (suc a) (omega arith) (ih (suc a) (omega arith) (suc b) (suc a - suc b) (omega arith)))

pub gcd_of : (a b : ℕ) → (g : ℕ) × Gcd a b g
gcd_of a b = strong (λ s. (a b : ℕ) → a + b ≡ s → Found a b) gcd_at (a + b) a b refl

-- g divides both
pub gcd_divides : {a b g : ℕ} → Gcd a b g → (g ∣ a) × (g ∣ b)
gcd_divides =
    by_euclid (λ a b g. (g ∣ a) × (g ∣ b)) (λ a. (dvd_refl a, dvd-zero a)) (λ a b g h. (h.1, h.0))
    (λ a b g h. (h.0, dvd-add g h.0 h.1))

pub gcd_pos : {a b g : ℕ} → Gcd a b g → 0 < a → 0 < g
gcd_pos d = pos_of_dvd_of_pos (gcd_divides d).0

-- what divides c a and c b divides c g
pub gcd_greatest : {a b g : ℕ} → Gcd a b g → (c x : ℕ) → x ∣ c * a → x ∣ c * b → x ∣ c * g
gcd_greatest =
    by_euclid (λ a b g. (c x : ℕ) → x ∣ c * a → x ∣ c * b → x ∣ c * g) (λ a c x h k. h) (λ a b g ih c x h k. ih c x k h)
    (λ a b g ih c x h k. ih c x h ((dvd-add_iff_right x h).1 (rw mul-add at k)))
