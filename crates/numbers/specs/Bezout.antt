-- What is coprime to n has an inverse modulo n (`inverse`): each step of Euclid's derivation keeps both ways of writing
-- g, as a u - b v and as b u - a v.
use Rattle.std.specs.Prelude.{ℕ, zero, suc, ◌+◌, ◌*◌, ◌<◌, ◌≡◌}
use Rattle.std.proofs.Math.Nat as NatL
use Rattle.std.proofs.Common.{arith}
use Rattle.numbers.specs.Euclid.{Gcd, by_euclid, gcd_of, gcd_divides}
use Rattle.numbers.specs.Primes.{Coprime}

-- a u = g + b v
abbrev Writes : ℕ → ℕ → ℕ → Type 0
Writes a b g = (u : ℕ) × (v : ℕ) × (a * u ≡ g + b * v)

Both : ℕ → ℕ → ℕ → Type 0
Both a b g = (0 < b → Writes b a g) × (0 < a → Writes a b g)

one_more : (a b g : ℕ) → Both a b g → Both a (a + b) g
unfolding Both
one_more a zero g h = (
  λ l. let (u, v, e) = h.1 (omega arith) in (u, 0, omega arith),
  λ l. let (u, v, e) = h.1 l in
      (u + v, v, omega arith),
)
one_more a (suc b) g h = (
  λ l. let (u, v, e) = h.0 (omega arith) in (u, v + u, omega arith),
  λ l. let (u, v, e) = h.1 l in
      (u + v, v, omega arith),
)

bezout : {a b g : ℕ} → Gcd a b g → Both a b g
unfolding Both
bezout = by_euclid Both (λ a. (λ l. absurd (NatL.not-suc-le-zero l), λ l. (1, 0, omega arith)))
    (λ a b g h. (h.1, h.0)) one_more

pub inverse : (q n : ℕ) → 0 < q → Coprime q n → Writes q n 1
unfolding Both
inverse q n l h = let w = gcd_of q n in
    rw (h w.0 (gcd_divides w.1).0 (gcd_divides w.1).1) at ((bezout w.1).1 l)
