-- F(n) is monic of degree phi(n) (`monic_F`), and I(n) of degree n - phi(n) (`monic_I`): from one prime to the next,
-- degrees multiply by p where z^p is put for z, and phi does the same.
use Rattle.std.specs.Prelude.{ℕ, ◌*◌, ◌-◌, ◌/◌, ◌<◌, ◌≡◌, Bool, cond, true, false, eqb}
use Rattle.std.specs.Int.{◌∣◌}
use Rattle.std.proofs.Common.{sym, ◌∙◌, ap, arith}
use Rattle.std.proofs.Math.Nat as NatL
use Rattle.std.proofs.Math.Decide.{dec_dvd}
use Rattle.definitions.specs.Series.{spread}
use Rattle.definitions.specs.Numbers.{phi, m_of, t_of}
use Rattle.definitions.specs.Polynomials.{F, I, polynomial, degree}
use Rattle.definitions.specs.KeptHalf.{half_degree}
use Rattle.series.specs.Laws.{·_comm}
use Rattle.series.specs.Degree.{Monic, monic_spread, monic_div, monic_z^_1}
use Rattle.numbers.specs.Primes.{Prime, prime_pos, by-primes}
use Rattle.numbers.specs.Phi.{phi-old, phi_new, phi-one, phi-le, phi-lt, phi-pos}
use Rattle.numbers.specs.Apart.{m-times_t}
use Rattle.numbers.specs.PhiApart.{phi-m, phi-apart}
use Rattle.cyclotomic.specs.Family.{F-one, pair_law}
use Rattle.cyclotomic.specs.OnePrime.{prime_old, prime_new}
use Rattle.cyclotomic.specs.Finite.{finite_F, finite_I}

pub monic_F : (n : ℕ) → 0 < n → Monic (phi n) (F n)
monic_F = by-primes (λ n. Monic (phi n) (F n)) (rw (phi-one, F-one) (monic_z^_1 1 (omega arith))) next
  where
    next : (n p : ℕ) → 0 < n → Prime p → Monic (phi n) (F n) → Monic (phi (n * p)) (F (n * p))
    next n p l P a = go (dec_dvd p n)
      where
        spreads : Monic (phi n * p) (spread p (F n))
        spreads = monic_spread p (phi n) (F n) (prime_pos P) a

        go : Dec (p ∣ n) → Monic (phi (n * p)) (F (n * p))
        go (yes d) = rw (prime_old p P n l d, phi-old n p P d, NatL.mul_comm p (phi n)) spreads
        go (no d) =
            monic_div (F (n * p)) (F n) (phi (n * p)) (phi n) a
            (rw (prime_new p P n l d, phi_new n p P d, NatL.mul_comm p (phi n)) spreads)
            (finite_F (n * p) (NatL.mul-pos l (prime_pos P)))

pub monic_I : (n : ℕ) → 0 < n → Monic (n - phi n) (I n)
monic_I n l =
    monic_div (I n) (F n) (n - phi n) (phi n) (monic_F n l)
    (rw (·_comm (I n) (F n), pair_law n, NatL.sub-add_cancel (phi-le n)) (monic_z^_1 n l))
    (finite_I n l)

-- both kinds at once
pub monic : (kind n : ℕ) → 0 < n → Monic (degree kind n) (polynomial kind n)
unfolding degree polynomial
monic kind n l = go (eqb kind 1)
  where
    go : (b : Bool) → Monic (cond b (phi n) (n - phi n)) (cond b (F n) (I n))
    go true = monic_F n l
    go false = monic_I n l

-- the degree for n is t times that for m
pub degree-apart : (kind n : ℕ) → 0 < n → degree kind n ≡ degree kind (m_of n) * t_of n
unfolding degree
degree-apart kind n l = go (eqb kind 1)
  where
    phis : phi n ≡ phi (m_of n) * t_of n
    phis = phi-apart n l ∙ ap (λ k. k * t_of n) (sym (phi-m n))

    go : (b : Bool) → cond b (phi n) (n - phi n) ≡ cond b (phi (m_of n)) (m_of n - phi (m_of n)) * t_of n
    go true = phis
    go false = omega (arith, m-times_t n, phis, NatL.mul-sub (t_of n) (m_of n) (phi (m_of n)))

-- D lies below r
pub half_below : (kind r : ℕ) → 1 < r → half_degree kind r < r
unfolding half_degree degree
half_below kind r l = go (eqb kind 1)
  where
    go : (b : Bool) → cond b (phi r) (r - phi r) / 2 < r
    go true = omega (arith, phi-lt r l)
    go false = omega (arith, phi-pos r (omega arith))
