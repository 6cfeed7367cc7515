-- F(n) and I(n) read backwards, for n above 1: F(n) is its own mirror (`mirror-F`), and I(n) the negative of its own
-- (`mirror-I`). F(1) = z - 1 changes its sign; from one prime to the next that sign cancels. Coefficient by coefficient
-- that is `mirrored` and, with n = 1 in it, `mirrored_any`.
use Rattle.std.specs.Prelude.{ℕ, ◌*◌, ◌-◌, ◌≤◌, ◌<◌, ◌≡◌, refl, Bool, true, false, cond, ◌≢◌, [], ◌∷◌, ℤ, eqb, ltb}
use Rattle.std.specs.Int.{◌∣◌}
use Rattle.std.proofs.Common.{sym, ◌∙◌, ap, ap₂, arith, eq-eqb, ne_eqb, lt-ltb}
use Rattle.std.proofs.Math.Nat as NatL
use Rattle.std.proofs.Math.Decide.{dec_dvd, ℕ_discrete}
use Rattle.definitions.specs.Integers.{⊖, 0ℤ}
use Rattle.definitions.specs.Series.{◌·◌, _ˢ, spread}
use Rattle.definitions.specs.Numbers.{phi}
use Rattle.definitions.specs.Polynomials.{z^_1, F, I, polynomial, degree}
use Rattle.definitions.specs.Halves.{negates}
use Rattle.integers.specs.Solver.{:1, ◌:*◌, :-, x, y}
use Rattle.integers.specs.Whole.{⊖-zero, ringℤ}
use Rattle.series.specs.Laws.{at__ˢ, cancel, ·_comm, ringˢ}
use Rattle.series.specs.Maps.{off_z^}
use Rattle.series.specs.Degree.{z^_1_at, monic_z^_1}
use Rattle.series.specs.Mirror.{mirror, mirror_in, is_mirror, mirror-mul, mirror-spread}
use Rattle.numbers.specs.Primes.{Prime, prime_pos, by-primes}
use Rattle.numbers.specs.Phi.{phi-old, phi_new, phi-one, phi-le}
use Rattle.cyclotomic.specs.Family.{F-one, z^_1_zero, unit_F, pair_law}
use Rattle.cyclotomic.specs.OnePrime.{prime_old, prime_new}
use Rattle.cyclotomic.specs.Degrees.{monic_F, monic_I}
use Rattle.cyclotomic.specs.Signs.{Signed, signed, unsigned, minus_one, sign-step}

-- z^n - 1 backwards is 1 - z^n
mirror-z^_1 : (n : ℕ) → 0 < n → mirror n (z^_1 n) ≡ _ˢ (z^_1 n)
mirror-z^_1 n l =
    is_mirror n (z^_1 n) (_ˢ (z^_1 n)) (λ i h. at__ˢ (z^_1 n) i ∙ low i h (ℕ_discrete i 0) (ℕ_discrete i n))
    (λ i h. at__ˢ (z^_1 n) i ∙ ap ⊖ ((monic_z^_1 n l).above i h) ∙ ⊖-zero)
  where
    inside : (i : ℕ) → i ≢ 0 → i ≢ n → z^_1 n i ≡ 0ℤ
    inside i a b = z^_1_at n i (NatL.pos_of_ne-zero a) ∙ off_z^ n i b

    low : (i : ℕ) → i ≤ n → Dec (i ≡ 0) → Dec (i ≡ n) → ⊖ (z^_1 n i) ≡ z^_1 n (n - i)
    low i h (yes e) b =
        let last : n ≡ n - i = omega arith in
        ap ⊖ (ap (z^_1 n) e ∙ z^_1_zero n l) ∙ ringℤ [] (:- (:- :1)) :1 refl ∙ sym (monic_z^_1 n l).top
        ∙ ap (z^_1 n) last
    low i h (no a) (yes e) =
        let first : 0 ≡ n - i = omega arith in
        ap ⊖ (ap (z^_1 n) e ∙ (monic_z^_1 n l).top) ∙ sym (z^_1_zero n l) ∙ ap (z^_1 n) first
    low i h (no a) (no b) = ap ⊖ (inside i a b) ∙ ⊖-zero
        ∙ sym (inside (n - i) (λ e. b (omega arith)) (λ e. a (omega arith)))

sign-F : (n : ℕ) → 0 < n → Signed n (mirror (phi n) (F n)) (F n)
sign-F = by-primes (λ n. Signed n (mirror (phi n) (F n)) (F n))
    (minus_one (ap₂ mirror phi-one F-one ∙ mirror-z^_1 1 (omega arith) ∙ ap _ˢ (sym F-one))) next
  where
    next : (n p : ℕ) → 0 < n → Prime p → Signed n (mirror (phi n) (F n)) (F n)
        → Signed (n * p) (mirror (phi (n * p)) (F (n * p))) (F (n * p))
    next n p l P s = go (dec_dvd p n)
      where
        mirrors : mirror (p * phi n) (spread p (F n)) ≡ spread p (mirror (phi n) (F n))
        mirrors = ap (λ k. mirror k (spread p (F n))) (NatL.mul_comm p (phi n))
            ∙ sym (mirror-spread p (phi n) (F n) (prime_pos P))

        not-one : p ∣ n → n ≢ 1
        not-one d e = omega (arith, P.above, NatL.eq-one_of_dvd-one (rw e at d))

        go : Dec (p ∣ n) → Signed (n * p) (mirror (phi (n * p)) (F (n * p))) (F (n * p))
        go (yes d) =
            signed
            (ap₂ mirror (phi-old n p P d) (prime_old p P n l d) ∙ mirrors ∙ ap (spread p) (unsigned s (not-one d))
            ∙ sym (prime_old p P n l d))
        go (no d) =
            signed
            (sign-step n p (prime_pos P) (mirror (phi n) (F n)) (mirror (phi (n * p)) (F (n * p))) (F n) (F (n * p))
            (unit_F n)
            (sym (mirror-mul (phi (n * p)) (phi n) (F (n * p)) (F n)
            (monic_F (n * p) (NatL.mul-pos l (prime_pos P))).above (monic_F n l).above)
            ∙ ap₂ mirror (phi_new n p P d) (prime_new p P n l d) ∙ mirrors)
            (prime_new p P n l d) s)

pub mirror-F : (n : ℕ) → 1 < n → mirror (phi n) (F n) ≡ F n
mirror-F n l = unsigned (sign-F n (omega arith)) (λ e. omega arith)

pub mirror-I : (n : ℕ) → 1 < n → mirror (n - phi n) (I n) ≡ _ˢ (I n)
mirror-I n l =
    cancel (mirror (n - phi n) (I n)) (_ˢ (I n)) (F n) (unit_F n)
    (ap (λ q. mirror (n - phi n) (I n) · q) (sym (mirror-F n l))
    ∙ sym (mirror-mul (n - phi n) (phi n) (I n) (F n) (monic_I n (omega arith)).above (monic_F n (omega arith)).above)
    ∙ ap₂ mirror (NatL.sub-add_cancel (phi-le n)) (·_comm (I n) (F n) ∙ pair_law n)
    ∙ mirror-z^_1 n (omega arith) ∙ ap _ˢ (sym (pair_law n))
    ∙ ringˢ (F n ∷ I n ∷ []) (:- (x :* y)) (:- y :* x) refl)

-- the sign of a mirrored coefficient
unfoldable pub turned : ℕ → ℤ → ℤ
turned kind a = cond (eqb kind 1) a (⊖ a)

-- entry N - i is entry i, for I its negative
pub mirrored : (kind n : ℕ) → 1 < n → (i : ℕ) → i ≤ degree kind n → polynomial kind n (degree kind n - i)
    ≡ turned kind (polynomial kind n i)
unfolding degree polynomial turned
mirrored kind n l i = go (eqb kind 1)
  where
    go : (b : Bool) → i ≤ cond b (phi n) (n - phi n) → cond b (F n) (I n) (cond b (phi n) (n - phi n) - i)
        ≡ cond b (cond b (F n) (I n) i) (⊖ (cond b (F n) (I n) i))
    go true h = sym (mirror_in (phi n) (F n) i h) ∙ ap (λ q. q i) (mirror-F n l)
    go false h = sym (mirror_in (n - phi n) (I n) i h) ∙ ap (λ q. q i) (mirror-I n l) ∙ at__ˢ (I n) i

first_mirrored : (i : ℕ) → i ≤ 1 → z^_1 1 (1 - i) ≡ ⊖ (z^_1 1 i)
first_mirrored i h =
    sym (mirror_in 1 (z^_1 1) i h) ∙ ap (λ q. q i) (mirror-z^_1 1 (omega arith)) ∙ at__ˢ (z^_1 1) i

-- of 1 too: F(1) = z - 1 and I(n) above 1 change their sign when they are mirrored
pub mirrored_any : (kind n : ℕ) → 0 < n → (i : ℕ) → i ≤ degree kind n → polynomial kind n (degree kind n - i)
    ≡ cond (negates kind n) (⊖ (polynomial kind n i)) (polynomial kind n i)
unfolding negates turned degree polynomial
mirrored_any kind n pos i = go (ℕ_discrete n 1)
  where
    above : (b : Bool) (v : ℤ) → cond b v (⊖ v) ≡ cond (cond b false true) (⊖ v) v
    above true v = refl
    above false v = refl

    one : (b : Bool) → i ≤ cond b (phi 1) (1 - phi 1) → cond b (F 1) (I 1) (cond b (phi 1) (1 - phi 1) - i)
        ≡ cond (cond b true false) (⊖ (cond b (F 1) (I 1) i)) (cond b (F 1) (I 1) i)
    one true h = rw (F-one, phi-one) (first_mirrored i (rw phi-one at h))
    one false h = ap (I 1) (omega (arith, phi-one))

    go : Dec (n ≡ 1) → i ≤ cond (eqb kind 1) (phi n) (n - phi n)
        → cond (eqb kind 1) (F n) (I n) (cond (eqb kind 1) (phi n) (n - phi n) - i)
        ≡ cond (cond (eqb kind 1) (eqb n 1) (ltb 1 n)) (⊖ (cond (eqb kind 1) (F n) (I n) i))
        (cond (eqb kind 1) (F n) (I n) i)
    go (yes e) h = rw (e, eq-eqb 1 1 refl) (one (eqb kind 1) (rw e at h))
    go (no u) h =
        mirrored kind n (omega arith) i h
        ∙ rw (ne_eqb n 1 u, lt-ltb 1 n (omega arith)) (above (eqb kind 1) (cond (eqb kind 1) (F n) (I n) i))
