-- The trial division, step by step: factors taken out of n; the primes found up to k and what is left, at k + 1; and
-- what is left when p p is more: 1, or the last prime.
use Prim.Native.Nat.{ℕ, suc, ◌+◌, ◌*◌, ◌-◌, ◌/◌, ◌%◌, ◌≤◌, ◌<◌, ◌∣◌}
use mathlib.Core.Path.{◌≡◌, sym, subst, ap, ◌∙◌}
use mathlib.Core.Logic.{◌≢◌, ◌⊎◌, inl, inr, ⊎_elim}
use mathlib.Core.Bool.{true, false}
use mathlib.Core.List.{[], ◌∷◌}
use native.Mathlib.Decide.{ℕ_discrete}
use native.Mathlib.Nat.{eq-or-lt_of_le, one-mul, le_trans, not-le_of_lt, mul-le-mul, add-sub_of_le, dvd_antisymm}
use native.Mathlib.Nat.{le_antisymm, le_of_dvd, pos_of_dvd_of_pos, dvd_refl, dvd_trans, dvd_of_mod-eq-zero}
use native.Mathlib.Nat.{mod-eq-zero_of_dvd, div-mul_cancel}
use native.Mathlib.Omega.{arith}
use Rattle.numbers.specs.Primes.{two_or_odd, Prime, prime_divisor, prime_same, euclid, quotient-divides, quotient-pos}
use Rattle.sieve.specs.Sieving.{Taking, Without, Sifted, with_prime, odd_to}
use Rattle.sieve.specs.declared.OddPrimes.{OddPrimes}
use Rattle.sieve.proofs.Odds.{odd-fields, odd_none, odd_more, odd_same, odd-further, odd_all}
use Rattle.sieve.specs.declared.Sieve.{Sieve}
use Rattle.definitions.specs.Numbers.{odd_prime_of}
use Rattle.numbers.specs.Tests.{denies}
use Rattle.numbers.specs.Apart.{test_odd_prime}

pub taking_start : (n p : ℕ) → 0 < n → Taking n p n
taking_start n p l = record { pos = l; part = dvd_refl n; kept = λ q Q d u. d }

pub taking_step : (n p x : ℕ) → Prime p → Taking n p x → x % p ≡ 0 → Taking n p (x / p)
taking_step n p x P t e =
    record {
      pos = quotient-pos p x t.pos d;
      part = dvd_trans (x / p) (quotient-divides p x d) t.part;
      kept =
          λ q Q h u.
          ⊎_elim (λ k. k) (λ k. absurd (u (prime_same Q P k)))
          (euclid (x / p) p Q (rw (div-mul_cancel p d) (t.kept q Q h u)));
    }
  where
    d : p ∣ x
    d = dvd_of_mod-eq-zero p e

-- p looked at, when the odd primes up to k, the number before p, are found
pub record Look (n k p : ℕ) (s : Sieve) : Type 0 where
  pub prime : s.rest % p ≡ 0 → Prime p
  pub room :
      s.rest % p ≡ 0
      → (s.odd.count < 5) × (s.odd.product * p ≤ 65535) × (s.odd.free * (p - 1) ≤ 65535) × (0 < p)
  pub hit :
      (o : OddPrimes) (x : ℕ)
      → s.rest % p ≡ 0
      → o ≡ with_prime s.odd p
      → Without s.rest p x
      → Sifted n p (record { odd = o; rest = x })
  pub miss : ¬ (s.rest % p ≡ 0) → Sifted n p s

module _ (n : ℕ) (l : 0 < n) (u : n ≤ 65535) (k : ℕ) (s : Sieve) (f : Sifted n k s) where
  next_prime : 0 < k → suc k ∣ s.rest → Prime (suc k)
  next_prime a d = record { above = omega arith; only = λ c h. go c h (ℕ_discrete c 1) }
    where
      go : (c : ℕ) → c ∣ suc k → Dec (c ≡ 1) → (c ≡ 1) ⊎ (c ≡ suc k)
      go c h (yes e) = inl e
      go c h (no v) =
          let pos : 0 < c = pos_of_dvd_of_pos h (omega arith) in
          let (q, Q, x) = prime_divisor c (omega arith) in
          let y : q ∣ suc k = dvd_trans q x h in
          let same : q ≡ suc k = le_antisymm (le_of_dvd (omega arith) y) (f.above q Q (dvd_trans q y d)).0 in
          inr (dvd_antisymm h (rw same at x))

  next_odd : 0 < k → suc k ∣ s.rest → odd_prime_of n (suc k) ≡ true
  next_odd a d =
      let P : Prime (suc k) = next_prime a d in
      (test_odd_prime n (suc k)).says ((P, dvd_trans (suc k) d f.part), (f.above (suc k) P d).1)

  found-hit :
      (o : OddPrimes) (x : ℕ)
      → odd_prime_of n (suc k) ≡ true
      → o ≡ with_prime s.odd (suc k)
      → Without s.rest (suc k) x
      → Sifted n (suc k) (record { odd = o; rest = x })
  found-hit o x e h w =
      record {
        found = h ∙ (ap (λ a. with_prime a (suc k)) f.found ∙ sym (odd_more n l u k e));
        pos = w.taking.pos;
        part = dvd_trans x w.taking.part f.part;
        above = λ q Q d. (further q Q d, (f.above q Q (dvd_trans q d w.taking.part)).1);
        kept = λ q Q d v a. w.taking.kept q Q (f.kept q Q d v (omega arith)) (λ y. omega arith);
      }
    where
      further : (q : ℕ) → Prime q → q ∣ x → suc k < q
      further q Q d =
          let other : q ≢ suc k = λ y. w.gone (rw y at d) in
          omega (arith, (f.above q Q (dvd_trans q d w.taking.part)).0)

  -- the next number is no prime of what is left
  pub passed : (Prime (suc k) → ¬ (suc k ∣ s.rest)) → Sifted n (suc k) s
  passed v =
      record {
        found = f.found
            ∙ sym (odd_same n l u k
            (denies (test_odd_prime n (suc k))
            (λ h. v h.0.0 (f.kept (suc k) h.0.0 h.0.1 h.1 (omega arith)))));
        pos = f.pos;
        part = f.part;
        above =
            λ q Q d. (
              let other : q ≢ suc k = λ y. v (rw y at Q) (rw y at d) in omega (arith, (f.above q Q d).0),
              (f.above q Q d).1,
            );
        kept = λ q Q d w a. f.kept q Q d w (omega arith);
      }

  look : 0 < k → Look n k (suc k) s
  look a =
      record {
        prime = λ e. next_prime a (dvd_of_mod-eq-zero (suc k) e);
        room = λ e. odd-fields n l u k (next_odd a (dvd_of_mod-eq-zero (suc k) e)) s.odd f.found;
        hit = λ o x e. found-hit o x (next_odd a (dvd_of_mod-eq-zero (suc k) e));
        miss = λ v. passed (λ P d. v (mod-eq-zero_of_dvd (suc k) d));
      }

pub look_at :
    (n : ℕ) → 0 < n → n ≤ 65535 → (p : ℕ) (s : Sieve) → 1 < p → Sifted n (p - 1) s → Look n (p - 1) p s
look_at n l u p s a f = rw whole at (look n l u (p - 1) s f (omega arith))
  where
    whole : suc (p - 1) ≡ p
    whole = omega arith

-- an even number above 2 is passed
pub passed-even :
    (n : ℕ) → 0 < n → n ≤ 65535 → (k : ℕ) (s : Sieve) → 2 < k → k % 2 ≡ 1 → Sifted n k s → Sifted n (suc k) s
passed-even n l u k s a e f = passed n l u k s f (λ P d. ⊎_elim (λ y. omega arith) (λ y. omega arith) (two_or_odd P))

-- 1 and 2 are no odd primes, so all the odd primes of n are those of n without its factors 2
pub sifted-start :
    (n x : ℕ)
    → 0 < n
    → n ≤ 65535
    → Without n 2 x
    → Sifted n 2
    (record { odd = record { primes = 0 ∷ 0 ∷ 0 ∷ 0 ∷ 0 ∷ []; count = 0; product = 1; free = 1 }; rest = x })
sifted-start n x l u w =
    record {
      found = sym (odd-further n l u 0 2 small ∙ odd_none n l u);
      pos = w.taking.pos;
      part = w.taking.part;
      above = λ q Q d. let other : q ≢ 2 = λ y. w.gone (rw y at d) in (omega (arith, Q.above), other);
      kept = λ q Q d v a. w.taking.kept q Q d v;
    }
  where
    small : (d : ℕ) → 0 < d → d ≤ 0 + 2 → odd_prime_of n d ≡ false
    small d a b = denies (test_odd_prime n d) (λ h. omega (arith, h.0.0.above, h.1))

-- what is left when p p is more: 1, and all odd primes are found; or the last of them
pub record Last (n : ℕ) (s : Sieve) : Type 0 where
  pub none : s.rest ≤ 1 → s.odd ≡ odd_to n n
  pub room :
      1 < s.rest
      → (s.odd.count < 5) × (s.odd.product * s.rest ≤ 65535) × (s.odd.free * (s.rest - 1) ≤ 65535)
      × (0 < s.rest)
  pub one : 1 < s.rest → with_prime s.odd s.rest ≡ odd_to n n

module _ (n : ℕ) (l : 0 < n) (u : n ≤ 65535) (k : ℕ) (s : Sieve) (f : Sifted n k s) where
  rest_prime : s.rest < suc k * suc k → 1 < s.rest → Prime s.rest
  rest_prime small a =
      ⊎_elim itself (λ b. absurd (too_large b)) (eq-or-lt_of_le (quotient-pos q s.rest f.pos w.2))
    where
      w : (x : ℕ) × Prime x × (x ∣ s.rest)
      w = prime_divisor s.rest a

      q : ℕ
      q = w.0

      whole : s.rest / w.0 * w.0 ≡ s.rest
      whole = div-mul_cancel w.0 w.2

      itself : 1 ≡ s.rest / w.0 → Prime s.rest
      itself e = subst Prime (sym (one-mul w.0) ∙ (ap (λ x. x * w.0) e ∙ whole)) w.1

      too_large : ¬ (1 < s.rest / w.0)
      too_large b =
          let v : (x : ℕ) × Prime x × (x ∣ s.rest / w.0) = prime_divisor (s.rest / w.0) b in
          let c : suc k ≤ s.rest / w.0 =
          le_trans (f.above v.0 v.1 (dvd_trans v.0 v.2 (quotient-divides w.0 s.rest w.2))).0
          (le_of_dvd (omega arith) v.2) in
          not-le_of_lt small (rw whole at (mul-le-mul c (f.above w.0 w.1 w.2).0))

  rest-one : s.rest ≤ 1 → s.odd ≡ odd_to n n
  rest-one h =
      f.found
      ∙ odd_all n l u k
      (λ d a. denies (test_odd_prime n d)
      (λ w. omega (arith, w.0.0.above, le_of_dvd f.pos (f.kept d w.0.0 w.0.1 w.1 a))))

  module _ (j : ℕ) (e : s.rest ≡ suc j) (P : Prime (suc j)) where
    last_odd : odd_prime_of n (suc j) ≡ true
    last_odd =
        (test_odd_prime n (suc j)).says ((P, rw e at f.part), (f.above (suc j) P (rw e (dvd_refl (suc j)))).1)

    up_to_last : s.odd ≡ odd_to n j
    up_to_last = f.found ∙ sym (rw (add-sub_of_le here) at (odd-further n l u k (j - k) between))
      where
        here : k ≤ j
        here = omega (arith, (f.above (suc j) P (rw e (dvd_refl (suc j)))).0)

        between : (d : ℕ) → k < d → d ≤ k + (j - k) → odd_prime_of n d ≡ false
        between d a b =
            denies (test_odd_prime n d)
            (λ h. omega (arith, prime_same h.0.0 P (rw e at (f.kept d h.0.0 h.0.1 h.1 a))))

    last_all : with_prime s.odd (suc j) ≡ odd_to n n
    last_all =
        ap (λ o. with_prime o (suc j)) up_to_last
        ∙ (sym (odd_more n l u j last_odd) ∙ odd_all n l u (suc j) none_above)
      where
        none_above : (d : ℕ) → suc j < d → odd_prime_of n d ≡ false
        none_above d a =
            denies (test_odd_prime n d)
            (λ h. omega (
              arith,
              le_of_dvd f.pos
                  (f.kept d h.0.0 h.0.1 h.1
                  (omega (arith, (f.above (suc j) P (rw e (dvd_refl (suc j)))).0))),
            ))

pub last_of :
    (n : ℕ) → 0 < n → n ≤ 65535 → (p : ℕ) (s : Sieve) → 1 < p → Sifted n (p - 1) s → s.rest < p * p → Last n s
last_of n l u p s a f small =
    record {
      none = rest-one n l u (p - 1) s f;
      room =
          λ b. subst (λ x. (s.odd.count < 5) × (s.odd.product * x ≤ 65535) × (s.odd.free * (x - 1) ≤ 65535)
          × (0 < x)) (sym e)
          (odd-fields n l u j (last_odd n l u (p - 1) s f j e (prime b)) s.odd
          (up_to_last n l u (p - 1) s f j e (prime b)));
      one = λ b. subst (λ x. with_prime s.odd x ≡ odd_to n n) (sym e) (last_all n l u (p - 1) s f j e (prime b));
    }
  where
    j : ℕ
    j = s.rest - 1

    e : s.rest ≡ suc (s.rest - 1)
    e = omega (arith, f.pos)

    whole : p ≡ suc (p - 1)
    whole = omega arith

    prime : 1 < s.rest → Prime (suc (s.rest - 1))
    prime b = subst Prime e (rest_prime n l u (p - 1) s f (subst (λ x. s.rest < x * x) whole small) b)
