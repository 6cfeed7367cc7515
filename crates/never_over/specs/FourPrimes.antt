-- Up to four odd primes, in closed form: no value that a step of r makes is above `reach`, by the number k of r's
-- primes and any p of them (`held_to_reach`). Left out is the accumulate of 1 or, where 1 has a comb, that of p, whose
-- mu is the other one; the sizes of all others are as `Sizes` has them.
use Rattle.std.specs.Prelude.{ℕ, zero, suc, ◌*◌, ◌/◌, ◌%◌, ◌^◌, ◌<◌, ◌≤◌, ◌≡◌, Bool, true, false, not, eqb}
use Rattle.std.specs.Int.{◌∣◌}
use Rattle.std.proofs.Math.Path.{refl}
use Rattle.std.proofs.Common.{sym, ◌∙◌, ap, ⊎_elim, one-mul, mul_comm, mul_assoc, mul_left_comm, mul_right_comm, le_of_mul-le-mul_right, pow-suc, div-one, eq-or-lt_of_le, arith, ne_eqb, eq-eqb}
use Rattle.std.proofs.Math.Bool.{cond, not-not}
use Rattle.std.proofs.Math.Nat.{pow-zero, div-mul_cancel, div_self, le_of_dvd, one-dvd, dvd_refl, mul-dvd-mul}
use Rattle.definitions.specs.Numbers.{mu_is_plus, k_of, primes_of, count_to, is_prime}
use Rattle.definitions.specs.Steps.{accumulate}
use Rattle.definitions.specs.KeptHalf.{sort_of, term_of, term}
use Rattle.numbers.specs.Tests.{divides_yes}
use Rattle.numbers.specs.Primes.{Prime, prime_pos, quotient-pos}
use Rattle.numbers.specs.HowMany.{mu_times, mu_k, k_times, k_one}
use Rattle.numbers.specs.Products.{prime_not-one}
use Rattle.numbers.specs.Apart.{OddSquarefree}
use Rattle.never_over.specs.Stops.{Held}
use Rattle.never_over.specs.Sizes.{combs, size_of, sizes, mul-pow, One, More, closed, by_closed}
use Rattle.never_over.specs.LeftOut.{held_without}

-- the bound, by the number of primes; the last is that of four
unfoldable pub reach : Bool → ℕ → ℕ → ℕ → ℕ
reach first k p r =
    cond (eqb k 1) (cond first 1 2)
    (cond (eqb k 2) (cond first (2 * p) 4)
    (cond (eqb k 3) (cond first (8 * r) (16 * p * r))
    (cond first (128 * p * r ^ 3) (256 * r ^ 3))))

-- ---- the closed form at two, three and four primes: (4 r)^(2^(k-2)), times p or 1 for what is left out, is the bound
-- times r, and times 2 for the comb of r itself that F has
power : (r t : ℕ) → (4 * r) ^ suc t ≡ 4 ^ suc t * (r ^ t * r)
power r t = mul-pow 4 r (suc t) ∙ ap (λ x. 4 ^ suc t * x) (pow-suc r t)

two : (f : Bool) (p r : ℕ) → (4 * r) ^ (2 ^ 0) * cond (combs f true) p 1 ≤ cond f (2 * p) 4 * (r * cond f 2 1)
two true p r = rw (power r 0, pow-zero r, one-mul r) (simp (mul_assoc, mul_comm) (omega arith))
two false p r = rw (power r 0, pow-zero r, one-mul r) (simp (mul_assoc, mul_comm) (omega arith))

three : (f : Bool) (p r : ℕ) → (4 * r) ^ (2 ^ 1) * cond (combs f false) p 1
    ≤ cond f (8 * r) (16 * p * r) * (r * cond f 2 1)
three true p r = rw (power r 1, pow-suc r 0, pow-zero r, one-mul r) (simp (mul_assoc, mul_comm) (omega arith))
three false p r = rw (power r 1, pow-suc r 0, pow-zero r, one-mul r) (simp (mul_assoc, mul_comm) (omega arith))

four : (f : Bool) (p r : ℕ) → (4 * r) ^ (2 ^ 2) * cond (combs f true) p 1
    ≤ cond f (128 * p * r ^ 3) (256 * r ^ 3) * (r * cond f 2 1)
four true p r = rw (power r 3) (simp (mul_assoc, mul_comm, mul_left_comm) (omega arith))
four false p r = rw (power r 3) (simp (mul_assoc, mul_comm, mul_left_comm) (omega arith))

-- ---- what is left out
combs-not : (f m : Bool) → combs f (not m) ≡ not (combs f m)
combs-not true m = refl
combs-not false m = refl

last_size : (f : Bool) → size_of f 1 ≡ cond f 2 1
unfolding size_of mu_is_plus primes_of count_to is_prime
last_size true = refl
last_size false = refl

module _ (kind r : ℕ) (O : OddSquarefree r) (above : 1 < r) where
  abbrev first : Bool
  first = eqb kind 1

  accumulates_at : (d : ℕ) → combs first (mu_is_plus (r / d)) ≡ false → term kind r d ≡ term_of accumulate d
  unfolding term sort_of
  accumulates_at d e = rw e refl

  size_at_lem : (d : ℕ) → combs first (mu_is_plus (r / d)) ≡ false → size_of first (r / d) ≡ r / d
  unfolding size_of
  size_at_lem d e = rw e refl

  -- leaving out e, which accumulates
  held_by :
      (w e s : ℕ) → 0 < e → e ∣ r → e < r → combs first (mu_is_plus (r / e)) ≡ false → sizes first r ≡ s
      → s * e ≤ w * (r * cond first 2 1) → Held w kind r
  held_by w e s pos in-r below acc size h =
      held_without kind r above e pos in-r (λ l. accumulates_at e acc) w
      (le_of_mul-le-mul_right {k = e}
      (rw (
        divides_yes e r in-r,
        size_at_lem e acc,
        ne_eqb r e (λ (x : r ≡ e). omega arith),
        divides_yes r r (dvd_refl r),
        div_self O.pos,
        last_size first,
        size,
        mul_assoc w (r / e * cond first 2 1) e,
        mul_right_comm (r / e) (cond first 2 1) e,
        div-mul_cancel e in-r,
      ) h)
      pos)

  -- leaving out 1 or, where 1 has a comb, p
  abbrev left_out : ℕ → ℕ
  left_out p = cond (combs first (eqb (k_of r % 2) 0)) p 1

  module _ (p : ℕ) (P : Prime p) (in-r : p ∣ r) where
    mu_at_p : mu_is_plus (r / p) ≡ not (mu_is_plus r)
    mu_at_p =
        sym (not-not (mu_is_plus (r / p)))
        ∙ ap not (sym (mu_times (r / p) p (quotient-pos p r O.pos in-r) P once))
        ∙ ap (λ x. not (mu_is_plus x)) (div-mul_cancel p in-r)
      where
        once : ¬ (p ∣ r / p)
        once h = O.squarefree p P (rw (div-mul_cancel p in-r) at (mul-dvd-mul p p h (dvd_refl p)))

    held_leaving : p < r → (w s : ℕ) → sizes first r ≡ s → s * left_out p ≤ w * (r * cond first 2 1) → Held w kind r
    held_leaving below w s size = go (combs first (eqb (k_of r % 2) 0)) refl
      where
        go : (c : Bool) → combs first (eqb (k_of r % 2) 0) ≡ c → s * cond c p 1 ≤ w * (r * cond first 2 1)
            → Held w kind r
        go true e h =
            held_by w p s (prime_pos P) in-r below (rw (mu_at_p, combs-not first (mu_is_plus r), mu_k r O, e) refl) size h
        go false e h = held_by w 1 s (omega arith) (one-dvd r) above (rw (div-one r, mu_k r O, e) refl) size h

    -- two primes or more: p is not all of r
    below_r : 2 ≤ k_of r → p < r
    below_r many =
        ⊎_elim (λ e. absurd (omega (arith, many, alone, ap k_of e))) (λ l. l) (eq-or-lt_of_le (le_of_dvd O.pos in-r))
      where
        alone : k_of p ≡ 1
        alone =
            ap k_of (sym (one-mul p)) ∙ k_times 1 p (omega arith) P (λ e. O.odd (rw e at in-r)) (prime_not-one P)
            ∙ rw k_one refl

  -- r prime: F leaves out 1; I has a comb there and nothing else
  held_one : One r → Held (cond first 1 2) kind r
  held_one c = go first refl
    where
      go : (f : Bool) → first ≡ f → Held (cond f 1 2) kind r
      go true e =
          held_by 1 1 (2 * r) (omega arith) (one-dvd r) above (rw (div-one r, mu_k r O, c.primes, e) refl)
          (c.size first ∙ rw e refl) (rw e (omega arith))
      go false e =
          held_without kind r above r O.pos (dvd_refl r) (λ l. absurd (omega arith)) 2
          (rw (
            divides_yes r r (dvd_refl r),
            div_self O.pos,
            eq-eqb r r refl,
            last_size first,
            c.size first,
            e,
          ) (omega arith))

  pub held_to_reach : k_of r ≤ 4 → (p : ℕ) → Prime p → p ∣ r → Held (reach first (k_of r) p r) kind r
  unfolding reach
  held_to_reach few p P in-r =
      by_closed (closed r O) (λ (e : r ≡ 1). absurd (omega arith)) (λ c. rw c.primes (held_one c)) several
    where
      leaving : (e : ℕ) → More e r
          → (4 * r) ^ (2 ^ e) * left_out p ≤ reach first (k_of r) p r * (r * cond first 2 1)
          → Held (reach first (k_of r) p r) kind r
      leaving e c =
          held_leaving p P in-r (below_r p P in-r (omega (arith, c.primes))) (reach first (k_of r) p r)
          ((4 * r) ^ (2 ^ e)) (c.size first)

      several : (e : ℕ) → More e r → Held (reach first (k_of r) p r) kind r
      several zero c = leaving 0 c (rw c.primes (two first p r))
      several (suc zero) c = leaving 1 c (rw c.primes (three first p r))
      several (suc (suc zero)) c = leaving 2 c (rw c.primes (four first p r))
      several (suc (suc (suc e))) c = absurd (omega (arith, c.primes))
