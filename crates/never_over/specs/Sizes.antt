-- By how much all steps of r together can enlarge a value, in closed form. The step of d enlarges by 2 where it is a
-- comb and by at most r/d where it is an accumulate. With a new prime p the divisors of r get the other sort and r/d
-- becomes p r/d, while p e is as e was; so the product over all divisors, d = r included, is 2 r for F and 2 for I
-- where r is prime, and (4 r)^(2^(k-2)) for both kinds where r has k primes, k above 1 (`closed`).
use Prim.Native.Nat.{ℕ, zero, suc, ◌+◌, ◌*◌, ◌/◌, ◌^◌, ◌∣◌}
use Rattle.std.specs.Prelude.{◌≡◌, Bool, not, ◌≢◌}
use Rattle.std.proofs.Math.Path.{refl, ap, ap₂}
use Rattle.std.proofs.Common.{sym, ◌∙◌, pow-suc, one-mul, mul_assoc, mul_comm, mul_right_comm, arith, pow-add}
use Rattle.std.proofs.Math.Bool.{true, false, cond}
use Rattle.std.proofs.Math.Nat.{pow-zero, mul-mul-mul_comm, two-pow-succ}
use Rattle.definitions.specs.Numbers.{divides, mu_is_plus, primes_of, count_to, is_prime, k_of}
use Rattle.numbers.specs.Folds.{fold_to, only, fold-zero, fold-suc}
use Rattle.numbers.specs.Counts.{sums, products}
use Rattle.numbers.specs.Primes.{Prime, prime_pos}
use Rattle.numbers.specs.Divisors.{split-new, divisors-same, divisors_both, quotient-old, quotient_new}
use Rattle.numbers.specs.HowMany.{mu_turned, k_times, k_one}
use Rattle.numbers.specs.Apart.{OddSquarefree, odd_squarefree_one, by-odd-primes}

-- whether a step is a comb: of F where mu(r/d) is +1, of I the other way round
abbrev pub combs : Bool → Bool → Bool
combs first plus = cond first plus (not plus)

-- for q = r/d: by how much the step can enlarge, and whether it is an accumulate
unfoldable pub size_of : Bool → ℕ → ℕ
size_of first q = cond (combs first (mu_is_plus q)) 2 q

unfoldable pub accumulates : Bool → ℕ → ℕ
accumulates first q = cond (combs first (mu_is_plus q)) 0 1

-- over all divisors of r
unfoldable pub sizes : Bool → ℕ → ℕ
sizes first r = fold_to products (only products (λ d. divides d r) (λ d. size_of first (r / d))) r

unfoldable pub how_many : Bool → ℕ → ℕ
how_many first r = fold_to sums (only sums (λ d. divides d r) (λ d. accumulates first (r / d))) r

-- ---- powers
pub mul-pow : (a b n : ℕ) → (a * b) ^ n ≡ a ^ n * b ^ n
mul-pow a b zero = rw (pow-zero (a * b), pow-zero a, pow-zero b) refl
mul-pow a b (suc n) =
    rw (pow-suc (a * b) n, pow-suc a n, pow-suc b n, mul-pow a b n) (mul-mul-mul_comm (a ^ n) (b ^ n) a b)

pow-one : (a : ℕ) → a ^ 1 ≡ a
pow-one a = pow-suc a 0 ∙ ap (λ e. e * a) (pow-zero a) ∙ one-mul a

-- p to a sum is the product of the powers
pow-fold : (p n : ℕ) (g : ℕ → ℕ) (k : ℕ) → fold_to products (only products (λ d. divides d n) (λ d. p ^ g d)) k
    ≡ p ^ fold_to sums (only sums (λ d. divides d n) g) k
pow-fold p n g zero = fold-zero products _ ∙ sym (pow-zero p) ∙ ap (λ e. p ^ e) (sym (fold-zero sums _))
pow-fold p n g (suc k) =
    fold-suc products _ k ∙ ap₂ ◌*◌ (pow-fold p n g k) (go (divides (suc k) n))
    ∙ sym (pow-add p _ _) ∙ ap (λ e. p ^ e) (sym (fold-suc sums _ k))
  where
    go : (b : Bool) → cond b (p ^ g (suc k)) 1 ≡ p ^ cond b (g (suc k)) 0
    go true = refl
    go false = sym (pow-zero p)

-- ---- one prime more
module _ (first : Bool) (r p : ℕ) (O : OddSquarefree r) (P : Prime p) (new : ¬ (p ∣ r)) where
  -- a divisor of r gets the other sort
  turned : (d : ℕ) → d ∣ r → combs first (mu_is_plus (r * p / d)) ≡ combs (not first) (mu_is_plus (r / d))
  turned d h = rw (mu_turned r p d O.pos P new h) (go first (mu_is_plus (r / d)))
    where
      go : (f m : Bool) → combs f (not m) ≡ combs (not f) m
      go true m = refl
      go false true = refl
      go false false = refl

  size-turned : (d : ℕ) → d ∣ r
      → size_of first (r * p / d) ≡ size_of (not first) (r / d) * p ^ accumulates (not first) (r / d)
  unfolding size_of accumulates
  size-turned d h = rw (turned d h, quotient-old r p d h) (go (combs (not first) (mu_is_plus (r / d))))
    where
      go : (b : Bool) → cond b 2 (r / d * p) ≡ cond b 2 (r / d) * p ^ cond b 0 1
      go true = rw (pow-zero p) refl
      go false = rw (pow-one p) refl

  -- p e stays as e was
  pub sizes-times : sizes first (r * p) ≡ sizes (not first) r * p ^ how_many (not first) r * sizes first r
  unfolding sizes how_many
  sizes-times =
      split-new products (λ d. size_of first (r * p / d)) P r O.pos new
      ∙ ap₂ ◌*◌
      (divisors-same products r _ _ r (λ d l u h. size-turned d h)
      ∙ divisors_both products r (λ d. size_of (not first) (r / d)) (λ d. p ^ accumulates (not first) (r / d)) r
      ∙ ap (λ e. fold_to products (only products (λ d. divides d r) (λ d. size_of (not first) (r / d))) r * e)
      (pow-fold p r (λ d. accumulates (not first) (r / d)) r))
      (divisors-same products r _ _ r (λ d l u h. ap (size_of first) (quotient_new r p d (prime_pos P))))

  pub how_many-times : how_many first (r * p) ≡ how_many (not first) r + how_many first r
  unfolding how_many accumulates
  how_many-times =
      split-new sums (λ d. accumulates first (r * p / d)) P r O.pos new
      ∙ ap₂ ◌+◌ (divisors-same sums r _ _ r (λ d l u h. ap (λ b. cond b 0 1) (turned d h)))
      (divisors-same sums r _ _ r (λ d l u h. ap (accumulates first) (quotient_new r p d (prime_pos P))))

-- ---- in closed form
one_size : (first : Bool) → (sizes first 1 ≡ cond first 2 1) × (how_many first 1 ≡ cond first 0 1)
unfolding sizes how_many size_of accumulates fold_to divides mu_is_plus primes_of count_to is_prime
one_size true = (refl, refl)
one_size false = (refl, refl)

-- with one prime, and with e + 2
pub record One (r : ℕ) : Type 0 where
  pub primes : k_of r ≡ 1
  pub size : (first : Bool) → sizes first r ≡ cond first (2 * r) 2
  pub many : (first : Bool) → how_many first r ≡ 1

pub record More (e r : ℕ) : Type 0 where
  pub primes : k_of r ≡ e + 2
  pub size : (first : Bool) → sizes first r ≡ (4 * r) ^ (2 ^ e)
  pub many : (first : Bool) → how_many first r ≡ 2 ^ suc e

pub data Closed : ℕ → Type 0 where
  none : Closed 1
  one : {r : ℕ} → One r → Closed r
  more : {e r : ℕ} → More e r → Closed r

-- with each prime more the two products multiply, and p joins r as often as there are accumulates
module _ (r p : ℕ) (O : OddSquarefree r) (P : Prime p) (odd : p ≢ 2) (new : ¬ (p ∣ r)) where
  from_one : One r → More 0 (r * p)
  from_one h =
      record {
        primes = rw (k_times r p O.pos P odd new, h.primes) refl;
        size = λ f. sizes-times f r p O P new
            ∙ rw (h.size f, h.size (not f), h.many (not f), pow-one p, pow-one (4 * (r * p))) (go f);
        many = λ f. how_many-times f r p O P new ∙ rw (h.many f, h.many (not f)) refl;
      }
    where
      go : (f : Bool) → cond (not f) (2 * r) 2 * p * cond f (2 * r) 2 ≡ 4 * (r * p)
      go true = rw (mul-mul-mul_comm 2 p 2 r, mul_comm p r) refl
      go false = omega (arith, mul_assoc 2 r p)

  from_more : {e : ℕ} → More e r → More (suc e) (r * p)
  from_more {e} h =
      record {
        primes = omega (arith, k_times r p O.pos P odd new, h.primes);
        size = λ f. sizes-times f r p O P new ∙ rw (h.size f, h.size (not f), h.many (not f)) squared;
        many = λ f. how_many-times f r p O P new ∙ rw (h.many f, h.many (not f)) (sym (two-pow-succ (suc e)));
      }
    where
      squared : (4 * r) ^ (2 ^ e) * p ^ (2 ^ suc e) * (4 * r) ^ (2 ^ e) ≡ (4 * (r * p)) ^ (2 ^ suc e)
      squared =
          mul_right_comm ((4 * r) ^ (2 ^ e)) (p ^ (2 ^ suc e)) ((4 * r) ^ (2 ^ e))
          ∙ ap (λ x. x * p ^ (2 ^ suc e))
          (sym (pow-add (4 * r) (2 ^ e) (2 ^ e)) ∙ ap (λ x. (4 * r) ^ x) (sym (two-pow-succ e)))
          ∙ sym (mul-pow (4 * r) p (2 ^ suc e)) ∙ ap (λ x. x ^ (2 ^ suc e)) (mul_assoc 4 r p)

first_prime : (p : ℕ) → Prime p → p ≢ 2 → ¬ (p ∣ 1) → One (1 * p)
first_prime p P odd new =
    record {
      primes = rw (k_times 1 p (omega arith) P odd new, k_one) refl;
      size = λ f. sizes-times f 1 p odd_squarefree_one P new
          ∙ rw ((one_size f).0, (one_size (not f)).0, (one_size (not f)).1) (go f);
      many = λ f. how_many-times f 1 p odd_squarefree_one P new ∙ rw ((one_size f).1, (one_size (not f)).1) (both f);
    }
  where
    go : (f : Bool) → cond (not f) 2 1 * p ^ cond (not f) 0 1 * cond f 2 1 ≡ cond f (2 * (1 * p)) 2
    go true = rw (pow-one p) (omega (arith, one-mul p))
    go false = rw (pow-zero p) refl

    both : (f : Bool) → ◌≡◌ {A = ℕ} (cond (not f) 0 1 + cond f 0 1) 1
    both true = refl
    both false = refl

pub closed : (r : ℕ) → OddSquarefree r → Closed r
closed = by-odd-primes Closed none (λ r p O P odd new. next O P odd new)
  where
    next : {r p : ℕ} → OddSquarefree r → Prime p → p ≢ 2 → ¬ (p ∣ r) → Closed r → Closed (r * p)
    next {p = p} O P odd new none = one (first_prime p P odd new)
    next {r = r} {p = p} O P odd new (one h) = more (from_one r p O P odd new h)
    next {r = r} {p = p} O P odd new (more h) = more (from_more r p O P odd new h)

-- by cases
pub by_closed : {r : ℕ} {A : Type 0} → Closed r → (r ≡ 1 → A) → (One r → A) → ((e : ℕ) → More e r → A) → A
by_closed none f g h = f refl
by_closed (one c) f g h = g c
by_closed (more {e = e} c) f g h = h e c
