-- Two primes. An odd squarefree r with three divisors below it is p q (`in_two`). And F(p q) (1 - z^p) (1 - z^q) is
-- (1 - z) (1 - z^(p q)), by the law of a new prime, taken twice; so below degree p q the polynomial F(p q) is
-- (1 - z) / ((1 - z^p) (1 - z^q)) (`F_below`).
use Rattle.std.specs.Prelude.{ℕ, suc, ◌*◌, ◌^◌, ◌<◌, ◌≡◌, List, [], ◌∷◌, length}
use Rattle.std.specs.Int.{◌∣◌}
use Rattle.std.proofs.Math.Path.{refl, sym, ap, ap₂}
use Rattle.std.proofs.Common.{◌∙◌, one-mul, le_refl, arith}
use Rattle.std.proofs.Math.Nat.{one-le-pow}
use Rattle.definitions.specs.Series.{◌·◌, _ˢ, z^, spread}
use Rattle.definitions.specs.Numbers.{k_of}
use Rattle.definitions.specs.Polynomials.{z^_1, F}
use Rattle.definitions.specs.Steps.{comb, accumulate}
use Rattle.definitions.specs.KeptHalf.{term_of}
use Rattle.definitions.specs.Requests.{divisors_due}
use Rattle.integers.specs.Solver.{:1, ◌:+◌, ◌:*◌, :-, x, y, z, w, u}
use Rattle.series.specs.Laws.{ringˢ}
use Rattle.series.specs.Maps.{spread-mul}
use Rattle.numbers.specs.Primes.{Prime, prime_pos}
use Rattle.numbers.specs.Products.{prime_not-one}
use Rattle.numbers.specs.PrimeLists.{Rising, none, more, product_of_list, rising_k, rising_new, in_primes}
use Rattle.numbers.specs.Apart.{OddSquarefree}
use Rattle.numbers.specs.Below.{divisors_below_lem}
use Rattle.cyclotomic.specs.Family.{F-one}
use Rattle.cyclotomic.specs.OnePrime.{prime_new, spread-z^_1}
use Rattle.cyclotomic.specs.Terms.{other, inverse_terms, comb_below}
use Rattle.flat_for_two_primes.specs.Sums.{sums}

-- ---- r is a product of two primes
pub record InTwo (r : ℕ) : Type 0 where
  pub p : ℕ
  pub q : ℕ
  pub P : Prime p
  pub Q : Prime q
  pub new : ¬ (q ∣ p)
  pub product : p * q ≡ r

pub in_two : (r : ℕ) → OddSquarefree r → divisors_due r ≡ 3 → InTwo r
unfolding divisors_due product_of_list
in_two r O three =
    let (ps, R, e) = in_primes r O in
    let many : k_of r ≡ length ps = ap k_of (sym e) ∙ rising_k (omega arith) R in
    go R e (omega (arith, three, rw many at (divisors_below_lem r O)))
  where
    go : {ps : List ℕ} → Rising 2 ps → product_of_list ps ≡ r → 4 ≡ 2 ^ length ps → InTwo r
    go none e h = absurd (omega arith)
    go (more Q l none) e h = absurd (omega arith)
    go (more {p = q} Q l (more {p} P k none)) e h =
        record {
          p = p;
          q = q;
          P = P;
          Q = Q;
          new = rw (one-mul p) at (rising_new Q (le_refl q) (more P k none));
          product = rw (one-mul p) at e;
        }
    go (more Q l (more P k (more {ps} S m R))) e h =
        let four : 4 ≡ 2 ^ suc (suc (suc (length ps))) = h in
        absurd (omega (arith, one-le-pow (length ps) 2 (omega arith)))

-- ---- F(p q)
-- z^n - 1 is the comb's term, negated
negated : (n : ℕ) → z^_1 n ≡ _ˢ (term_of comb n)
unfolding z^_1 term_of
negated n = ringˢ (z^ n ∷ []) (x :+ :- :1) (:- (:1 :+ :- x)) refl

-- F(p) (z - 1) = z^p - 1
one_prime : (p : ℕ) → Prime p → F p · z^_1 1 ≡ z^_1 p
one_prime p P =
    ap₂ (λ n f. F n · f) (sym (one-mul p)) (sym F-one) ∙ prime_new p P 1 (omega arith) (prime_not-one P)
    ∙ ap (spread p) F-one ∙ spread-z^_1 p (prime_pos P) 1 ∙ ap z^_1 (one-mul p)

module _ (p q : ℕ) (P : Prime p) (Q : Prime q) (new : ¬ (q ∣ p)) where
  -- F(p q) (z^p - 1) (z^q - 1) = (z^(p q) - 1) (z - 1)
  two_primes : F (p * q) · (z^_1 p · z^_1 q) ≡ z^_1 (p * q) · z^_1 1
  two_primes =
      ap₂ (λ f g. F (p * q) · (f · g)) (sym (one_prime p P)) (sym spreads)
      ∙ ringˢ (F (p * q) ∷ F p ∷ z^_1 1 ∷ spread q (z^_1 1) ∷ []) (x :* (y :* z :* w)) (x :* y :* w :* z) refl
      ∙ ap (λ f. f · spread q (z^_1 1) · z^_1 1) (prime_new q Q p (prime_pos P) new)
      ∙ ap (λ f. f · z^_1 1)
      (sym (spread-mul q (prime_pos Q) (F p) (z^_1 1)) ∙ ap (spread q) (one_prime p P)
      ∙ spread-z^_1 q (prime_pos Q) p)
    where
      spreads : spread q (z^_1 1) ≡ z^_1 q
      spreads = spread-z^_1 q (prime_pos Q) 1 ∙ ap z^_1 (one-mul q)

  -- F(p q) = (1 - z^(p q)) (1 - z) / ((1 - z^p) (1 - z^q))
  F_two : F (p * q) ≡ term_of comb (p * q) · (term_of comb 1 · sums p q)
  unfolding sums other
  F_two =
      let f = F (p * q) in
      let inverses = term_of accumulate q · term_of accumulate p in
      ringˢ (f ∷ []) x (x :* (:1 :* :1)) refl
      ∙ sym (ap₂ (λ a b. f · (a · b)) (inverse_terms accumulate p (prime_pos P))
      (inverse_terms accumulate q (prime_pos Q)))
      ∙ ringˢ (f ∷ term_of comb p ∷ term_of accumulate p ∷ term_of comb q ∷ term_of accumulate q ∷ [])
      (x :* (y :* z :* (w :* u))) (x :* (:- y :* :- w) :* (u :* z)) refl
      ∙ sym (ap₂ (λ a b. f · (a · b) · inverses) (negated p) (negated q))
      ∙ ap (λ a. a · inverses) two_primes
      ∙ ap₂ (λ a b. a · b · inverses) (negated (p * q)) (negated 1)
      ∙ ringˢ (term_of comb (p * q) ∷ term_of comb 1 ∷ inverses ∷ []) (:- x :* :- y :* z) (x :* (y :* z)) refl

  pub F_below : (i : ℕ) → i < p * q → F (p * q) i ≡ (term_of comb 1 · sums p q) i
  F_below i l = ap (λ f. f i) F_two ∙ comb_below (p * q) (term_of comb 1 · sums p q) i l
