-- F(n) as a product of terms. The terms of a row of primes, by recursion over the primes: with one prime p more, those
-- with z^p for z, and those of the other sort. By F's law for a new prime they make F of the row's product, up to the
-- sign where the row is empty (`all_comb`); and 2 goes as one prime more (`even_factor`).
use Prim.Native.Nat.{ℕ, zero, suc, ◌*◌, ◌<◌, ◌∣◌}
use Rattle.std.specs.Prelude.{◌≡◌, ◌≢◌, List, [], ◌∷◌, ℤ}
use Rattle.std.proofs.Math.Path.{refl, sym, ap, ap₂}
use Rattle.std.proofs.Common.{◌∙◌, arith}
use Rattle.std.proofs.Math.Nat as NatL
use Rattle.std.proofs.Math.ListN.{get_or}
use Rattle.definitions.specs.Integers.{◌⊗◌, ⊖, 1ℤ}
use Rattle.definitions.specs.Series.{Series, constant, 𝟙, ◌+ˢ◌, _ˢ, ◌·◌, z^, spread}
use Rattle.definitions.specs.Numbers.{r_of, m_of, t_of}
use Rattle.definitions.specs.Polynomials.{z^_1, F, polynomial}
use Rattle.definitions.specs.Steps.{Sort, comb, accumulate}
use Rattle.definitions.specs.KeptHalf.{term_of}
use Rattle.integers.specs.Solver.{:1, ◌:+◌, ◌:*◌, :-, x, y, z, w}
use Rattle.integers.specs.Whole.{⊗_one, ringℤ}
use Rattle.series.specs.Laws.{Unitˢ, cancel, unit_mul, one_·, ringˢ, constants_neg}
use Rattle.series.specs.Maps.{spread-mul, spread-zero, spread-spread}
use Rattle.numbers.specs.Primes.{Prime, prime_pos, prime_two}
use Rattle.numbers.specs.PrimeRows.{New, fewer, last_pos, row-pos}
use Rattle.numbers.specs.Apart.{r_odd, m_even, m_odd, m-above, t_pos}
use Rattle.cyclotomic.specs.Family.{F-one, unit_F}
use Rattle.cyclotomic.specs.OnePrime.{prime_new, spread-z^_1}
use Rattle.cyclotomic.specs.Apart.{taken_apart_lem}
use Rattle.cyclotomic.specs.Terms.{other, inverse_terms}
use Rattle.definitions.specs.Numbers.{row_to}

-- the product of the terms of the first k primes of a row, each with z^s for z
unfoldable pub terms_of : List ℕ → ℕ → ℕ → Sort → Series
terms_of l zero s σ = term_of σ s
terms_of l (suc k) s σ = terms_of l k s (other σ) · terms_of l k (s * get_or l k 0) σ

module _ (l : List ℕ) where
  -- the two sorts are inverse to one another
  pub inverse_all : (k : ℕ) → New l k → (s : ℕ) → 0 < s → (σ : Sort) → terms_of l k s (other σ) · terms_of l k s σ ≡ 𝟙
  unfolding terms_of
  inverse_all zero h s b σ = inverse_terms σ s b
  inverse_all (suc k) h s b σ =
      let q : ℕ = s * get_or l k 0 in
      ringˢ
      (terms_of l k s (other (other σ)) ∷ terms_of l k q (other σ) ∷ terms_of l k s (other σ) ∷ terms_of l k q σ ∷ [])
      (x :* y :* (z :* w)) (x :* z :* (y :* w)) refl
      ∙ ap₂ ◌·◌ (inverse_all k (fewer l h) s b (other σ)) (inverse_all k (fewer l h) q (NatL.mul-pos b
      (last_pos l h)) σ)
      ∙ one_· 𝟙

-- the sign: of no prime at all the terms are 1 - z = -F(1)
unfoldable pub sign_at : ℕ → ℤ
sign_at zero = ⊖ 1ℤ
sign_at (suc k) = 1ℤ

sign_square : (k : ℕ) → sign_at k ⊗ sign_at k ≡ 1ℤ
unfolding sign_at
sign_square zero = ringℤ [] (:- :1 :* :- :1) :1 refl
sign_square (suc k) = ⊗_one 1ℤ

none_comb : (s : ℕ) → 0 < s → term_of comb s ≡ constant (⊖ 1ℤ) · spread s (F 1)
unfolding term_of z^_1
none_comb s b =
    ringˢ (z^ s ∷ []) (:1 :+ :- x) (:- :1 :* (x :+ :- :1)) refl
    ∙ ap₂ ◌·◌ (sym (constants_neg 1ℤ))
    (ap (λ a. z^ a +ˢ _ˢ 𝟙) (sym (NatL.one-mul s)) ∙ sym (spread-z^_1 s b 1) ∙ ap (spread s) (sym F-one))

module _ (l : List ℕ) (k : ℕ) (h : New l k) where
  abbrev Combs : Type 0
  Combs = (s : ℕ) → 0 < s → terms_of l k s comb ≡ constant (sign_at k) · spread s (F (row_to l k))

  unit_combs : Combs → (s : ℕ) → 0 < s → Unitˢ (terms_of l k s comb)
  unfolding constant
  unit_combs c s b =
      rw (c s b)
      (unit_mul (constant (sign_at k)) (spread s (F (row_to l k))) (sign_square k)
      (ap (λ a. a ⊗ a) (spread-zero s b (F (row_to l k))) ∙ unit_F (row_to l k)))

  -- one prime more
  pub more : Combs → (p : ℕ) → Prime p → ¬ (p ∣ row_to l k) → (s : ℕ) → 0 < s
      → terms_of l k s accumulate · terms_of l k (s * p) comb ≡ spread s (F (row_to l k * p))
  unfolding other
  more c p P new s b =
      cancel (A · C) Y H (unit_combs c s b)
      (ringˢ (A ∷ C ∷ H ∷ []) (x :* y :* z) (x :* z :* y) refl
      ∙ ap (λ q. q · C) (inverse_all l k h s b comb)
      ∙ one_· C
      ∙ c (s * p) (NatL.mul-pos b (prime_pos P))
      ∙ ap (λ q. constant (sign_at k) · q) (sym law)
      ∙ ringˢ (constant (sign_at k) ∷ Y ∷ G ∷ []) (x :* (y :* z)) (y :* (x :* z)) refl
      ∙ ap (λ q. Y · q) (sym (c s b)))
    where
      A : Series
      A = terms_of l k s accumulate

      C : Series
      C = terms_of l k (s * p) comb

      H : Series
      H = terms_of l k s comb

      G : Series
      G = spread s (F (row_to l k))

      Y : Series
      Y = spread s (F (row_to l k * p))

      law : Y · G ≡ spread (s * p) (F (row_to l k))
      law =
          sym (spread-mul s b (F (row_to l k * p)) (F (row_to l k)))
          ∙ ap (spread s) (prime_new p P (row_to l k) (row-pos l k h) new)
          ∙ spread-spread s p b (prime_pos P) (F (row_to l k))
          ∙ ap (λ a. spread a (F (row_to l k))) (NatL.mul_comm p s)

pub all_comb : (l : List ℕ) (k : ℕ) → New l k → (s : ℕ) → 0 < s
    → terms_of l k s comb ≡ constant (sign_at k) · spread s (F (row_to l k))
unfolding terms_of row_to sign_at other
all_comb l zero h s b = none_comb s b
all_comb l (suc k) h s b =
    more l k (fewer l h) (all_comb l k (fewer l h)) (get_or l k 0) (h k (omega arith)).0 (h k (omega arith)).1 s b
    ∙ sym (one_· (spread s (F (row_to l k * get_or l k 0))))

-- F(n) from the row of n's odd primes
module _ (n : ℕ) (b : 0 < n) where
  from_m : F n ≡ spread (t_of n) (F (m_of n))
  unfolding polynomial
  from_m = taken_apart_lem 1 n b

  pub odd_factor : ¬ (2 ∣ n) → n ≢ 1 → (l : List ℕ) (k : ℕ) → New l k → row_to l k ≡ r_of n
      → terms_of l k (t_of n) comb ≡ F n
  unfolding row_to sign_at
  odd_factor odd ne l zero h e = absurd (one (m-above n (omega arith)))
    where
      one : ¬ (1 < m_of n)
      one c = omega (arith, m_odd n odd)
  odd_factor odd ne l (suc k) h e =
      all_comb l (suc k) h (t_of n) (t_pos n b)
      ∙ one_· (spread (t_of n) (F (row_to l (suc k))))
      ∙ ap (λ a. spread (t_of n) (F a)) (e ∙ sym (m_odd n odd))
      ∙ sym from_m

  pub even_factor : 2 ∣ n → (l : List ℕ) (k : ℕ) → New l k → row_to l k ≡ r_of n
      → terms_of l k (t_of n) accumulate · terms_of l k (2 * t_of n) comb ≡ F n
  even_factor even l k h e =
      ap (λ a. terms_of l k (t_of n) accumulate · terms_of l k a comb) (NatL.mul_comm 2 (t_of n))
      ∙ more l k h (all_comb l k h) 2 prime_two (rw e (r_odd n)) (t_of n) (t_pos n b)
      ∙ ap (λ a. spread (t_of n) (F a)) (NatL.mul_comm (row_to l k) 2 ∙ ap (λ a. 2 * a) e ∙ sym (m_even n even))
      ∙ sym from_m
