-- The terms of the divisors multiply to F(r) (`all-terms`), for odd squarefree r above 1. The terms of the two sorts
-- are inverse to one another. With a new prime p, the terms of the divisors of r turn into their inverses, and those of
-- p e are those of e with z^p for z; so the product over all divisors grows by F's law, and at r = 1 it is -F(1).
use Rattle.std.specs.Prelude.{ℕ, zero, suc, ◌*◌, ◌-◌, ◌/◌, ◌%◌, ◌≤◌, ◌<◌, ◌≡◌, Bool, true, false, not, ◌≢◌, [], ◌∷◌, eqb}
use Rattle.std.specs.Int.{◌∣◌}
use Rattle.std.proofs.Math.Path.{refl, sym, ap, ap₂, fun_ext}
use Rattle.std.proofs.Common.{◌∙◌, arith}
use Rattle.std.proofs.Math.Bool.{cond}
use Rattle.std.proofs.Math.Nat as NatL
use Rattle.std.proofs.Math.Decide.{dec_lt}
use Rattle.definitions.specs.Integers.{◌⊕◌, ◌⊗◌, ⊖, ◌⊝◌, 0ℤ, 1ℤ}
use Rattle.definitions.specs.Series.{Series, constant, 𝟙, ◌+ˢ◌, _ˢ, ◌·◌, z^, spread}
use Rattle.definitions.specs.Numbers.{divides, mu_is_plus, primes_of}
use Rattle.definitions.specs.Polynomials.{product_to, at_divisors, over_divisors, z^_1, F}
use Rattle.definitions.specs.Steps.{Sort, comb, accumulate}
use Rattle.definitions.specs.KeptHalf.{sort_of, term_of, term}
use Rattle.integers.specs.Solver.{:1, ◌:+◌, ◌:*◌, :-, x, y, z}
use Rattle.integers.specs.Whole.{⊕_zero, ⊕_neg, ⊖-zero, ⊗_one}
use Rattle.series.specs.Laws.{Unitˢ, at_+ˢ, at__ˢ, cancel, ·_comm, ·_one, one_·, ringˢ}
use Rattle.series.specs.Maps.{off_z^, shift_below, shift_from, spread-add, spread-neg, spread-constant, spread-mul}
use Rattle.series.specs.Maps.{spread-z^}
use Rattle.numbers.specs.Tests.{same, test_divides, divides_yes, divides_no}
use Rattle.numbers.specs.Folds.{fold_units}
use Rattle.numbers.specs.Primes.{Prime, prime_pos}
use Rattle.numbers.specs.HowMany.{primes-one, mu_turned}
use Rattle.numbers.specs.Apart.{OddSquarefree, by-odd-primes}
use Rattle.cyclotomic.specs.Family.{times, product-fold, over_same, F-one, unit_F, unit_divisors, last_divisor}
use Rattle.cyclotomic.specs.OnePrime.{split_divisors, unless_divides, over_both, spread_divisors, prime_new}
use Rattle.cyclotomic.specs.Signs.{Signed, signed, unsigned, minus_one, sign-step}

-- ---- the two sorts
unfoldable pub other : Sort → Sort
other comb = accumulate
other accumulate = comb

-- (1 - z^d) f at i
comb_at : (d : ℕ) (f : Series) (i : ℕ) → (term_of comb d · f) i ≡ f i ⊝ (z^ d · f) i
unfolding term_of
comb_at d f i =
    ap (λ q. q i) (ringˢ (z^ d ∷ f ∷ []) ((:1 :+ :- x) :* y) (y :+ :- (x :* y)) refl)
    ∙ at_+ˢ f (_ˢ (z^ d · f)) i ∙ ap (λ a. f i ⊕ a) (at__ˢ (z^ d · f) i)

pub comb_below : (d : ℕ) (f : Series) (i : ℕ) → i < d → (term_of comb d · f) i ≡ f i
comb_below d f i h = comb_at d f i ∙ ap (λ a. f i ⊝ a) (shift_below d f i h) ∙ ap (λ a. f i ⊕ a) ⊖-zero ∙ ⊕_zero (f i)

pub comb_from : (d : ℕ) (f : Series) (i : ℕ) → d ≤ i → (term_of comb d · f) i ≡ f i ⊝ f (i - d)
comb_from d f i h = comb_at d f i ∙ ap (λ a. f i ⊝ a) (shift_from d f i h)

-- 1 + z^d + z^(2d) + ..: 1 at the multiples of d
every_below : (d i : ℕ) → i < d → term_of accumulate d i ≡ 𝟙 i
unfolding term_of constant
every_below d zero h = ap (λ b. cond b 1ℤ 0ℤ) (divides_yes d 0 (NatL.dvd-zero d))
every_below d (suc i) h =
    ap (λ b. cond b 1ℤ 0ℤ) (divides_no d (suc i) (λ e. NatL.not-le_of_lt h (NatL.le_of_dvd (NatL.zero-lt-suc i) e)))

every_from : (d i : ℕ) → d ≤ i → term_of accumulate d i ≡ term_of accumulate d (i - d)
unfolding term_of
every_from d i h =
    ap (λ b. cond b 1ℤ 0ℤ)
    (same (test_divides d i) (test_divides d (i - d)) (NatL.dvd-sub_iff_left d h (NatL.dvd_refl d)).1
    (NatL.dvd-sub_iff_left d h (NatL.dvd_refl d)).0)

nothing_above : (i : ℕ) → 0 < i → 𝟙 i ≡ 0ℤ
unfolding constant
nothing_above zero h = absurd (NatL.not-suc-le-zero h)
nothing_above (suc i) h = refl

-- times 1 - z^d it is 1
comb_accumulate : (d : ℕ) → 0 < d → term_of comb d · term_of accumulate d ≡ 𝟙
comb_accumulate d l = fun_ext (λ i. go i (dec_lt i d))
  where
    go : (i : ℕ) → Dec (i < d) → (term_of comb d · term_of accumulate d) i ≡ 𝟙 i
    go i (yes h) = comb_below d (term_of accumulate d) i h ∙ every_below d i h
    go i (no h) =
        let k : d ≤ i = omega (arith, NatL.lt_of_not-le h) in
        comb_from d (term_of accumulate d) i k ∙ ap (λ a. a ⊝ term_of accumulate d (i - d)) (every_from d i k)
        ∙ ⊕_neg (term_of accumulate d (i - d)) ∙ sym (nothing_above i (omega arith))

pub inverse_terms : (s : Sort) (d : ℕ) → 0 < d → term_of (other s) d · term_of s d ≡ 𝟙
unfolding other
inverse_terms comb d l = ·_comm (term_of accumulate d) (term_of comb d) ∙ comb_accumulate d l
inverse_terms accumulate d l = comb_accumulate d l

unit_comb : (d : ℕ) → 0 < d → Unitˢ (term_of comb d)
unfolding term_of constant
unit_comb d l =
    ap (λ a. a ⊗ a)
    (at_+ˢ 𝟙 (_ˢ (z^ d)) 0 ∙ ap (λ a. 1ℤ ⊕ a) (at__ˢ (z^ d) 0 ∙ ap ⊖ (off_z^ d 0 (λ e. omega arith)) ∙ ⊖-zero)
    ∙ ⊕_zero 1ℤ)
    ∙ ⊗_one 1ℤ

pub unit_term : (s : Sort) (d : ℕ) → 0 < d → Unitˢ (term_of s d)
unfolding constant
unit_term comb d l = unit_comb d l
unit_term accumulate d l = ap (λ a. a ⊗ a) (every_below d 0 l) ∙ ⊗_one 1ℤ

-- z^t for z in a term
spread_comb : (t : ℕ) → 0 < t → (d : ℕ) → spread t (term_of comb d) ≡ term_of comb (d * t)
unfolding term_of
spread_comb t h d =
    spread-add t h 𝟙 (_ˢ (z^ d)) ∙ ap₂ ◌+ˢ◌ (spread-constant t h 1ℤ) (spread-neg t h (z^ d) ∙ ap _ˢ (spread-z^ t h d))

pub spread-term : (t : ℕ) → 0 < t → (s : Sort) (d : ℕ) → 0 < d → spread t (term_of s d) ≡ term_of s (d * t)
spread-term t h comb d l = spread_comb t h d
spread-term t h accumulate d l =
    cancel (spread t (term_of accumulate d)) (term_of accumulate (d * t)) (term_of comb (d * t))
    (unit_term comb (d * t) (NatL.mul-pos l h))
    (ap (λ q. spread t (term_of accumulate d) · q) (sym (spread_comb t h d))
    ∙ sym (spread-mul t h (term_of accumulate d) (term_of comb d))
    ∙ ap (spread t) (inverse d l) ∙ spread-constant t h 1ℤ ∙ sym (inverse (d * t) (NatL.mul-pos l h)))
  where
    inverse : (e : ℕ) → 0 < e → term_of accumulate e · term_of comb e ≡ 𝟙
    inverse e l = ·_comm (term_of accumulate e) (term_of comb e) ∙ comb_accumulate e l

-- ---- the sorts, with one prime more
flip : (b : Bool) → cond (not b) comb accumulate ≡ other (cond b comb accumulate)
unfolding other
flip true = refl
flip false = refl

module _ (r p : ℕ) (O : OddSquarefree r) (P : Prime p) (new : ¬ (p ∣ r)) where
  sort_turned : (d : ℕ) → d ∣ r → sort_of 1 (r * p) d ≡ other (sort_of 1 r d)
  unfolding sort_of
  sort_turned d h =
      ap (λ b. cond b comb accumulate) (mu_turned r p d O.pos P new h) ∙ flip (mu_is_plus (r / d))

  sort_kept : (e : ℕ) → sort_of 1 (r * p) (e * p) ≡ sort_of 1 r e
  unfolding sort_of
  sort_kept e = ap (λ q. cond (mu_is_plus q) comb accumulate) (NatL.mul-div-mul_right r e (prime_pos P))

-- ---- products over divisors
pub cond-one : (b : Bool) → cond b 𝟙 𝟙 ≡ 𝟙
cond-one true = refl
cond-one false = refl

pub over_ones : (n k : ℕ) → product_to k (at_divisors n (λ d. 𝟙)) ≡ 𝟙
unfolding at_divisors
over_ones n k = product-fold k (λ d. cond (divides d n) 𝟙 𝟙) ∙ fold_units times k (λ d l u. cond-one (divides d n))

-- the product of all terms of r
unfoldable pub terms : ℕ → Series
terms r = over_divisors r (term 1 r)

unit_terms : (r : ℕ) → Unitˢ (terms r)
unfolding terms over_divisors term
unit_terms r = unit_divisors r (term 1 r) r (λ d l h. unit_term (sort_of 1 r d) d l)

module _ (r p : ℕ) (O : OddSquarefree r) (P : Prime p) (new : ¬ (p ∣ r)) where
  kept : over_divisors r (λ e. term 1 (r * p) (e * p)) ≡ spread p (terms r)
  unfolding terms over_divisors term
  kept =
      over_same r r
      (λ e l u h. ap (λ s. term_of s (e * p)) (sort_kept r p O P new e)
      ∙ sym (spread-term p (prime_pos P) (sort_of 1 r e) e l))
      ∙ sym (spread_divisors p (prime_pos P) r (term 1 r) r)

  turned : over_divisors r (unless_divides p (term 1 (r * p))) · terms r ≡ 𝟙
  unfolding terms over_divisors term unless_divides
  turned =
      sym (over_both r (unless_divides p (term 1 (r * p))) (term 1 r))
      ∙ over_same r r
      (λ d l u h.
      ap (λ b. cond b 𝟙 (term 1 (r * p) d) · term 1 r d) (divides_no p d (λ e. new (NatL.dvd_trans p e h)))
      ∙ ap (λ s. term_of s d · term 1 r d) (sort_turned r p O P new d h) ∙ inverse_terms (sort_of 1 r d) d l)
      ∙ over_ones r r

  terms_more : terms (r * p) · terms r ≡ spread p (terms r)
  unfolding terms
  terms_more =
      ap (λ q. q · terms r) (split_divisors (term 1 (r * p)) P r O.pos)
      ∙ ringˢ (over_divisors r (λ e. term 1 (r * p) (e * p)) ∷ over_divisors r (unless_divides p (term 1 (r * p)))
      ∷ terms r ∷ []) (x :* y :* z) (x :* (y :* z)) refl
      ∙ ap₂ ◌·◌ kept turned ∙ ·_one (spread p (terms r))

-- mu(1) is +1, so the term of r itself is a comb's
pub last_comb : (r : ℕ) → 0 < r → term 1 r r ≡ term_of comb r
unfolding term sort_of mu_is_plus
last_comb r l = ap (λ q. term_of (cond (eqb (primes_of q % 2) 0) comb accumulate) r) (NatL.div_self l)
    ∙ ap (λ k. term_of (cond (eqb (k % 2) 0) comb accumulate) r) primes-one

terms-one : terms 1 ≡ _ˢ (F 1)
unfolding terms product_to term_of z^_1
terms-one =
    last_divisor 0 (term 1 1) ∙ one_· (term 1 1 1) ∙ last_comb 1 (omega arith)
    ∙ ringˢ (z^ 1 ∷ []) (:1 :+ :- x) (:- (x :+ :- :1)) refl ∙ ap _ˢ (sym F-one)

pub all-terms : (r : ℕ) → OddSquarefree r → r ≢ 1 → terms r ≡ F r
all-terms r O h = unsigned (sign-terms r O) h
  where
    sign-terms : (r : ℕ) → OddSquarefree r → Signed r (terms r) (F r)
    sign-terms =
        by-odd-primes (λ r. Signed r (terms r) (F r)) (minus_one terms-one)
        (λ r p O P u d s.
        signed (sign-step r p (prime_pos P) (terms r) (terms (r * p)) (F r) (F (r * p)) (unit_F r)
        (terms_more r p O P d) (prime_new p P r O.pos d) s))
