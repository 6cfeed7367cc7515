-- A bound on the values of every stop of r. The step of a divisor scales by its size (`scales_term`), so the product of
-- the terms up to any m scales by the product of the sizes up to m; and one accumulate, on 1, 0, 0, .., makes only 0
-- and 1, so its size may be left out (`held_without`). In which order steps are taken makes no difference to the
-- product.
use Prim.Native.Nat.{ℕ, zero, suc, ◌+◌, ◌*◌, ◌-◌, ◌/◌, ◌<◌, ◌≤◌, ◌∣◌}
use Rattle.std.specs.Prelude.{◌≡◌, Bool, eqb}
use Rattle.std.proofs.Math.Path.{refl, ap}
use Rattle.std.proofs.Common.{sym, ◌∙◌, ap₂, le_trans, le_refl, le_of_mul-le-mul_right, mul-pos, mul_left_comm, le-mul_of_pos_right, div-lt_iff_lt-mul, add-zero, add-suc, add-sub_of_le, ne_eqb}
use Rattle.std.proofs.Math.Bool.{true, false, cond}
use Rattle.std.proofs.Math.Nat.{div-mul_cancel, le_of_dvd}
use Rattle.std.proofs.Math.Decide.{dec_le}
use native.Mathlib.Omega.{arith}
use Rattle.definitions.specs.Series.{Series, 𝟙, ◌·◌}
use Rattle.definitions.specs.Numbers.{divides, phi, mu_is_plus}
use Rattle.definitions.specs.Polynomials.{product_to, at_divisors, degree}
use Rattle.definitions.specs.Steps.{comb, accumulate}
use Rattle.definitions.specs.KeptHalf.{half_degree, sort_of, term_of, term}
use Rattle.series.specs.Laws.{·_comm, ·_one}
use Rattle.numbers.specs.Tests.{yes_divides, divides_yes}
use Rattle.numbers.specs.Folds.{fold_to, fold-suc, fold-apart}
use Rattle.numbers.specs.Counts.{products}
use Rattle.numbers.specs.Phi.{phi-lt, phi-pos}
use Rattle.numbers.specs.Primes.{quotient-pos}
use Rattle.cyclotomic.specs.Family.{times, product-fold, product_same}
use Rattle.never_over.specs.Scales.{Under, Scales, scales_one, scales_more, scales_comb, scales_accumulate}
use Rattle.never_over.specs.Scales.{scales_product, under_one, under_accumulate}
use Rattle.never_over.specs.Stops.{up_to, Held}
use Rattle.never_over.specs.Sizes.{combs, size_of, sizes}

-- the kept half has fewer than r entries
pub fewer_entries : (kind r : ℕ) → 1 < r → half_degree kind r + 1 < r
unfolding half_degree degree
fewer_entries kind r l = go (eqb kind 1)
  where
    go : (b : Bool) → cond b (phi r) (r - phi r) / 2 + 1 < r
    go true = omega (arith, phi-lt r l)
    go false = omega (arith, phi-pos r (omega arith))

-- more factors above 0 make a product no smaller
grows : (b : ℕ → ℕ) → ((d : ℕ) → 0 < b d) → (m k : ℕ) → m ≤ k → fold_to products b m ≤ fold_to products b k
grows b pos m k l = rw (add-sub_of_le l) at (further (k - m))
  where
    further : (j : ℕ) → fold_to products b m ≤ fold_to products b (m + j)
    further zero = rw (add-zero m) (le_refl (fold_to products b m))
    further (suc j) =
        rw (add-suc m j, fold-suc products b (m + j))
        (le_trans (further j) (le-mul_of_pos_right (fold_to products b (m + j)) (pos (suc (m + j)))))

module _ (kind r : ℕ) (above : 1 < r) where
  abbrev first : Bool
  first = eqb kind 1

  abbrev n : ℕ
  n = half_degree kind r + 1

  -- a divisor's step scales by its size
  scales_term : (d : ℕ) → 0 < d → d ∣ r → d < r → Scales n (size_of first (r / d)) (term kind r d)
  unfolding term sort_of size_of
  scales_term d l h u = go (combs first (mu_is_plus (r / d)))
    where
      turns : n / d < r / d
      turns = (div-lt_iff_lt-mul {x = n} {y = r / d} l).1 (rw (div-mul_cancel d h) (fewer_entries kind r above))

      go : (b : Bool) → Scales n (cond b 2 (r / d)) (term_of (cond b comb accumulate) d)
      go true = scales_comb n d
      go false =
          scales_more n (n / d + 1) (r / d) (term_of accumulate d) (omega (arith, turns)) (scales_accumulate n d l)

  -- the size of d's step, 1 where d is no divisor
  abbrev pub size : ℕ → ℕ
  size d = cond (divides d r) (size_of first (r / d)) 1

  size-pos : (d : ℕ) → 0 < size d
  unfolding size_of
  size-pos d = go (divides d r) refl (combs first (mu_is_plus (r / d)))
    where
      go : (b : Bool) → divides d r ≡ b → (c : Bool) → 0 < cond b (cond c 2 (r / d)) 1
      go true t true = omega arith
      go true t false = quotient-pos d r (omega arith) (yes_divides d r t)
      go false t c = omega arith

  -- one divisor left out: e, which accumulates unless it is r itself
  module _ (e : ℕ) (pos : 0 < e) (in-r : e ∣ r) (acc : e < r → term kind r e ≡ term_of accumulate e) where
    abbrev pub size_but : ℕ → ℕ
    size_but d = cond (eqb d e) 1 (size d)

    abbrev term_but : ℕ → Series
    term_but d = cond (eqb d e) 𝟙 (at_divisors r (term kind r) d)

    but_pos : (d : ℕ) → 0 < size_but d
    but_pos d = go (eqb d e)
      where
        go : (b : Bool) → 0 < cond b 1 (size d)
        go true = omega arith
        go false = size-pos d

    scales_but : (m : ℕ) → m < r → Scales n (fold_to products size_but m) (product_to m term_but)
    unfolding at_divisors
    scales_but m u =
        scales_product n size_but term_but m
        (λ d l v. go (eqb d e) (divides d r) (λ t. scales_term d l (yes_divides d r t) (omega arith)))
      where
        go : {x : ℕ} {q : Series} (b c : Bool) → (c ≡ true → Scales n x q)
            → Scales n (cond b 1 (cond c x 1)) (cond b 𝟙 (cond c q 𝟙))
        go true c s = scales_one n
        go false true s = s refl
        go false false s = scales_one n

    -- what is left out has no values but 0 and 1
    split : (m : ℕ) → m < r → (h : Series) × Under n 1 (λ i. 1) h × (up_to kind r m ≡ product_to m term_but · h)
    unfolding up_to at_divisors
    split m u = go (dec_le e m)
      where
        terms : ℕ → Series
        terms = at_divisors r (term kind r)

        at_e : e < r → terms e ≡ term_of accumulate e
        at_e v = ap (λ b. cond b (term kind r e) 𝟙) (divides_yes e r in-r) ∙ acc v

        go : Dec (e ≤ m) → (h : Series) × Under n 1 (λ i. 1) h × (up_to kind r m ≡ product_to m term_but · h)
        go (yes v) = (
          term_of accumulate e,
          under_accumulate n e,
          product-fold m terms ∙ fold-apart times terms e m pos v
              ∙ ap₂ ◌·◌ (at_e (omega arith)) (sym (product-fold m term_but))
              ∙ ·_comm (term_of accumulate e) (product_to m term_but),
        )
        go (no v) = (
          𝟙,
          under_one n,
          product_same m
              (λ d l k. ap (λ b. cond b 𝟙 (terms d)) (sym (ne_eqb d e (λ (x : d ≡ e). v (omega arith)))))
              ∙ sym (·_one (product_to m term_but)),
        )

    held_but : Held (fold_to products size_but (r - 1)) kind r
    held_but m u i l =
        let (h, unit, e) = split m u in
        rw e
        (le_trans (omega (arith, (scales_but m u).scaled h 1 (λ i. 1) (omega arith) (λ k i b. omega arith) unit i l))
        (grows size_but but_pos m (r - 1) (omega arith)))

    -- all sizes together are these, that of e, and that of r
    all-sizes : sizes first r ≡ size e * (fold_to products size_but (r - 1) * size_but r)
    unfolding sizes
    all-sizes =
        fold-apart products size e r pos (le_of_dvd (omega arith) in-r)
        ∙ ap (λ x. size e * x) (rw whole at (fold-suc products size_but (r - 1)))
      where
        whole : suc (r - 1) ≡ r
        whole = omega arith

    pub held_without : (w : ℕ) → sizes first r ≤ w * (size e * size_but r) → Held w kind r
    held_without w h m u i l =
        le_trans (held_but m u i l)
        (le_of_mul-le-mul_right {k = size e * size_but r}
        (le_trans (omega (arith, all-sizes, mul_left_comm (size e) (fold_to products size_but (r - 1)) (size_but r))) h)
        (mul-pos (size-pos e) (but_pos r)))
