-- The odd primes of n, in their list and in the five places of `Parts`, are a row as `numbers/PrimeRows` wants it:
-- primes above 2, each of them new and above the one before, whose product is r.
use Prim.Native.Nat.{ℕ, zero, suc, ◌*◌, ◌-◌, ◌≤◌, ◌<◌, ◌∣◌}
use mathlib.Core.Path.{◌≡◌, refl, sym, ap, ap₂, ◌∙◌}
use mathlib.Core.Bool.{true}
use mathlib.Core.List.{List}
use mathlib.Core.Logic.{◌≢◌, ⊎_elim}
use native.Mathlib.Nat.{eq-one_of_dvd-one, lt_irrefl, add-sub_of_le}
use native.Mathlib.Numerals.{add-one}
use native.Mathlib.Omega.{arith}
use lib.ListN.{length, get_or, replicate, get_or-append}
use Rattle.definitions.specs.Numbers.{odd_prime_of, count_to, list_to, product_of_to, row_to, r_of, k_of}
use Rattle.numbers.specs.Tests.{either}
use Rattle.numbers.specs.Primes.{Prime, prime_same, euclid}
use Rattle.numbers.specs.Counts.{count-zero, count_yes, count_no, count_up, product_yes, product_no}
use Rattle.numbers.specs.Lists.{list_length, list_next, entry_has, ascends}
use Rattle.numbers.specs.Apart.{test_odd_prime}
use Rattle.numbers.specs.PrimeRows.{New, OddRow}
use Rattle.index.specs.Parts.{padded}

-- a prime that divides a product of primes below m is below m
below-in-row :
    (l : List ℕ) (m p i : ℕ)
    → ((j : ℕ) → j < i → Prime (get_or l j 0) × (get_or l j 0 < m))
    → Prime p
    → p ∣ row_to l i
    → p < m
unfolding row_to
below-in-row l m p zero h P d = omega (arith, eq-one_of_dvd-one d, P.above)
below-in-row l m p (suc i) h P d =
    ⊎_elim (λ x. below-in-row l m p i (λ j u. h j (omega arith)) P x)
    (λ x. omega (arith, prime_same P (h i (omega arith)).0 x, (h i (omega arith)).1))
    (euclid (row_to l i) (get_or l i 0) P d)

-- any row that has n's odd primes in front
module _ (n : ℕ) (l : List ℕ)
    (same : (i : ℕ) → i < k_of n → get_or l i 0 ≡ get_or (list_to n (odd_prime_of n)) i 0)
  where
    inside : (i : ℕ) → i < k_of n → i < length (list_to n (odd_prime_of n))
    unfolding k_of
    inside i u = omega (arith, list_length (odd_prime_of n) n)

    has : (i : ℕ) → i < k_of n → (Prime (get_or l i 0) × (get_or l i 0 ∣ n)) × (get_or l i 0 ≢ 2)
    has i u = rw (same i u) ((test_odd_prime n _).shows (entry_has (odd_prime_of n) n i (inside i u)).2)

    above : (i j : ℕ) → j < i → i < k_of n → get_or l j 0 < get_or l i 0
    above i j v u =
        let w : j < k_of n = omega arith in
        rw (same i u, same j w) (ascends (odd_prime_of n) n j i v (inside i u))

    row_new : New l (k_of n)
    row_new i u = (
      (has i u).0.0,
      λ d. lt_irrefl _ (below-in-row l _ _ i
          (λ j v. let w : j < k_of n = omega arith in ((has j w).0.0, above i j v u)) (has i u).0.0 d),
    )

    row_odd : OddRow l (k_of n)
    row_odd =
        record {
          new = row_new;
          odd = λ i u. larger (has i u).0.0.above (has i u).1;
          rising = λ i u. above (suc i) i (omega arith) u;
        }
      where
        larger : {p : ℕ} → 1 < p → p ≢ 2 → 2 < p
        larger b ne = omega arith

    -- the next prime stands in the next place, so the row is the product
    next_place :
        (j : ℕ)
        → suc j ≤ n
        → odd_prime_of n (suc j) ≡ true
        → get_or l (count_to j (odd_prime_of n)) 0 ≡ suc j
    unfolding k_of
    next_place j u e =
        let room : count_to j (odd_prime_of n) < k_of n =
        omega (
          arith,
          count_yes (odd_prime_of n) j e,
          rw (add-sub_of_le u) at (count_up (odd_prime_of n) (suc j) (n - suc j)),
        ) in
        same (count_to j (odd_prime_of n)) room ∙ list_next (odd_prime_of n) j n u e

    row-product : (j : ℕ) → j ≤ n → row_to l (count_to j (odd_prime_of n)) ≡ product_of_to j (odd_prime_of n)
    unfolding row_to product_of_to
    row-product zero u = ap (row_to _) (count-zero (odd_prime_of n))
    row-product (suc j) u =
        ⊎_elim
        (λ e. ap (row_to _) (count_yes (odd_prime_of n) j e ∙ add-one _)
        ∙ (ap₂ ◌*◌ (row-product j (omega arith)) (next_place j u e) ∙ sym (product_yes (odd_prime_of n) j e)))
        (λ e. ap (row_to _) (count_no (odd_prime_of n) j e)
        ∙ (row-product j (omega arith) ∙ sym (product_no (odd_prime_of n) j e)))
        (either (odd_prime_of n (suc j)))

    row_is : row_to l (k_of n) ≡ r_of n
    unfolding k_of r_of
    row_is = row-product n (omega arith)

-- the list itself
module _ (n : ℕ) where
  pub list_new : New (list_to n (odd_prime_of n)) (k_of n)
  list_new = row_new n (list_to n (odd_prime_of n)) (λ i u. refl)

  pub list_r : row_to (list_to n (odd_prime_of n)) (k_of n) ≡ r_of n
  list_r = row_is n (list_to n (odd_prime_of n)) (λ i u. refl)

  -- the five places
  pub entry : (i : ℕ) → i < k_of n → get_or (padded (list_to n (odd_prime_of n))) i 0 ≡ get_or (list_to n (odd_prime_of n)) i 0
  unfolding padded k_of
  entry i u =
      get_or-append (list_to n (odd_prime_of n)) (replicate (5 - length (list_to n (odd_prime_of n))) 0) 0 i
      (omega (arith, list_length (odd_prime_of n) n))

  pub entry_new : New (padded (list_to n (odd_prime_of n))) (k_of n)
  entry_new = row_new n (padded (list_to n (odd_prime_of n))) entry

  pub entry_odd : OddRow (padded (list_to n (odd_prime_of n))) (k_of n)
  entry_odd = row_odd n (padded (list_to n (odd_prime_of n))) entry

  pub row-r : row_to (padded (list_to n (odd_prime_of n))) (k_of n) ≡ r_of n
  row-r = row_is n (padded (list_to n (odd_prime_of n))) entry
