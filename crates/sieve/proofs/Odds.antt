-- The odd primes of n up to k, as the code holds them: one more where k + 1 is one, else the same; there is room for it
-- and the numbers stay small; and where no more follow they are all of them.
use Prim.Native.Nat.{ℕ, zero, suc, ◌+◌, ◌*◌, ◌-◌, ◌≤◌, ◌<◌, ◌∣◌}
use mathlib.Core.Path.{◌≡◌, refl, sym, ap, ◌∙◌}
use mathlib.Core.Bool.{true, false}
use mathlib.Core.List.{List, [], ◌∷◌, ◌++◌, append_assoc}
use native.Mathlib.Nat.{add-zero, add-suc, add_comm, le_of_dvd, le_trans, not-le_of_lt, add-sub_of_le}
use native.Mathlib.Omega.{arith}
use lib.ListN.{length, replicate, set, length-append}
use lib.Seq.{set-append_seam}
use Rattle.definitions.specs.Numbers.{odd_prime_of, count_to, list_to, product_of_to, phi, k_of}
use Rattle.numbers.specs.Tests.{denies}
use Rattle.numbers.specs.Primes.{Prime}
use Rattle.numbers.specs.Counts.{count_yes, count_no, count_up, product_yes, product_no}
use Rattle.numbers.specs.Lists.{list_yes, list_no, list_length}
use Rattle.numbers.specs.Products.{prime_in_product, product-divides}
use Rattle.numbers.specs.Phi.{phi-times, phi-le, phi-one}
use Rattle.numbers.specs.Apart.{test_odd_prime}
use Rattle.numbers.specs.AtMostFive.{k_at_most_5}
use Rattle.sieve.specs.declared.OddPrimes.{OddPrimes}
use Rattle.sieve.specs.Sieving.{padded, odd_to, with_prime}

same-odd :
    (a b : OddPrimes) → a.primes ≡ b.primes → a.count ≡ b.count → a.product ≡ b.product → a.free ≡ b.free
    → a ≡ b
same-odd a b p c m f = λ i. record { primes = p i; count = c i; product = m i; free = f i }

-- one more at the end of a list that leaves room
padded_more : (l : List ℕ) (x : ℕ) → length l < 5 → padded (l ++ (x ∷ [])) ≡ set (padded l) (length l) x
unfolding padded
padded_more l x u =
    ap (λ c. (l ++ (x ∷ [])) ++ replicate c 0) after
    ∙ (append_assoc l (x ∷ []) (replicate j 0)
    ∙ sym (ap (λ c. set (l ++ replicate c 0) (length l) x) room ∙ set-append_seam l 0 (replicate j 0) x))
  where
    j : ℕ
    j = 4 - length l

    room : 5 - length l ≡ suc (4 - length l)
    room = omega arith

    after : 5 - length (l ++ (x ∷ [])) ≡ 4 - length l
    after = omega (arith, length-append l (x ∷ []))

module _ (n : ℕ) (l : 0 < n) (u : n ≤ 65535) where
  odds : (x : ℕ) → odd_prime_of n x ≡ true → Prime x
  odds x e = ((test_odd_prime n x).shows e).0.0

  -- k + 1 is an odd prime of n
  module _ (k : ℕ) (e : odd_prime_of n (suc k) ≡ true) where
    new : ¬ (suc k ∣ product_of_to k (odd_prime_of n))
    new d = omega (arith, (prime_in_product (odd_prime_of n) odds k (suc k) (odds (suc k) e) d).0)

    below : suc k ≤ n
    below = le_of_dvd l ((test_odd_prime n (suc k)).shows e).0.1

    odd_room : count_to k (odd_prime_of n) < 5
    unfolding k_of
    odd_room =
        omega (
          arith,
          count_yes (odd_prime_of n) k e,
          rw (add-sub_of_le below) at (count_up (odd_prime_of n) (suc k) (n - suc k)),
          k_at_most_5 n u,
        )

    odd_small : product_of_to k (odd_prime_of n) * suc k ≤ 65535
    odd_small =
        le_trans (le_of_dvd l
        (rw (product_yes (odd_prime_of n) k e) at (product-divides (odd_prime_of n) odds n
        (λ x y. ((test_odd_prime n x).shows y).0.1) (suc k)))) u

    grown : phi (product_of_to k (odd_prime_of n) * suc k) ≡ phi (product_of_to k (odd_prime_of n)) * (suc k - 1)
    grown = phi-times (product_of_to k (odd_prime_of n)) (suc k) (odds (suc k) e) new

    odd_free_small : phi (product_of_to k (odd_prime_of n)) * (suc k - 1) ≤ 65535
    odd_free_small = rw grown at (le_trans (phi-le (product_of_to k (odd_prime_of n) * suc k)) odd_small)

    -- so they can be held with k + 1
    pub odd-fields :
        (o : OddPrimes)
        → o ≡ odd_to n k
        → (o.count < 5) × (o.product * suc k ≤ 65535) × (o.free * (suc k - 1) ≤ 65535) × (0 < suc k)
    unfolding odd_to
    odd-fields o h = rw h (odd_room, odd_small, odd_free_small, omega arith)

    pub odd_more : odd_to n (suc k) ≡ with_prime (odd_to n k) (suc k)
    unfolding odd_to
    odd_more =
        same-odd _ _ listed (count_yes (odd_prime_of n) k e) (product_yes (odd_prime_of n) k e)
        (ap phi (product_yes (odd_prime_of n) k e) ∙ grown)
      where
        here : length (list_to k (odd_prime_of n)) ≡ count_to k (odd_prime_of n)
        here = list_length (odd_prime_of n) k

        listed :
            padded (list_to (suc k) (odd_prime_of n))
            ≡ set (padded (list_to k (odd_prime_of n))) (count_to k (odd_prime_of n)) (suc k)
        listed =
            ap padded (list_yes (odd_prime_of n) k e)
            ∙ (padded_more (list_to k (odd_prime_of n)) (suc k) (omega (arith, here, odd_room))
            ∙ ap (λ c. set (padded (list_to k (odd_prime_of n))) c (suc k)) here)

  pub odd_none : odd_to n 0 ≡ record { primes = 0 ∷ 0 ∷ 0 ∷ 0 ∷ 0 ∷ []; count = 0; product = 1; free = 1 }
  unfolding odd_to padded list_to count_to product_of_to
  odd_none = same-odd _ _ refl refl refl phi-one

  pub odd_same : (k : ℕ) → odd_prime_of n (suc k) ≡ false → odd_to n (suc k) ≡ odd_to n k
  unfolding odd_to
  odd_same k e =
      same-odd _ _ (ap padded (list_no (odd_prime_of n) k e)) (count_no (odd_prime_of n) k e)
      (product_no (odd_prime_of n) k e)
      (ap phi (product_no (odd_prime_of n) k e))

  pub odd-further :
      (m j : ℕ) → ((d : ℕ) → m < d → d ≤ m + j → odd_prime_of n d ≡ false) → odd_to n (m + j) ≡ odd_to n m
  odd-further m zero e = ap (odd_to n) (add-zero m)
  odd-further m (suc j) e =
      ap (odd_to n) (add-suc m j)
      ∙ (odd_same (m + j) (e (suc (m + j)) (omega arith) (omega arith))
      ∙ odd-further m j (λ d a b. e d a (omega arith)))

  -- none above k: they are all
  pub odd_all : (k : ℕ) → ((d : ℕ) → k < d → odd_prime_of n d ≡ false) → odd_to n k ≡ odd_to n n
  odd_all k e =
      sym (odd-further k n (λ d a b. e d a))
      ∙ (ap (odd_to n) (add_comm k n)
      ∙ odd-further n k (λ d a b. denies (test_odd_prime n d) (λ h. not-le_of_lt a (le_of_dvd l h.0.1))))
