-- The numbers up to 65,535 that are products of five odd primes, listed. All ascending lists of k primes whose product
-- is at most a limit are found by a walk: it tries as the first prime only the numbers p with p ^ k at most the limit,
-- and for each goes on with k - 1 primes above p and the limit divided by p.
use Prim.Native.Nat.{ℕ, zero, suc, ◌+◌, ◌/◌, ◌^◌, ◌≤◌}
use Rattle.std.specs.Prelude.{◌≡◌, refl, cond, ltb, length}
use Rattle.std.proofs.Common.{sym, ap, ◌∙◌, ⊎_elim, mul-le-mul, le_trans, le_refl, le-div_iff_mul-le, eq-or-lt_of_le, arith}
use mathlib.Core.List.Memᴰ
use mathlib.Core.List.{List, [], ◌∷◌, ◌++◌, map, Memᴰ}
use Rattle.definitions.specs.Numbers.{is_prime, some_to, divides, k_of}
use Rattle.numbers.specs.Tests.{denies, test_lt}
use Rattle.numbers.specs.Primes.{Prime, prime_pos, test_prime}
use Rattle.numbers.specs.Apart.{OddSquarefree}
use Rattle.numbers.specs.PrimeLists.{Rising, product_of_list, more, none, rising_pos, rising_k, least_power}
use Rattle.numbers.specs.PrimeLists.{in_primes}

-- the lists that start with p, none unless p is prime; rest finds the further primes. What a `let` binds, here and in
-- the walk, is computed only where the test asks for it
unfoldable pub starting_with : (ℕ → ℕ → List (List ℕ)) → ℕ → ℕ → List (List ℕ)
starting_with rest limit p =
    let longer : List (List ℕ) = map (λ ps. p ∷ ps) (rest p (limit / p)) in
    cond (is_prime p) longer []

-- the lists of k + 1 primes that start with one of the next fuel numbers, up to the first that is too big
unfoldable pub walk : (ℕ → ℕ → List (List ℕ)) → ℕ → ℕ → ℕ → ℕ → List (List ℕ)
walk rest k limit low zero = []
walk rest k limit low (suc fuel) =
    let on : List (List ℕ) = starting_with rest limit (suc low) ++ walk rest k limit (suc low) fuel in
    cond (ltb limit (suc low ^ suc k)) [] on

-- the ascending lists of k primes above low whose product is at most limit, for limits above 0
unfoldable pub risings : ℕ → ℕ → ℕ → List (List ℕ)
risings zero low limit = [] ∷ []
risings (suc k) low limit = walk (risings k) k limit low limit

module _ (rest : ℕ → ℕ → List (List ℕ)) (limit : ℕ) where
  starts :
      {p : ℕ} {ps : List ℕ}
      → Prime p
      → Memᴰ ps (rest p (limit / p))
      → Memᴰ (p ∷ ps) (starting_with rest limit p)
  unfolding starting_with
  starts {p} P m = rw ((test_prime p).says P) (Memᴰ.map (λ ps. p ∷ ps) m)

  goes_on :
      (k low fuel : ℕ)
      → suc low ^ suc k ≤ limit
      → walk rest k limit low (suc fuel) ≡ starting_with rest limit (suc low) ++ walk rest k limit (suc low) fuel
  unfolding walk
  goes_on k low fuel u = rw (denies (test_lt limit (suc low ^ suc k)) (λ h. omega arith))

  -- none is missed: where a number is too big, so is the product of any list that starts with it or above
  walk-complete :
      (low fuel : ℕ) {p : ℕ} {ps : List ℕ}
      → Rising low (p ∷ ps)
      → product_of_list (p ∷ ps) ≤ limit
      → p ≤ low + fuel
      → Memᴰ ps (rest p (limit / p))
      → Memᴰ (p ∷ ps) (walk rest (length ps) limit low fuel)
  walk-complete low zero (more P l R) u f m = absurd (omega arith)
  walk-complete low (suc fuel) (more {p} {ps} P l R) u f m =
      rw (goes_on (length ps) low fuel (le_trans (least_power (more P l R)) u))
      (⊎_elim (λ e. rw e (Memᴰ.append_left _ (starts P m)))
      (λ v. Memᴰ.append_right (starting_with rest limit (suc low))
      (walk-complete (suc low) fuel (more P v R) u (omega arith) m)) (eq-or-lt_of_le l))

-- p is at most the limit, so that many steps are enough
found :
    (low limit : ℕ) {ps : List ℕ}
    → Rising low ps
    → product_of_list ps ≤ limit
    → Memᴰ ps (risings (length ps) low limit)
unfolding risings product_of_list
found low limit none u = Memᴰ.head refl
found low limit (more {p} {ps} P l R) u =
    walk-complete (risings (length ps)) limit low limit (more P l R) u
    (omega (arith, mul-le-mul (rising_pos R) (le_refl p)))
    (found p (limit / p) R ((le-div_iff_mul-le (prime_pos P)).1 u))

pub risings-complete :
    (k low limit : ℕ) {ps : List ℕ}
    → Rising low ps
    → length ps ≡ k
    → product_of_list ps ≤ limit
    → Memᴰ ps (risings k low limit)
risings-complete k low limit R e u = rw e at (found low limit R u)

-- the ascending lists of five odd primes whose product is at most 65,535
unfoldable pub fives : List (List ℕ)
fives =
    (3 ∷ 5 ∷ 7 ∷ 11 ∷ 13 ∷ []) ∷ (3 ∷ 5 ∷ 7 ∷ 11 ∷ 17 ∷ []) ∷ (3 ∷ 5 ∷ 7 ∷ 11 ∷ 19 ∷ [])
    ∷ (3 ∷ 5 ∷ 7 ∷ 11 ∷ 23 ∷ []) ∷ (3 ∷ 5 ∷ 7 ∷ 11 ∷ 29 ∷ []) ∷ (3 ∷ 5 ∷ 7 ∷ 11 ∷ 31 ∷ [])
    ∷ (3 ∷ 5 ∷ 7 ∷ 11 ∷ 37 ∷ []) ∷ (3 ∷ 5 ∷ 7 ∷ 11 ∷ 41 ∷ []) ∷ (3 ∷ 5 ∷ 7 ∷ 11 ∷ 43 ∷ [])
    ∷ (3 ∷ 5 ∷ 7 ∷ 11 ∷ 47 ∷ []) ∷ (3 ∷ 5 ∷ 7 ∷ 11 ∷ 53 ∷ []) ∷ (3 ∷ 5 ∷ 7 ∷ 13 ∷ 17 ∷ [])
    ∷ (3 ∷ 5 ∷ 7 ∷ 13 ∷ 19 ∷ []) ∷ (3 ∷ 5 ∷ 7 ∷ 13 ∷ 23 ∷ []) ∷ (3 ∷ 5 ∷ 7 ∷ 13 ∷ 29 ∷ [])
    ∷ (3 ∷ 5 ∷ 7 ∷ 13 ∷ 31 ∷ []) ∷ (3 ∷ 5 ∷ 7 ∷ 13 ∷ 37 ∷ []) ∷ (3 ∷ 5 ∷ 7 ∷ 13 ∷ 41 ∷ [])
    ∷ (3 ∷ 5 ∷ 7 ∷ 13 ∷ 43 ∷ []) ∷ (3 ∷ 5 ∷ 7 ∷ 13 ∷ 47 ∷ []) ∷ (3 ∷ 5 ∷ 7 ∷ 17 ∷ 19 ∷ [])
    ∷ (3 ∷ 5 ∷ 7 ∷ 17 ∷ 23 ∷ []) ∷ (3 ∷ 5 ∷ 7 ∷ 17 ∷ 29 ∷ []) ∷ (3 ∷ 5 ∷ 7 ∷ 17 ∷ 31 ∷ [])
    ∷ (3 ∷ 5 ∷ 7 ∷ 19 ∷ 23 ∷ []) ∷ (3 ∷ 5 ∷ 7 ∷ 19 ∷ 29 ∷ []) ∷ (3 ∷ 5 ∷ 7 ∷ 19 ∷ 31 ∷ [])
    ∷ (3 ∷ 5 ∷ 11 ∷ 13 ∷ 17 ∷ []) ∷ (3 ∷ 5 ∷ 11 ∷ 13 ∷ 19 ∷ []) ∷ (3 ∷ 5 ∷ 11 ∷ 13 ∷ 23 ∷ [])
    ∷ (3 ∷ 5 ∷ 11 ∷ 13 ∷ 29 ∷ []) ∷ (3 ∷ 5 ∷ 11 ∷ 17 ∷ 19 ∷ []) ∷ (3 ∷ 5 ∷ 11 ∷ 17 ∷ 23 ∷ [])
    ∷ (3 ∷ 5 ∷ 13 ∷ 17 ∷ 19 ∷ []) ∷ (3 ∷ 7 ∷ 11 ∷ 13 ∷ 17 ∷ []) ∷ (3 ∷ 7 ∷ 11 ∷ 13 ∷ 19 ∷ []) ∷ []

pub all-fives : risings 5 2 65535 ≡ fives
unfolding fives risings walk starting_with is_prime some_to divides
all-fives = refl

pub of_five :
    (r : ℕ)
    → OddSquarefree r
    → k_of r ≡ 5
    → r ≤ 65535
    → (ps : List ℕ) × Memᴰ ps fives × Rising 2 ps × (product_of_list ps ≡ r)
of_five r O five u =
    let (ps, R, e) = in_primes r O in
    let size : length ps ≡ 5 = sym (rising_k (omega arith) R) ∙ (ap k_of e ∙ five) in
    (ps, rw all-fives at (risings-complete 5 2 65535 R size (rw e u)), R, e)
