-- The divisors of a product of listed primes, listed with their mu: a new prime p turns mu(r/d) round for the divisors
-- there were, and p d has the mu that d had. So a product over all divisors is one over this list (`over-listed`), put
-- in ascending order (`product-ascending`), and every stop of r is the product over the part of it up to m
-- (`stop-listed`).
use Rattle.std.specs.Prelude.{ℕ, ◌*◌, ◌/◌, ◌≤◌, ◌≡◌, Bool, cond, not, eqb, leb}
use Rattle.std.proofs.Math.Path.{refl, ap}
use Rattle.std.proofs.Common.{sym, ◌∙◌, ap₂, le_refl, le-leb}
use Rattle.std.proofs.Math.Bool.{true, false}
use mathlib.Core.List.{List, [], ◌∷◌, ◌++◌, map, map-append, map-map}
use Rattle.definitions.specs.Series.{Series, 𝟙, ◌·◌}
use Rattle.definitions.specs.Numbers.{divides, mu_is_plus, primes_of, count_to, is_prime}
use Rattle.definitions.specs.Polynomials.{at_divisors}
use Rattle.definitions.specs.Steps.{Sort, comb, accumulate}
use Rattle.definitions.specs.KeptHalf.{sort_of, term, term_of, product_of}
use Rattle.series.specs.Laws.{·_comm, ·_left_comm}
use Rattle.numbers.specs.Folds.{fold_to, only, fold_same, fold-further}
use Rattle.numbers.specs.Primes.{prime_pos}
use Rattle.numbers.specs.Divisors.{split-new, divisors-same, quotient_new}
use Rattle.numbers.specs.HowMany.{mu_turned}
use Rattle.numbers.specs.PrimeLists.{product_of_list, Rising, none, more, rising_pos, rising_new}
use Rattle.cyclotomic.specs.Family.{times, product-fold}
use Rattle.cyclotomic.specs.Terms.{cond-one}
use Rattle.cyclotomic.specs.Kept.{product-append}
use Rattle.never_over.specs.Stops.{up_to}
use Rattle.never_over.specs.Sizes.{combs}
use Rattle.never_over.specs.Pairs.{due_to, later}

-- a divisor d of r, and whether mu(r/d) is +1
abbrev pub Divisor : Type 0
Divisor = ℕ × Bool

unfoldable pub listed : List ℕ → List Divisor
listed [] = (1, true) ∷ []
listed (p ∷ ps) = map (λ x. (x.0, not x.1)) (listed ps) ++ map (λ x. (p * x.0, x.1)) (listed ps)

-- the product over the divisors of n, as a fold
abbrev over_all : ℕ → (ℕ → Series) → Series
over_all n g = fold_to times (only times (λ d. divides d n) g) n

one-listed : (h : ℕ → Bool → Series) → over_all 1 (λ d. h d (mu_is_plus (1 / d))) ≡ product_of (h 1 true ∷ [])
unfolding fold_to divides mu_is_plus primes_of count_to is_prime product_of
one-listed h = ·_comm 𝟙 (h 1 true)

over-listed : {low : ℕ} {ps : List ℕ} → Rising low ps → (h : ℕ → Bool → Series)
    → over_all (product_of_list ps) (λ d. h d (mu_is_plus (product_of_list ps / d)))
    ≡ product_of (map (λ x. h x.0 x.1) (listed ps))
unfolding product_of_list listed
over-listed none h = one-listed h
over-listed (more {p} {ps} P l R) h =
    let r = product_of_list ps in
    let new = rising_new P (le_refl p) R in
    let each : Divisor → Series = λ x. h x.0 x.1 in
    let turn : Divisor → Divisor = λ x. (x.0, not x.1) in
    let grow : Divisor → Divisor = λ x. (p * x.0, x.1) in
    split-new times (λ d. h d (mu_is_plus (r * p / d))) P r (rising_pos R) new
    ∙ ap₂ ◌·◌
    (divisors-same times r _ _ r (λ d l u k. ap (h d) (mu_turned r p d (rising_pos R) P new k))
    ∙ over-listed R (λ d b. h d (not b)))
    (divisors-same times r _ _ r (λ d l u k. ap (λ q. h (p * d) (mu_is_plus q)) (quotient_new r p d (prime_pos P)))
    ∙ over-listed R (λ d b. h (p * d) b))
    ∙ sym
    (ap product_of (map-append each (map turn (listed ps)) (map grow (listed ps)))
    ∙ product-append (map each (map turn (listed ps))) (map each (map grow (listed ps)))
    ∙ ap₂ (λ a b. product_of a · product_of b) (map-map each turn (listed ps)) (map-map each grow (listed ps)))

-- ---- in ascending order
unfoldable pub inserted : Divisor → List Divisor → List Divisor
inserted x [] = x ∷ []
inserted x (y ∷ ys) = cond (leb x.0 y.0) (x ∷ y ∷ ys) (y ∷ inserted x ys)

unfoldable pub ascending : List Divisor → List Divisor
ascending [] = []
ascending (x ∷ xs) = inserted x (ascending xs)

module _ (g : Divisor → Series) where
  product-inserted : (x : Divisor) (ys : List Divisor) → product_of (map g (inserted x ys)) ≡ g x · product_of (map g ys)
  unfolding inserted product_of
  product-inserted x [] = refl
  product-inserted x (y ∷ ys) = go (leb x.0 y.0) (product-inserted x ys)
    where
      go : (b : Bool) → product_of (map g (inserted x ys)) ≡ g x · product_of (map g ys)
          → product_of (map g (cond b (x ∷ y ∷ ys) (y ∷ inserted x ys))) ≡ g x · (g y · product_of (map g ys))
      go true ih = refl
      go false ih = ap (λ q. g y · q) ih ∙ ·_left_comm (g y) (g x) (product_of (map g ys))

  product-ascending : (xs : List Divisor) → product_of (map g (ascending xs)) ≡ product_of (map g xs)
  unfolding ascending product_of
  product-ascending [] = refl
  product-ascending (x ∷ xs) = product-inserted x (ascending xs) ∙ ap (λ q. g x · q) (product-ascending xs)

-- ---- the stops
-- a divisor's step, for F or for I
unfoldable pub step_of : Bool → Divisor → ℕ × Sort
step_of first x = (x.0, cond (combs first x.1) comb accumulate)

-- the divisors above m leave no factor
up_to-all : (kind r m : ℕ) → m ≤ r → up_to kind r m ≡ over_all r (λ d. cond (leb d m) (term kind r d) 𝟙)
unfolding up_to at_divisors
up_to-all kind r m l =
    product-fold m (λ d. cond (divides d r) (term kind r d) 𝟙)
    ∙ fold_same times m (λ d a b. ap (λ c. cond (divides d r) (cond c (term kind r d) 𝟙) 𝟙) (sym (le-leb d m b)))
    ∙ sym (fold-further times _ m r l
    (λ d a b. ap (λ c. cond (divides d r) (cond c (term kind r d) 𝟙) 𝟙) (later d m a) ∙ cond-one (divides d r)))

pub stop-listed : {ps : List ℕ} → Rising 2 ps → (kind m : ℕ) → m ≤ product_of_list ps
    → up_to kind (product_of_list ps) m ≡ product_of (map (due_to m) (map (step_of (eqb kind 1)) (ascending (listed ps))))
unfolding step_of term sort_of
stop-listed {ps} R kind m l =
    up_to-all kind (product_of_list ps) m l
    ∙ over-listed R (λ d b. cond (leb d m) (term_of (cond (combs (eqb kind 1) b) comb accumulate) d) 𝟙)
    ∙ sym (product-ascending (λ x. due_to m (step_of (eqb kind 1) x)) (listed ps))
    ∙ ap product_of (sym (map-map (due_to m) (step_of (eqb kind 1)) (ascending (listed ps))))
