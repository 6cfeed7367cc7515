-- The kept half after all divisors below r is the lower half of the polynomial of r (`kept-all`), for odd squarefree r
-- above 1. All terms but that of r itself, 1 - z^r, are in it; so for F it agrees with F(r) below degree r, and for I,
-- where each term is inverted and the start is -1, it is -(1 - z^r) / F(r) = I(r) itself. A step is a product with its
-- term (`step-term`): so the kept half after j steps is the product of the first j terms (`step_kept`).
use Rattle.std.specs.Prelude.{ℕ, zero, suc, ◌+◌, ◌-◌, ◌/◌, ◌≤◌, ◌<◌, ◌≡◌, Bool, not, ◌≢◌, List, [], ◌∷◌, ◌++◌, map, length, take, get_or}
use Rattle.std.proofs.Math.Path.{refl, sym, ap, fun_ext}
use Rattle.std.proofs.Common.{◌∙◌, ap₂, arith, eqb-true, take-suc}
use Rattle.std.proofs.Math.Bool.{true, false, cond}
use Rattle.std.proofs.lemmas.List.{map-append}
use Rattle.std.proofs.Math.Nat as NatL
use Rattle.std.proofs.Math.Decide.{dec_lt}
use Rattle.std.proofs.Math.Dec.{eqb}
use Rattle.std.proofs.Math.Seq.{take-length}
use Rattle.definitions.specs.Integers.{◌⊝◌, 0ℤ}
use Rattle.definitions.specs.Series.{Series, 𝟙, ◌+ˢ◌, _ˢ, ◌·◌, z^, firsts}
use Rattle.definitions.specs.Numbers.{divides, list_to, divisors_below, mu_is_plus}
use Rattle.definitions.specs.Polynomials.{product_to, at_divisors, z^_1, F, I, polynomial}
use Rattle.definitions.specs.Steps.{Sort, comb, accumulate, stepped, accumulated, entries, step_list}
use Rattle.definitions.specs.Requests.{next_divisor}
use Rattle.definitions.specs.KeptHalf.{half_degree, sort_of, term_of, term, start, product_of, kept_series, kept_half}
use Rattle.integers.specs.Solver.{:1, ◌:+◌, ◌:*◌, :-, x, y, z}
use Rattle.series.specs.Laws.{agree_mul, ·_assoc, ·_comm, ·_one, one_·, ringˢ}
use Rattle.numbers.specs.Apart.{OddSquarefree}
use Rattle.step_laws.specs.Firsts.{length-firsts, get_or-firsts, firsts_same}
use Rattle.step_laws.specs.Signed.{add-sub}
use Rattle.step_laws.specs.Step.{combed_from, stepped_below}
use Rattle.step_laws.specs.Accumulated.{accumulated_from, accumulated_below}
use Rattle.cyclotomic.specs.Family.{over_same, last_divisor, only_inverse}
use Rattle.cyclotomic.specs.Degrees.{half_below}
use Rattle.cyclotomic.specs.OnePrime.{divisors_both}
use Rattle.cyclotomic.specs.Terms.{other, comb_below, comb_from, inverse_terms, terms, all-terms}
use Rattle.cyclotomic.specs.Terms.{last_comb, over_ones}

-- ---- products over a list
pub product-append : (fs gs : List Series) → product_of (fs ++ gs) ≡ product_of fs · product_of gs
unfolding product_of
product-append [] gs = sym (one_· (product_of gs))
product-append (f ∷ fs) gs = ap (λ q. f · q) (product-append fs gs) ∙ sym (·_assoc f (product_of fs) (product_of gs))

picked : (t : ℕ → Series) (b : Bool) (d : ℕ) → product_of (map t (cond b (d ∷ []) [])) ≡ cond b (t d) 𝟙
unfolding product_of
picked t true d = ·_one (t d)
picked t false d = refl

pub list_product : (t : ℕ → Series) (q : ℕ → Bool) (k : ℕ) → product_of (map t (list_to k q))
    ≡ product_to k (λ d. cond (q d) (t d) 𝟙)
unfolding list_to product_to product_of
list_product t q zero = refl
list_product t q (suc k) =
    ap product_of (map-append t (list_to k q) (cond (q (suc k)) (suc k ∷ []) []))
    ∙ product-append (map t (list_to k q)) (map t (cond (q (suc k)) (suc k ∷ []) []))
    ∙ ap₂ ◌·◌ (list_product t q k) (picked t (q (suc k)) (suc k))

-- ---- after all divisors below r
-- the product of their terms
below : ℕ → ℕ → Series
below kind k = product_to k (at_divisors (suc k) (term kind (suc k)))

kept-product : (kind k : ℕ) → kept_series kind (suc k) (length (divisors_below (suc k))) ≡ start kind · below kind k
unfolding kept_series divisors_below below at_divisors
kept-product kind k =
    ap (λ l. start kind · product_of (map (term kind (suc k)) l))
    (take-length (list_to (suc k - 1) (λ d. divides d (suc k))))
    ∙ ap (λ j. start kind · product_of (map (term kind (suc k)) (list_to j (λ d. divides d (suc k))))) (one_less k)
    ∙ ap (λ q. start kind · q) (list_product (term kind (suc k)) (λ d. divides d (suc k)) k)
  where
    one_less : (k : ℕ) → suc k - 1 ≡ k
    one_less k = omega arith

-- for F all terms are there but the last
below_F : (k : ℕ) → OddSquarefree (suc k) → suc k ≢ 1 → below 1 k · term_of comb (suc k) ≡ F (suc k)
unfolding below terms
below_F k O h =
    ap (λ q. below 1 k · q) (sym (last_comb (suc k) O.pos)) ∙ sym (last_divisor k (term 1 (suc k)))
    ∙ all-terms (suc k) O h

-- for I each term is inverted
below_both : (kind k : ℕ) → eqb kind 1 ≡ false → below kind k · below 1 k ≡ 𝟙
unfolding below term sort_of other
below_both kind k e =
    divisors_both (suc k) (term kind (suc k)) (term 1 (suc k)) k
    ∙ over_same (suc k) k (λ d l u h. inverts (mu_is_plus (suc k / d)) d l)
    ∙ over_ones (suc k) k
  where
    inverts : (b : Bool) (d : ℕ) → 0 < d → term_of (cond (cond (eqb kind 1) b (not b)) comb accumulate) d
        · term_of (cond b comb accumulate) d ≡ 𝟙
    inverts b d l = ap (λ c. term_of (cond (cond c b (not b)) comb accumulate) d · term_of (cond b comb accumulate) d) e
        ∙ by b
      where
        by : (b : Bool) → term_of (cond (not b) comb accumulate) d · term_of (cond b comb accumulate) d ≡ 𝟙
        by true = inverse_terms comb d l
        by false = inverse_terms accumulate d l

-- the kept series agrees with the polynomial below degree r
module _ (k : ℕ) (O : OddSquarefree (suc k)) (h : suc k ≢ 1) where
  kept-F : (i : ℕ) → i < suc k → (𝟙 · below 1 k) i ≡ F (suc k) i
  kept-F i l =
      ap (λ q. q i) (one_· (below 1 k)) ∙ sym (comb_below (suc k) (below 1 k) i l)
      ∙ ap (λ q. q i) (·_comm (term_of comb (suc k)) (below 1 k) ∙ below_F k O h)

  kept-I : (kind : ℕ) → eqb kind 1 ≡ false → _ˢ 𝟙 · below kind k ≡ I (suc k)
  unfolding term_of z^_1
  kept-I kind e =
      only_inverse (suc k) (_ˢ 𝟙 · below kind k)
      (ap (λ q. q · (_ˢ 𝟙 · below kind k)) (sym (below_F k O h))
      ∙ ringˢ (below 1 k ∷ z^ (suc k) ∷ below kind k ∷ []) (x :* (:1 :+ :- y) :* (:- :1 :* z))
      (z :* x :* (y :+ :- :1)) refl
      ∙ ap (λ q. q · (z^ (suc k) +ˢ _ˢ 𝟙)) (below_both kind k e) ∙ one_· (z^ (suc k) +ˢ _ˢ 𝟙))

  kept_agrees : (kind i : ℕ) → i < suc k → kept_series kind (suc k) (length (divisors_below (suc k))) i
      ≡ polynomial kind (suc k) i
  unfolding start polynomial
  kept_agrees kind i l = ap (λ q. q i) (kept-product kind k) ∙ go (eqb kind 1) refl
    where
      go : (b : Bool) → eqb kind 1 ≡ b → (cond (eqb kind 1) 𝟙 (_ˢ 𝟙) · below kind k) i
          ≡ cond (eqb kind 1) (F (suc k)) (I (suc k)) i
      go true e =
          ap (λ n. (cond (eqb n 1) 𝟙 (_ˢ 𝟙) · below n k) i) (eqb-true kind 1 e) ∙ kept-F i l
          ∙ sym (ap (λ c. cond c (F (suc k)) (I (suc k)) i) e)
      go false e =
          ap (λ c. (cond c 𝟙 (_ˢ 𝟙) · below kind k) i) e ∙ ap (λ q. q i) (kept-I kind e)
          ∙ sym (ap (λ c. cond c (F (suc k)) (I (suc k)) i) e)

-- after all divisors below r the kept half is the lower half of the polynomial of r
pub kept-all :
    (kind r : ℕ) → OddSquarefree r → r ≢ 1
    → kept_half kind r (length (divisors_below r)) ≡ firsts (half_degree kind r + 1) (polynomial kind r)
unfolding kept_half
kept-all kind zero O h = absurd (NatL.not-suc-le-zero O.pos)
kept-all kind (suc k) O h =
    firsts_same (half_degree kind (suc k) + 1) (kept_series kind (suc k) (length (divisors_below (suc k))))
    (polynomial kind (suc k))
    (λ i l. kept_agrees k O h kind i
    (omega (arith, half_below kind (suc k) (NatL.lt_of_not-le (λ b. h (omega (arith, O.pos)))))))

-- ---- one step after the other
-- a step is a product with its term
pub step-term : (s : Sort) (d : ℕ) → 0 < d → (f : Series) → stepped s d f ≡ term_of s d · f
unfolding stepped other
step-term comb d l f = fun_ext (λ i. go i (dec_lt i d))
  where
    go : (i : ℕ) → Dec (i < d) → stepped comb d f i ≡ (term_of comb d · f) i
    go i (yes h) = stepped_below d f comb i h ∙ sym (comb_below d f i h)
    go i (no h) = let k : d ≤ i = omega (arith, NatL.lt_of_not-le h) in combed_from d f i k ∙ sym (comb_from d f i k)
step-term accumulate d l f =
    sym (one_· (accumulated d f)) ∙ ap (λ q. q · accumulated d f) (sym (inverse_terms comb d l))
    ∙ ·_assoc (term_of accumulate d) (term_of comb d) (accumulated d f)
    ∙ ap (λ q. term_of accumulate d · q) (fun_ext (λ i. go i (dec_lt i d)))
  where
    go : (i : ℕ) → Dec (i < d) → (term_of comb d · accumulated d f) i ≡ f i
    go i (yes h) = comb_below d (accumulated d f) i h ∙ accumulated_below d f i h
    go i (no h) =
        let k : d ≤ i = omega (arith, NatL.lt_of_not-le h) in
        comb_from d (accumulated d f) i k ∙ ap (λ a. a ⊝ accumulated d f (i - d)) (accumulated_from d f i l k)
        ∙ add-sub (f i) (accumulated d f (i - d))

-- so on the first n entries of a series it leaves those of the product
pub step-firsts : (s : Sort) (d : ℕ) → 0 < d → (n : ℕ) (f : Series) → step_list s d (firsts n f)
    ≡ firsts n (term_of s d · f)
unfolding step_list entries
step-firsts s d l n f =
    ap (λ k. firsts k (stepped s d (λ i. get_or (firsts n f) i 0ℤ))) (length-firsts n f)
    ∙ firsts_same n (stepped s d (λ i. get_or (firsts n f) i 0ℤ)) (term_of s d · f)
    (λ i b. ap (λ q. q i) (step-term s d l (λ i. get_or (firsts n f) i 0ℤ))
    ∙ agree_mul i (term_of s d) (λ i. get_or (firsts n f) i 0ℤ) f (λ j c. get_or-firsts n f j (omega arith)))

pub kept_next : (kind r j : ℕ) → j < length (divisors_below r) → kept_series kind r (suc j)
    ≡ term kind r (next_divisor r j) · kept_series kind r j
unfolding kept_series next_divisor product_of
kept_next kind r j h =
    ap (λ l. start kind · product_of (map (term kind r) l)) (take-suc (divisors_below r) j 0 h)
    ∙ ap (λ l. start kind · product_of l)
    (map-append (term kind r) (take j (divisors_below r)) (get_or (divisors_below r) j 0 ∷ []))
    ∙ ap (λ q. start kind · q)
    (product-append (map (term kind r) (take j (divisors_below r))) (term kind r (get_or (divisors_below r) j 0) ∷ []))
    ∙ ringˢ (start kind ∷ product_of (map (term kind r) (take j (divisors_below r)))
    ∷ term kind r (get_or (divisors_below r) j 0) ∷ [])
    (x :* (y :* (z :* :1))) (z :* (x :* y)) refl

-- and so the kept half after one divisor more is the step on the kept half
pub step_kept :
    (kind r j : ℕ) → j < length (divisors_below r) → 0 < next_divisor r j
    → step_list (sort_of kind r (next_divisor r j)) (next_divisor r j) (kept_half kind r j) ≡ kept_half kind r (suc j)
unfolding kept_half term
step_kept kind r j h l =
    step-firsts (sort_of kind r (next_divisor r j)) (next_divisor r j) l (half_degree kind r + 1) (kept_series kind r j)
    ∙ ap (firsts (half_degree kind r + 1)) (sym (kept_next kind r j h))

pub kept-start : (kind r : ℕ) → kept_half kind r 0 ≡ firsts (half_degree kind r + 1) (start kind)
unfolding kept_half kept_series product_of
kept-start kind r = ap (firsts (half_degree kind r + 1)) (·_one (start kind))
