-- A list of indices, one more at a time: the product, its degree and its gain with one factor more; that a part of a
-- good list is good and no longer; that the product is monic of the total degree; and that a product that is out of
-- range stays told.
use Prim.Native.Nat.{ℕ, zero, suc, ◌+◌, ◌<◌, ◌≤◌, max}
use mathlib.Core.Path.{◌≡◌, refl, sym, ◌∙◌, ap}
use mathlib.Core.Bool.{true, false, true≢false}
use mathlib.Core.Logic.{⊎_elim}
use mathlib.Core.List.{List, [], ◌∷◌, ◌++◌, map, map-append}
use native.Mathlib.Omega.{arith}
use native.Mathlib.Nat as NatL
use lib.ListN.{length, take, get_or}
use lib.Seq.{take-suc}
use Rattle.definitions.specs.Integers.{◌⊗◌, 1ℤ}
use Rattle.definitions.specs.Series.{◌·◌, constant, 𝟙}
use Rattle.definitions.specs.Numbers.{phi}
use Rattle.definitions.specs.Polynomials.{F, polynomial}
use Rattle.definitions.specs.KeptHalf.{product_of, sum_of}
use Rattle.definitions.specs.Requests.{good_index}
use Rattle.definitions.specs.Answer.{gain_of, gain}
use Rattle.definitions.specs.Cascades.{product, total_degree, product_coefficients, longest, all_good}
use Rattle.definitions.specs.Cascades.{firsts_over, factor_over, cascade_over}
use Rattle.integers.specs.Whole.{⊗_comm}
use Rattle.numbers.specs.Tests.{test_true, test_and}
use Rattle.step_laws.specs.Tests.{not_true_is}
use Rattle.series.specs.Laws.{·_comm, ·_one, constant-above}
use Rattle.series.specs.Degree.{Monic, monic_mul}
use Rattle.series.specs.AtOne.{AtOne, at_one, at_one-mul, only}
use Rattle.cyclotomic.specs.Degrees.{monic_F}
use Rattle.cyclotomic.specs.Kept.{product-append}
use Rattle.cyclotomic.specs.Gain.{gain_at_one}
use Rattle.index.proofs.Laws.{index_good}
use Rattle.next_factor.proofs.Delivered.{never}

-- the first index is good, and so are the others
first-and-rest : (n : ℕ) (ns : List ℕ) → all_good (n ∷ ns) ≡ true → (good_index n ≡ true) × (all_good ns ≡ true)
unfolding all_good
first-and-rest n ns = (test_and (test_true (good_index n)) (test_true (all_good ns))).shows

-- ---- the part of a good list
pub good_part : (ns : List ℕ) (i : ℕ) → all_good ns ≡ true → all_good (take i ns) ≡ true
unfolding all_good
good_part ns zero g = refl
good_part [] (suc i) g = refl
good_part (n ∷ ns) (suc i) g =
    let h = first-and-rest n ns g in rw h.0 (good_part ns i h.1)

pub good_at : (ns : List ℕ) (i : ℕ) → i < length ns → all_good ns ≡ true → good_index (get_or ns i 0) ≡ true
unfolding all_good
good_at [] i l g = absurd (NatL.not-suc-le-zero l)
good_at (n ∷ ns) zero l g = (first-and-rest n ns g).0
good_at (n ∷ ns) (suc i) l g = good_at ns i (NatL.le_of_suc-le-suc l) (first-and-rest n ns g).1

pub longest_at : (ns : List ℕ) (i : ℕ) → i < length ns → phi (get_or ns i 0) ≤ longest ns
unfolding longest
longest_at [] i l = absurd (NatL.not-suc-le-zero l)
longest_at (n ∷ ns) zero l = omega arith
longest_at (n ∷ ns) (suc i) l = NatL.le_trans (longest_at ns i (NatL.le_of_suc-le-suc l)) (omega arith)

pub degree-part : (ns : List ℕ) (i : ℕ) → total_degree (take i ns) ≤ total_degree ns
unfolding total_degree sum_of
degree-part ns zero = omega arith
degree-part [] (suc i) = omega arith
degree-part (n ∷ ns) (suc i) = omega (arith, degree-part ns i)

-- ---- one index more
pub good_more : (ns : List ℕ) (i : ℕ) → i < length ns → all_good (take i ns) ≡ true → good_index (get_or ns i 0) ≡ true
    → all_good (take (suc i) ns) ≡ true
unfolding all_good
good_more [] i l g h = absurd (NatL.not-suc-le-zero l)
good_more (n ∷ ns) zero l g h = rw h refl
good_more (n ∷ ns) (suc i) l g h =
    let b = first-and-rest n (take i ns) g in
    rw b.0 (good_more ns i (NatL.le_of_suc-le-suc l) b.1 h)

pub bad_at : (ns : List ℕ) (i : ℕ) → i < length ns → good_index (get_or ns i 0) ≡ false → all_good ns ≡ false
bad_at ns i l e = not_true_is (all_good ns) (λ g. true≢false (sym (good_at ns i l g) ∙ e))

pub longest_more : (ns : List ℕ) (i : ℕ) → i < length ns
    → longest (take (suc i) ns) ≡ max (longest (take i ns)) (phi (get_or ns i 0))
unfolding longest
longest_more [] i l = absurd (NatL.not-suc-le-zero l)
longest_more (n ∷ ns) zero l = omega arith
longest_more (n ∷ ns) (suc i) l = omega (arith, longest_more ns i (NatL.le_of_suc-le-suc l))

-- ---- one factor more
sum-append : (xs ys : List ℕ) → sum_of (xs ++ ys) ≡ sum_of xs + sum_of ys
unfolding sum_of
sum-append [] ys = omega arith
sum-append (a ∷ xs) ys = omega (arith, sum-append xs ys)

module _ (ns : List ℕ) (i : ℕ) (l : i < length ns) where
  pub degree_more : total_degree (take (suc i) ns) ≡ total_degree (take i ns) + phi (get_or ns i 0)
  unfolding total_degree sum_of
  degree_more =
      ap (λ x. sum_of (map phi x)) (take-suc ns i 0 l) ∙ ap sum_of (map-append phi (take i ns) (get_or ns i 0 ∷ []))
      ∙ sum-append (map phi (take i ns)) (phi (get_or ns i 0) ∷ []) ∙ omega arith

  pub product_more : product (take (suc i) ns) ≡ F (get_or ns i 0) · product (take i ns)
  unfolding product product_of
  product_more =
      ap (λ x. product_of (map F x)) (take-suc ns i 0 l) ∙ ap product_of (map-append F (take i ns) (get_or ns i 0 ∷ []))
      ∙ product-append (map F (take i ns)) (F (get_or ns i 0) ∷ [])
      ∙ ap (λ q. product_of (map F (take i ns)) · q) (·_one (F (get_or ns i 0)))
      ∙ ·_comm (product_of (map F (take i ns))) (F (get_or ns i 0))

-- ---- the product is monic of the total degree
monic_one : Monic 0 𝟙
unfolding constant
monic_one = record { top = refl; above = λ i b. constant-above 1ℤ i b }

pub monic_product : (ns : List ℕ) → all_good ns ≡ true → Monic (total_degree ns) (product ns)
unfolding total_degree product sum_of product_of all_good
monic_product [] g = monic_one
monic_product (n ∷ ns) g =
    let h = first-and-rest n ns g in
    monic_mul (phi n) (total_degree ns) (F n) (product ns) (monic_F n (index_good n h.0).0) (monic_product ns h.1)

-- ---- the gain is the product at 1
pub gain_of-product : (ns : List ℕ) → all_good ns ≡ true → AtOne (product ns) (gain_of (product_coefficients ns))
unfolding product_coefficients
gain_of-product ns g = at_one (suc (total_degree ns)) (product ns) (monic_product ns g).above

pub gain_more : (ns : List ℕ) (i : ℕ) → i < length ns → all_good ns ≡ true
    → gain_of (product_coefficients (take (suc i) ns))
    ≡ gain_of (product_coefficients (take i ns)) ⊗ gain 1 (get_or ns i 0)
unfolding polynomial
gain_more ns i l g =
    only (product (take (suc i) ns)) (gain_of (product_coefficients (take (suc i) ns)))
    (gain_of (product_coefficients (take i ns)) ⊗ gain 1 (get_or ns i 0))
    (gain_of-product (take (suc i) ns) (good_part ns (suc i) g))
    (rw (product_more ns i l, ⊗_comm (gain_of (product_coefficients (take i ns))) (gain 1 (get_or ns i 0)))
    (at_one-mul (F (get_or ns i 0)) (product (take i ns)) (gain 1 (get_or ns i 0))
    (gain_of (product_coefficients (take i ns))) (gain_at_one 1 (get_or ns i 0) (index_good _ (good_at ns i l g)).0)
    (gain_of-product (take i ns) (good_part ns i g))))

-- ---- out of range
pub stays_over : (ns : List ℕ) (i j : ℕ) → i ≤ j → firsts_over i ns ≡ true → firsts_over j ns ≡ true
unfolding firsts_over
stays_over ns i zero l e = let z : i ≡ 0 = omega arith in rw z at e
stays_over ns i (suc j) l e =
    ⊎_elim (λ (same : i ≡ suc j). rw same at e) (λ (less : i < suc j). rw (stays_over ns i j (omega arith) e) refl)
    (NatL.eq-or-lt_of_le l)

-- no factor alone is OVER
pub no_factor_over : (ns : List ℕ) → all_good ns ≡ true → factor_over ns ≡ false
unfolding factor_over all_good
no_factor_over [] g = refl
no_factor_over (n ∷ ns) g =
    let h = first-and-rest n ns g in rw (never n h.0) (no_factor_over ns h.1)

pub over_by_firsts : (ns : List ℕ) → all_good ns ≡ true → cascade_over ns ≡ firsts_over (length ns) ns
unfolding cascade_over
over_by_firsts ns g = rw (no_factor_over ns g) refl
