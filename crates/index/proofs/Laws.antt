-- What a caller knows of n taken apart: its fields, by the names of docs/RULES.md, and the degree of a kind as it is
-- computed.
use Prim.Native.Nat.{ℕ, ◌-◌, ◌/◌, ◌<◌, ◌≤◌}
use mathlib.Core.Path.{◌≡◌, refl, sym, ◌∙◌, ap, ap₂}
use mathlib.Core.Bool.{Bool, true, false, cond}
use native.Mathlib.Omega.{arith}
use native.Mathlib.Nat as NatL
use native.Mathlib.Decide.{ℕ_discrete}
use borrow.Author.Tests.{lt-ltb, le-ltb}
use lib.Dec.{eqb, ltb}
use Rattle.definitions.specs.Numbers.{count_to, phi, r_of, k_of, m_of, t_of}
use Rattle.definitions.specs.Polynomials.{degree}
use Rattle.definitions.specs.KeptHalf.{half_degree}
use Rattle.definitions.specs.Requests.{good_index}
use Rattle.numbers.specs.Tests.{not_both, test_and, test_lt, test_le}
use Rattle.numbers.specs.Apart.{r-divides}
use Rattle.numbers.specs.Phi.{phi-le}
use Rattle.numbers.specs.AtMostFive.{k_at_most_5}
use Rattle.step_laws.specs.Tests.{by_order}
use Rattle.index.specs.Parts.{parts_of, taken_apart}
use Rattle.index.specs.declared.Parts.{Parts}

-- ---- a good index, and any other
pub index_good : (n : ℕ) → good_index n ≡ true → (0 < n) × (n ≤ 65535)
unfolding good_index
index_good n e = (test_and (test_lt 0 n) (test_le n 65535)).shows e

pub good_index_lem : (n : ℕ) → 0 < n → n ≤ 65535 → good_index n ≡ true
unfolding good_index
good_index_lem n low high = (test_and (test_lt 0 n) (test_le n 65535)).says (low, high)

zero-or-above : (n : ℕ) → good_index n ≡ false → cond (ltb 65535 n) 0 n ≡ 0
zero-or-above n e =
    by_order 65535 n (λ h. rw (lt-ltb 65535 n h)) (λ h. rw (le-ltb 65535 n h) (inside h (ℕ_discrete n 0)))
  where
    inside : n ≤ 65535 → Dec (n ≡ 0) → n ≡ 0
    inside h (yes z) = z
    inside h (no z) = absurd (not_both (good_index_lem n (NatL.pos_of_ne-zero z) h) e)

pub taken_none : (n : ℕ) → good_index n ≡ false → taken_apart n ≡ parts_of 0
unfolding taken_apart
taken_none n e = ap parts_of (zero-or-above n e)

pub taken_good : (n : ℕ) → good_index n ≡ true → taken_apart n ≡ parts_of n
unfolding taken_apart
taken_good n g = ap (λ b. parts_of (cond b 0 n)) (le-ltb 65535 n (index_good n g).1)

-- ---- the parts
module _ (n : ℕ) (x : Parts) (e : x ≡ parts_of n) where
  pub parts_r : x.r ≡ r_of n
  unfolding parts_of
  parts_r = ap (λ (y : Parts). y.r) e

  pub parts_m : x.m ≡ m_of n
  unfolding parts_of
  parts_m = ap (λ (y : Parts). y.m) e

  pub parts_t : x.t ≡ t_of n
  unfolding parts_of
  parts_t = ap (λ (y : Parts). y.t) e

  pub parts_free : x.free ≡ phi (r_of n)
  unfolding parts_of
  parts_free = ap (λ (y : Parts). y.free) e

  pub parts_phi : x.phi ≡ phi n
  unfolding parts_of
  parts_phi = ap (λ (y : Parts). y.phi) e

  pub phi_within : x.phi ≤ n
  phi_within = omega (arith, parts_phi, phi-le n)

  pub parts_degree : (kind d : ℕ) → d ≡ cond (eqb kind 1) x.phi (n - x.phi) → d ≡ degree kind n
  unfolding degree
  parts_degree kind d q = q ∙ ap (λ f. cond (eqb kind 1) f (n - f)) parts_phi

  pub parts_half : (kind d : ℕ) → d ≡ cond (eqb kind 1) x.free (x.r - x.free) / 2 → d ≡ half_degree kind (r_of n)
  unfolding half_degree degree
  parts_half kind d q = q ∙ ap₂ (λ f r. cond (eqb kind 1) f (r - f) / 2) parts_free parts_r

  pub parts_k : x.count ≡ k_of n
  unfolding parts_of
  parts_k = ap (λ (y : Parts). y.count) e

  pub parts_few : good_index n ≡ true → x.count ≤ 5
  parts_few g = rw parts_k (k_at_most_5 n (index_good n g).1)

pub r_small : (n : ℕ) → good_index n ≡ true → r_of n ≤ 65535
r_small n g = let (a, b) = index_good n g in NatL.le_trans (NatL.le_of_dvd a (r-divides n)) b

-- ---- the degree: above 65,535 there is none, and at 0 it is 0
none_at_zero : (kind : ℕ) → degree kind 0 ≡ 0
unfolding degree phi count_to
none_at_zero kind = go (eqb kind 1)
  where
    go : (b : Bool) → cond b (phi 0) (0 - phi 0) ≡ 0
    go true = refl
    go false = refl

degree_in-reach : (kind n : ℕ) → degree kind (cond (ltb 65535 n) 0 n) ≡ cond (ltb 65535 n) 0 (degree kind n)
degree_in-reach kind n = go (ltb 65535 n)
  where
    go : (b : Bool) → degree kind (cond b 0 n) ≡ cond b 0 (degree kind n)
    go true = none_at_zero kind
    go false = refl

pub no_degree : (kind n : ℕ) → good_index n ≡ false → 0 ≡ cond (ltb 65535 n) 0 (degree kind n)
no_degree kind n e =
    sym (none_at_zero kind) ∙ ap (degree kind) (sym (zero-or-above n e)) ∙ degree_in-reach kind n

pub its_degree : (kind n d : ℕ) → n ≤ 65535 → d ≡ degree kind n → d ≡ cond (ltb 65535 n) 0 (degree kind n)
its_degree kind n d h e = e ∙ sym (ap (λ b. cond b 0 (degree kind n)) (le-ltb 65535 n h))

pub degree-le : (kind n : ℕ) → degree kind n ≤ n
unfolding degree
degree-le kind n = go (eqb kind 1) (phi n) (phi-le n)
  where
    go : (b : Bool) (p : ℕ) → p ≤ n → cond b p (n - p) ≤ n
    go true p h = h
    go false p h = omega arith

-- as `degree_of` tells it, it is the true one within reach, and small everywhere
module _ (kind n d : ℕ) (told : d ≡ cond (ltb 65535 n) 0 (degree kind n)) where
  pub told-right : n ≤ 65535 → d ≡ degree kind n
  told-right h = told ∙ simp (le-ltb 65535 n h)

  pub told_small : d ≤ 65535
  told_small = by_order 65535 n (λ h. rw (told, lt-ltb 65535 n h) (omega arith))
      (λ h. rw (told-right h) (omega (arith, degree-le kind n)))
