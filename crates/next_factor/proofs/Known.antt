-- What is known of F(n) before it is made: no coefficient is larger than crate `never_over` promises by r and the
-- number of its primes (`by_promise`), so the magnitudes add up to at most as many times that as there are terms
-- (`weighed`).
use Prim.Native.Nat.{ℕ, zero, suc, ◌+◌, ◌*◌, ◌^◌, ◌<◌, ◌≤◌}
use mathlib.Core.Path.{◌≡◌, refl, sym, ◌∙◌, ap}
use mathlib.Core.Bool.{true}
use native.Mathlib.Nat as NatL
use native.Mathlib.Omega.{arith}
use native.Mathlib.Numerals.{add-one}
use lib.ListN.{length}
use Rattle.definitions.specs.Numbers.{phi, r_of, k_of}
use Rattle.definitions.specs.Polynomials.{F, polynomial}
use Rattle.definitions.specs.Requests.{good_index}
use Rattle.definitions.specs.Answer.{height}
use Rattle.step_laws.specs.Bound.{firsts_bounded}
use Rattle.step_laws.specs.Firsts.{length-firsts}
use Rattle.cyclotomic.specs.Heights.{at_most-height}
use Rattle.numbers.specs.Apart.{r-pos}
use Rattle.index.specs.Parts.{parts_of}
use Rattle.index.specs.declared.Parts.{Parts}
use Rattle.index.proofs.Laws.{index_good, parts_k, parts_r, parts_phi, phi_within, r_small}
use Rattle.light_sums.specs.Weight.{weight-most}
use Rattle.never_over.specs.Promised.{promised_of, promised_at}
use Rattle.next_factor.specs.Times.{factor, Weighs}
use Rattle.next_factor.proofs.Delivered.{height-promised}

-- ---- the promise, by the number of primes
few : (k r : ℕ) → k < 2 → promised_at true k r ≡ 1
unfolding promised_at promised_of
few zero r l = refl
few (suc zero) r l = refl
few (suc (suc k)) r l = absurd (omega arith)

cubed : (r : ℕ) → 128 * 15 * r ^ 3 ≡ 1920 * (r * r * r)
cubed r =
    ap (λ x. 1920 * x) (NatL.pow-suc r 2 ∙ ap (λ x. x * r) (NatL.pow-suc r 1
    ∙ ap (λ x. x * r) (NatL.pow-suc r 0 ∙ ap (λ x. x * r) (NatL.pow-zero r) ∙ NatL.one-mul r)))

module _ (n : ℕ) (good : good_index n ≡ true) (parts : Parts) (apart : parts ≡ parts_of n) where
  pub r-most : parts.r ≤ 65535
  r-most = rw (parts_r n parts apart) (r_small n good)

  by_promise : (b : ℕ) → promised_at true parts.count parts.r ≡ b → 0 < b → height 1 n ≤ b
  by_promise b e some =
      let same : promised_at true (k_of n) (r_of n) ≡ b = rw (parts_k n parts apart, parts_r n parts apart) at e in
      rw same at (height-promised n good (rw same some))

  pub none-or-one : parts.count < 2 → height 1 n ≤ 1
  none-or-one l = by_promise 1 (few parts.count parts.r l) (omega arith)

  pub two : parts.count ≡ 2 → height 1 n ≤ 510
  unfolding promised_at promised_of
  two e = by_promise 510 (rw e) (omega arith)

  r-least : 0 < parts.r
  r-least = rw (parts_r n parts apart) (r-pos n)

  pub three : parts.count ≡ 3 → height 1 n ≤ 8 * parts.r
  unfolding promised_at promised_of
  three e = by_promise (8 * parts.r) (rw e) (omega (arith, r-least))

  pub four : parts.count ≡ 4 → height 1 n ≤ 1920 * (parts.r * parts.r * parts.r)
  unfolding promised_at promised_of
  four e =
      by_promise (1920 * (parts.r * parts.r * parts.r)) (rw e (cubed parts.r))
      (omega (arith, NatL.mul-pos (NatL.mul-pos r-least r-least) r-least))

  -- ---- the weight
  pub terms-most : parts.phi ≤ 65535
  terms-most = omega (arith, phi_within n parts apart, (index_good n good).1)

  pub weighed : (b : ℕ) → height 1 n ≤ b → Weighs n ((parts.phi + 1) * b)
  unfolding polynomial
  weighed b l =
      let most = weight-most (factor n) b
      (firsts_bounded b (suc (phi n)) (F n) (λ i _. NatL.le_trans (at_most-height 1 n (index_good n good).0 i) l)) in
      let many : length (factor n) ≡ parts.phi + 1
      = length-firsts (suc (phi n)) (F n) ∙ ap suc (sym (parts_phi n parts apart)) ∙ sym (add-one parts.phi) in
      omega (arith, rw many at most)

-- ---- the products fit
pub square : (r : ℕ) → r < 4096 → r * r ≤ 4095 * 4095
square r l = let most : r ≤ 4095 = omega arith in NatL.mul-le-mul most most

pub cube : (r : ℕ) → r < 4096 → r * r * r ≤ 68669157375
cube r l = let most : r ≤ 4095 = omega arith in NatL.mul-le-mul (square r l) most
