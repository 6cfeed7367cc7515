-- No coefficient of the polynomial of r is larger than `bound_for`: that of F of one prime by what is promised of its
-- steps, of two since it is flat, and any other since twice it is in range.
use Prim.Native.Nat.{ℕ, zero, suc, ◌<◌, ◌≤◌}
use mathlib.Core.Path.{◌≡◌, refl, sym, ◌∙◌, ap}
use mathlib.Core.Bool.{Bool, true, false, cond}
use mathlib.Core.Logic.{◌≢◌}
use native.Mathlib.Nat as NatL
use native.Mathlib.Omega.{arith}
use borrow.Author.Tests.{le-leb, lt-leb}
use lib.Dec.{eqb}
use lib.IntN.{nat_abs}
use Rattle.definitions.specs.Numbers.{list_to, row_to, odd_prime_of, r_of, k_of}
use Rattle.definitions.specs.Polynomials.{F, I, polynomial}
use Rattle.numbers.specs.Apart.{r_odd_squarefree, r-divides}
use Rattle.numbers.specs.HowMany.{k_of-r}
use Rattle.step_laws.specs.Tests.{by_order}
use Rattle.cyclotomic.specs.Heights.{at_most-height}
use Rattle.flat_for_two_primes.specs.Flat.{flat_of_two}
use Rattle.never_over.specs.Promised.{promised_of, promised_at}
use Rattle.never_over.proofs.Heights.{height-promised, twice_fits}
use Rattle.index.proofs.Rows.{list_r}
use Rattle.second.specs.Bounds.{bound_for}

module _ (n : ℕ) (pos : 0 < n) (small : n ≤ 65535) (above : r_of n ≢ 1) where
  r-pos : 0 < r_of n
  r-pos = (r_odd_squarefree n).pos

  r_small : r_of n ≤ 65535
  r_small = NatL.le_trans (NatL.le_of_dvd pos (r-divides n)) small

  single : k_of n ≡ 1 → (i : ℕ) → nat_abs (F (r_of n) i) ≤ 1
  unfolding polynomial promised_at promised_of
  single e i =
      let one : k_of (r_of n) ≡ 1 = k_of-r n pos ∙ e in
      NatL.le_trans (at_most-height 1 (r_of n) r-pos i)
      (rw one at (height-promised (r_of n) r-pos r_small 1 (rw one (omega arith))))

  flat : (k : ℕ) → k_of n ≡ k → k ≤ 2 → (i : ℕ) → i < r_of n → nat_abs (F (r_of n) i) ≤ 1
  unfolding row_to
  flat zero e h i b = absurd (above (sym (list_r n) ∙ ap (row_to (list_to n (odd_prime_of n))) e))
  flat (suc zero) e h i b = single e i
  flat (suc (suc zero)) e h i b = flat_of_two (r_of n) (r_odd_squarefree n) (k_of-r n pos ∙ e) i b
  flat (suc (suc (suc k))) e h i b = absurd (omega arith)

  half-largest : (kind i : ℕ) → nat_abs (polynomial kind (r_of n) i) ≤ 4611686018427387903
  half-largest kind i = omega (arith, twice_fits (r_of n) r-pos r_small kind i)

pub within : (kind n : ℕ) → 0 < n → n ≤ 65535 → r_of n ≢ 1 → (i : ℕ) → i < r_of n
    → nat_abs (polynomial kind (r_of n) i) ≤ bound_for kind (k_of n)
unfolding bound_for polynomial
within kind n pos small above i b =
    by_order 2 (k_of n)
    (λ many. rw (lt-leb (k_of n) 2 many) (go (eqb kind 1) (half-largest n pos small above kind i)))
    (λ few. rw (le-leb (k_of n) 2 few)
    (by_kind (eqb kind 1) (flat n pos small above (k_of n) refl few i b) (half-largest n pos small above kind i)))
  where
    go : (c : Bool) {v : ℕ} → v ≤ 4611686018427387903 → v ≤ cond c 4611686018427387903 4611686018427387903
    go true h = h
    go false h = h

    by_kind : (c : Bool) → nat_abs (F (r_of n) i) ≤ 1
        → nat_abs (cond c (F (r_of n)) (I (r_of n)) i) ≤ 4611686018427387903
        → nat_abs (cond c (F (r_of n)) (I (r_of n)) i) ≤ cond c 1 4611686018427387903
    by_kind true f h = f
    by_kind false f h = h
