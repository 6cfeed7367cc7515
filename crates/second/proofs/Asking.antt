-- What the engine is asked for is in order (`asked`); the lower half that it leaves is known to be in range (`lower`,
-- `bounded`); and where r is 1 nothing is asked (`laid_one`).
use Prim.Native.Nat.{ℕ, ◌+◌, ◌*◌, ◌<◌, ◌≤◌}
use mathlib.Core.Path.{◌≡◌, refl, sym, ◌∙◌, ap, ap₂}
use mathlib.Core.Logic.{◌≢◌}
use mathlib.Core.List.{List}
use native.Mathlib.Nat as NatL
use native.Mathlib.Omega.{arith}
use lib.ListN.{length, take, length-take, get_or-eq_default}
use lib.Seq.{get_or-take}
use lib.IntN.{ℤ, nat_abs}
use Rattle.definitions.specs.Integers.{0ℤ}
use Rattle.definitions.specs.Numbers.{list_to, odd_prime_of, r_of, k_of}
use Rattle.definitions.specs.Polynomials.{polynomial}
use Rattle.definitions.specs.KeptHalf.{half_degree}
use Rattle.definitions.specs.Steps.{entries}
use Rattle.definitions.specs.Answer.{coefficients}
use Rattle.numbers.specs.Apart.{r_odd_squarefree, r-divides}
use Rattle.numbers.specs.AtMostFive.{k_at_most_5}
use Rattle.numbers.specs.PrimeRows.{row-le}
use Rattle.step_laws.specs.Bound.{Bounded}
use Rattle.step_laws.specs.Tests.{by_order}
use Rattle.cyclotomic.specs.Degrees.{half_below}
use Rattle.cyclotomic.specs.Heights.{told-one}
use Rattle.never_over.proofs.Heights.{coefficient_fits}
use Rattle.index.proofs.Laws.{index_good, r_small, parts_k}
use Rattle.index.proofs.Rows.{entry_new, entry_odd, row-r}
use Rattle.index.specs.Parts.{padded, parts_of}
use Rattle.index.specs.declared.Parts.{Parts}
use Rattle.squarefree_from_half.specs.Growth.{Lower}
use Rattle.squarefree_from_half.proofs.Growing.{half_within}
use Rattle.whole_from_half.specs.Ready.{Ready}
use Rattle.whole_from_half.proofs.Laying.{above_zero, r_is, free_is, r_fits}
use Rattle.laying_out.specs.Laid.{LaidIs}
use Rattle.laying_out.specs.declared.Laid.{Laid}
use Rattle.std.specs.Prelude.{Ok}
use Rattle.second_engine.specs.Halves.{Asked, Half}
use Rattle.second.specs.Bounds.{bound_for}
use Rattle.second.proofs.Bounded.{within}

module _ (kind n : ℕ) (a : Parts) (l : List ℤ) (R : Ready kind n a l) where
  primes_are : a.primes ≡ padded (list_to n (odd_prime_of n))
  unfolding parts_of
  primes_are = ap (λ (y : Parts). y.primes) R.parts

  k_is : a.count ≡ k_of n
  k_is = parts_k n a R.parts

  pos : 0 < n
  pos = above_zero kind n a l R

  pub asked : (s : List ℤ) → 2 * n + 16 ≤ length s → Asked kind a.primes a.count a.r a.free l s
  asked s room =
      rw (primes_are, k_is, r_is kind n a l R, free_is kind n a l R)
      (record {
        few = k_at_most_5 n (index_good n R.good).1;
        row = entry_odd n;
        is_r = sym (row-r n);
        is_free = refl;
        small = r_small n R.good;
        room = omega (arith, half_within kind (r_of n), r_fits kind n a l R);
        scratch = λ j e.
            omega (arith, row-le _ (k_of n) (entry_new n) j (omega arith), row-r n, NatL.le_of_dvd pos (r-divides n));
      })

  module _ (above : r_of n ≢ 1) (m : List ℤ) (half : Half kind a.r m) where
    there : Half kind (r_of n) m
    there = rw (sym (r_is kind n a l R)) half

    r-pos : 0 < r_of n
    r-pos = (r_odd_squarefree n).pos

    pub lower : Lower kind (r_of n) m
    lower =
        record {
          squarefree = r_odd_squarefree n;
          above = above;
          half = there;
          inside = λ i b. coefficient_fits (r_of n) r-pos (r_small n R.good) kind i;
        }

    -- an entry of the lower half
    lower_bound : (i : ℕ) → i < half_degree kind (r_of n) + 1
        → nat_abs (polynomial kind (r_of n) i) ≤ bound_for kind a.count
    lower_bound i b =
        rw (k_is)
        (within kind n pos (index_good n R.good).1 above i
        (omega (arith, half_below kind (r_of n) (omega (arith, r-pos)))))

    pub bounded : Bounded (bound_for kind a.count) (entries (take (half_degree kind (r_of n) + 1) m))
    unfolding entries
    bounded i =
        by_order i (half_degree kind (r_of n) + 1)
        (λ b. rw (get_or-take (half_degree kind (r_of n) + 1) m i 0ℤ b ∙ there i b) (lower_bound i b))
        (λ b.
        let far : length (take (half_degree kind (r_of n) + 1) m) ≤ i =
        omega (arith, length-take (half_degree kind (r_of n) + 1) m) in
        rw (get_or-eq_default (take (half_degree kind (r_of n) + 1) m) 0ℤ far) (omega arith))

pub still_ready : {kind n : ℕ} {a : Parts} {l m : List ℤ} → Ready kind n a l → length m ≡ length l → Ready kind n a m
still_ready R e = record { parts = R.parts; known = R.known; good = R.good; room = e ∙ R.room }

pub laid_one : (kind n h : ℕ) (x : List ℤ) → 0 < n → r_of n ≡ 1 → 1 ≤ h → x ≡ coefficients kind n
    → LaidIs kind n h x (Ok (record { height = 1; peak = 0 }))
laid_one kind n h x pos o t e =
    let top = told-one kind n pos o in
    (rw top.0 t, e, ap₂ {C = Laid} (λ y z. record { height = y; peak = z }) (sym top.0) (sym top.1))
