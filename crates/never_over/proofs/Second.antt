-- The second engine never has a coefficient out of range (`second_never`): what it makes on the way is F and I of rows
-- of primes, which are in range; its product for I is I itself; and that for F is F(mp) times z^m - 1, a difference of
-- two coefficients of F(mp), so that twice the height of F(mp) bounds it.
use Prim.Native.Nat.{ℕ, zero, suc, ◌*◌, ◌-◌, ◌<◌, ◌≤◌}
use Rattle.std.specs.Prelude.{◌≡◌, Bool, true, false, cond, List, eqb, nat_abs}
use Rattle.std.proofs.Math.Path.{refl}
use Rattle.std.proofs.Common.{ap, arith}
use Rattle.std.proofs.Math.Nat as NatL
use Rattle.definitions.specs.Series.{Series, ◌·◌, z^}
use Rattle.definitions.specs.Numbers.{list_to, row_to, odd_prime_of, k_of}
use Rattle.definitions.specs.Polynomials.{z^_1, F, I, polynomial}
use Rattle.definitions.specs.Steps.{largest}
use Rattle.definitions.specs.Second.{other_kind, made, before_division, outside, made_over, second_over}
use Rattle.series.specs.Maps.{shift_below, shift_from}
use Rattle.numbers.specs.Apart.{r-divides}
use Rattle.numbers.specs.PrimeRows.{New, fewer, row-pos, row-le}
use Rattle.step_laws.specs.Tests.{by_order}
use Rattle.step_laws.specs.Signed.{abs_⊝, in_range_lem}
use Rattle.step_laws.specs.Outside.{inside_all}
use Rattle.cyclotomic.specs.Second.{times-z^_1, made_is, product_is}
use Rattle.index.proofs.Rows.{list_new, list_r}
use Rattle.never_over.proofs.Heights.{coefficient_fits, twice_fits}

-- a series whose coefficients are all in range
none-outside : (r : ℕ) (f : Series) → ((i : ℕ) → nat_abs (f i) ≤ largest) → outside r f ≡ false
unfolding outside
none-outside r f h = inside_all largest 0 f (suc r) (λ i a b. in_range_lem largest (f i) (h i))

-- a coefficient of f times z^m - 1 is a difference of two of f
product_within : (m : ℕ) (f : Series) → ((i : ℕ) → 2 * nat_abs (f i) ≤ largest) → (i : ℕ)
    → nat_abs ((f · z^_1 m) i) ≤ largest
product_within m f h i =
    rw (times-z^_1 m f i)
    (by_order i m
    (λ l. omega (arith, abs_⊝ ((z^ m · f) i) (f i), ap nat_abs (shift_below m f i l), h i))
    (λ l. omega (arith, abs_⊝ ((z^ m · f) i) (f i), ap nat_abs (shift_from m f i l), h i, h (i - m))))

module _ (ps : List ℕ) where
  -- the product for one prime more
  product_inside : (kind j : ℕ) → New ps (suc j) → row_to ps (suc j) ≤ 65535 → (i : ℕ)
      → nat_abs (before_division kind ps j i) ≤ largest
  unfolding polynomial
  product_inside kind j h small i = rw (product_is ps kind j h) (go (eqb kind 1))
    where
      pos : 0 < row_to ps (suc j)
      pos = row-pos ps (suc j) h

      go : (b : Bool)
          → nat_abs (cond b (F (row_to ps (suc j)) · z^_1 (row_to ps j)) (I (row_to ps (suc j))) i) ≤ largest
      go true = product_within (row_to ps j) (F (row_to ps (suc j))) (twice_fits (row_to ps (suc j)) pos small 1) i
      go false = coefficient_fits (row_to ps (suc j)) pos small 2 i

  pub made_never : (j : ℕ) → New ps j → row_to ps j ≤ 65535 → (kind : ℕ) → made_over kind ps j ≡ false
  unfolding made_over
  made_never zero h small kind = refl
  made_never (suc j) h small kind =
      let before : row_to ps j ≤ 65535 = NatL.le_trans (row-le ps (suc j) h j (omega arith)) small in
      rw (
        made_never j (fewer ps h) before kind,
        made_never j (fewer ps h) before (other_kind kind),
        none-outside (row_to ps (suc j)) (before_division kind ps j) (product_inside kind j h small),
      )
      (none-outside (row_to ps (suc j)) (made kind ps (suc j))
      (λ i. rw (made_is ps kind (suc j) h)
      (coefficient_fits (row_to ps (suc j)) (row-pos ps (suc j) h) small kind i)))

pub second_never : (kind n : ℕ) → 0 < n → n ≤ 65535 → second_over kind n ≡ false
unfolding second_over
second_never kind n pos small =
    made_never (list_to n (odd_prime_of n)) (k_of n) (list_new n)
    (rw (list_r n) (NatL.le_trans (NatL.le_of_dvd pos (r-divides n)) small)) kind
