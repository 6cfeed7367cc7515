-- The sums of a coefficient of a light factor, as far as the term j: that each value on the way fits, one term more,
-- and what the two come to at the end.
use mathlib.Core.Path.{◌≡◌, refl, sym, ◌∙◌, ap, ap₂, subst}
use mathlib.Core.Bool.{Bool, true, false}
use mathlib.Core.List.{List}
use Prim.Native.Nat.{ℕ, ◌+◌, ◌-◌, ◌<◌, ◌≤◌}
use native.Mathlib.Omega.{arith}
use lib.IntN.{ℤ, pos, nat_abs}
use lib.ListN.{get_or}
use mir.Syntax.{w64}
use mir.Val.{SFits}
use mir.Facts.{to_z-of_z}
use Rattle.definitions.specs.Integers.{◌⊕◌, ◌⊗◌, 0ℤ}
use Rattle.definitions.specs.Series.{◌·◌}
use Rattle.definitions.specs.Steps.{entries}
use Rattle.step_laws.specs.Signed.{abs_⊕, abs_mag}
use Rattle.step_laws.specs.Machine.{seen, handed}
use Rattle.light_sums.specs.Parts.{half, rest_below, mag_above}
use Rattle.light_sums.specs.Dots.{dot_more}
use Rattle.light_sums.specs.Weight.{weight, weight_to, weight_to_more, weight_to-most, abs_term, abs_more}
use Rattle.light_sums.specs.Terms.{Terms, through, starts, ends, high_half, low_half, halves_product}
use Rattle.light_sums.specs.Light.{half_of, half-none, LightTo}
use Rattle.light_sums.proofs.Joins.{small_fits}

high_most : (y : ℤ) → SFits w64 y → nat_abs (high_half y) ≤ 2147483648
high_most y g =
    omega (arith, abs_mag (high_half y), mag_above half 2147483648 (omega arith) y (omega (arith, g.sfits)))

low-most : (y : ℤ) → nat_abs (low_half y) ≤ 4294967296
unfolding low_half
low-most y = omega (arith, rest_below half (omega arith) y)

half-most : (high : Bool) (y : ℤ) → SFits w64 y → nat_abs (half_of high y) ≤ 4294967296
unfolding half_of
half-most true y g = omega (arith, high_most y g)
half-most false y g = low-most y

pub half_fits : (high : Bool) (y : ℤ) → SFits w64 y → SFits w64 (half_of high y)
half_fits high y g = small_fits (half_of high y) (omega (arith, half-most high y g))

module _ {f b : List ℤ} {i from to : ℕ} (t : Terms f b i from to) where
  pub start : (high : Bool) → LightTo high f b i from 0ℤ
  start high = record { sum = sym (starts (λ n. n) (half_of high) t (half-none high)); small = omega arith }

  pub done : {h l : ℤ} → LightTo true f b i to h → LightTo false f b i to l
      → h ⊗ pos half ⊕ l ≡ (entries f · entries b) i
  unfolding half_of
  done s r =
      ap₂ (λ a c. a ⊗ pos half ⊕ c) (s.sum ∙ ends (λ n. n) high_half t refl) (r.sum ∙ ends (λ n. n) low_half t refl)
      ∙ halves_product (entries f) b i

module _ {high : Bool} {f b : List ℤ} {i j : ℕ} {s : ℤ} (light : weight f < 1073741824)
    (so_far : LightTo high f b i j s) where
  pub sum_small : nat_abs s < 4611686018427387904
  sum_small = omega (arith, so_far.small, weight_to-most f j)

  pub sum_fits : SFits w64 s
  sum_fits = small_fits s (omega (arith, sum_small))

  -- the sum as the machine hands it on
  pub sum-seen : LightTo high f b i j (seen s)
  sum-seen = rw (to_z-of_z sum_fits) so_far

  pub sum_moved : {k : ℕ} → j ≡ k → LightTo high f b i k (seen s)
  sum_moved e = subst (λ n. LightTo high f b i n (seen s)) e sum-seen

  -- one term more, that of the entries at j and at i - j
  module _ (g : SFits w64 (entries b (i - j))) where
    abbrev x : ℤ
    x = entries f j

    abbrev y : ℤ
    y = half_of high (entries b (i - j))

    y-most : nat_abs y ≤ 4294967296
    y-most = half-most high (entries b (i - j)) g

    pub more : LightTo high f b i (j + 1) (s ⊕ x ⊗ y)
    more =
        record {
          sum = ap (λ a. a ⊕ x ⊗ y) so_far.sum ∙ sym (dot_more (entries f) (through (half_of high) b) i j);
          small = rw (weight_to_more (entries f) j)
              (abs_more s x y (weight_to (entries f) j) 4294967296 so_far.small y-most);
        }

    pub more_asks : SFits w64 (x ⊗ y) × SFits w64 (s ⊕ x ⊗ y)
    more_asks =
        let w : weight_to (entries f) (j + 1) ≤ weight f = weight_to-most f (j + 1) in (
          small_fits (x ⊗ y) (omega (arith, weight_to_more (entries f) j, abs_term x y 4294967296 y-most)),
          small_fits (s ⊕ x ⊗ y) (omega (arith, more.small)),
        )

-- one term more, as the machine reads the entries and their halves
module _ {high : Bool} {f b : List ℤ} {i j : ℕ} {s h : ℤ} (light : weight f < 1073741824)
    (so_far : LightTo high f b i j s) (fx : SFits w64 (get_or f j 0ℤ)) (fy : SFits w64 (get_or b (i - j) 0ℤ))
    (is : h ≡ half_of high (seen (get_or b (i - j) 0ℤ))) where
  x-seen : seen (get_or f j 0ℤ) ≡ entries f j
  unfolding entries
  x-seen = to_z-of_z fx

  y-fits : SFits w64 (entries b (i - j))
  unfolding entries
  y-fits = fy

  half-seen : seen h ≡ half_of high (entries b (i - j))
  unfolding entries
  half-seen = handed (half_fits high (get_or b (i - j) 0ℤ) fy) (is ∙ ap (half_of high) (to_z-of_z fy))

  pub term_asks : SFits w64 (seen (get_or f j 0ℤ) ⊗ seen h) × SFits w64 (seen s ⊕ seen (get_or f j 0ℤ) ⊗ seen h)
  term_asks = rw (x-seen, half-seen, to_z-of_z (sum_fits light so_far)) (more_asks light so_far y-fits)

  pub term_more : {r : ℤ} → r ≡ seen s ⊕ seen (get_or f j 0ℤ) ⊗ seen h → LightTo high f b i (j + 1) (seen r)
  term_more e =
      let next = more_asks light so_far y-fits in
      let more = more light so_far y-fits in
      rw (handed next.1 (e ∙ ap₂ ◌⊕◌ (to_z-of_z (sum_fits light so_far)) (ap₂ ◌⊗◌ x-seen half-seen))) more

-- the two sums can be put together
pub whole_fits : (h l : ℤ) → nat_abs h < 4611686018427387904 → SFits w64 l → SFits w64 (h ⊕ high_half l)
whole_fits h l a g = small_fits (h ⊕ high_half l) (omega (arith, abs_⊕ h (high_half l), high_most l g))
