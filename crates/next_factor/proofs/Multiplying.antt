-- The product with F(n): by steps modulo 2^64 it is the true one where no coefficient can leave the range, since each
-- is at most the height times the factor's weight; and F(n), whose coefficients the factor's entries are, is what is
-- multiplied out.
use Prim.Native.Nat.{ℕ, zero, suc, ◌+◌, ◌*◌, ◌<◌, ◌≤◌, min}
use mathlib.Core.Path.{◌≡◌, refl, sym, ◌∙◌, ap, fun_ext}
use mathlib.Core.Bool.{Bool, true, not}
use mathlib.Core.List.{List}
use native.Mathlib.Omega.{arith}
use native.Mathlib.Nat as NatL
use lib.ListN.{length}
use lib.IntN.{ℤ, nat_abs}
use Rattle.definitions.specs.Series.{◌·◌, firsts}
use Rattle.definitions.specs.Numbers.{phi}
use Rattle.definitions.specs.Polynomials.{F}
use Rattle.definitions.specs.Steps.{entries, some_outside, largest}
use Rattle.step_laws.specs.Tests.{by_order}
use Rattle.step_laws.specs.Firsts.{length-firsts, firsts_here, firsts_past}
use Rattle.step_laws.specs.Machine.{range_fits}
use Rattle.step_laws.specs.Outside.{inside_all}
use Rattle.step_laws.specs.Signed.{in_range_lem}
use Rattle.series.specs.Degree.{ZeroFrom}
use Rattle.cyclotomic.specs.Degrees.{monic_F}
use Rattle.numbers.specs.Phi.{phi-le}
use Rattle.index.proofs.Laws.{index_good}
use Rattle.index.specs.declared.Parts.{Parts}
use Rattle.wrapped_sums.specs.Wrapped.{AllFit}
use Rattle.wrapped_sums.specs.Alike.{like_exact}
use Rattle.factor_steps.specs.Multiplied as Modulo
use Rattle.light_sums.specs.Weight.{weight, product_bound}
use Rattle.next_factor.specs.Times.{Asked, Multiplied, factor, Weighs}

-- a product that is in range though one of its numbers was cut at 2^63
uncut : (h w : ℕ) → h * min w 9223372036854775808 ≤ largest → h * w ≤ largest
uncut h w small =
    by_order w 9223372036854775808
    (λ b. let e : min w 9223372036854775808 ≡ w = omega arith in rw e at small)
    (λ b. let e : min w 9223372036854775808 ≡ 9223372036854775808 = omega arith in none h (rw e at small))
  where
    none : (h : ℕ) → h * 9223372036854775808 ≤ largest → h * w ≤ largest
    none zero s = omega (arith, NatL.zero-mul w)
    none (suc h) s = omega (arith, NatL.suc-mul h 9223372036854775808)

pub weighs_little : (n h w : ℕ) → Weighs n w → h * w ≤ largest → h * weight (factor n) ≤ largest
weighs_little n h w weighs small = uncut h (weight (factor n)) (NatL.le_trans (NatL.mul-le-mul_left h weighs) small)

module _ {n : ℕ} {parts : Parts} {l : List ℤ} {have height : ℕ} (K : Asked n parts l have height) where
  pos-n : 0 < n
  pos-n = (index_good n K.good).0

  -- the factor's entries are F(n)
  factor_is : entries (factor n) ≡ F n
  factor_is = fun_ext (λ i. by_order i (suc (phi n)) (λ b. firsts_here (suc (phi n)) (F n) i b)
      (λ b. firsts_past (suc (phi n)) (F n) i b ∙ sym ((monic_F n pos-n).above i b)))

  phi_small : phi n ≤ 65535
  phi_small = omega (arith, (index_good n K.good).1, phi-le n)

  pub entries_fit : AllFit l
  entries_fit i = range_fits (entries l i) (in_range_lem largest (entries l i) (NatL.le_trans (K.bounded i) K.inside))

  -- no coefficient can leave the range
  module _ (small : height * weight (factor n) ≤ largest) where
    inside : (i : ℕ) → nat_abs ((F n · entries l) i) ≤ largest
    inside i =
        NatL.le_trans (rw factor_is at (product_bound (factor n) (entries l) height K.bounded i))
        (omega (arith, small, NatL.mul_comm (weight (factor n)) height))

    pub by_steps : (m : List ℤ) → Modulo.Multiplied (F n) l m → Multiplied n l m true
    by_steps m M =
        record {
          inside = sym (ap not (inside_all largest 0 (F n · entries l) (length l)
              (λ i from below. in_range_lem largest _ (inside i))));
          leaves = λ e. like_exact m (F n · entries l) (M.fit entries_fit)
              (rw M.len (M.like (entries l) (λ i b. refl))) (λ i b. inside i)
              ∙ ap (λ k. firsts k (F n · entries l)) M.len;
          len = M.len;
        }

  -- F(n) made
  module _ {f : List ℤ} (made : f ≡ factor n) where
    f-length : length f ≡ suc (phi n)
    f-length = ap length made ∙ length-firsts (suc (phi n)) (F n)

    pub multiply_asks : (1 ≤ have) × (1 ≤ length f) × (length f ≤ 65536) × (length l + 1 ≤ have + length f)
        × ZeroFrom have (entries l)
    multiply_asks =
        let size = f-length in (K.some, omega arith, omega (arith, phi_small), omega (arith, K.room), K.ends)

    pub multiplied_out : (m : List ℤ) (r : Bool) → r ≡ not (some_outside largest 0 (length l) (entries f · entries l))
        → (r ≡ true → m ≡ firsts (length l) (entries f · entries l)) × (length m ≡ length l) → Multiplied n l m r
    multiplied_out m r a b =
        let is : entries f ≡ F n = ap entries made ∙ factor_is in
        record {
          inside = a ∙ ap (λ g. not (some_outside largest 0 (length l) (g · entries l))) is;
          leaves = λ e. b.0 e ∙ ap (λ g. firsts (length l) (g · entries l)) is;
          len = b.1;
        }
