-- A product that is made in place, from the top down: the coefficients from i on stand there, all in range, and below i
-- the old entries, which are all that the next one down needs.
use mathlib.Core.Path.{◌≡◌, refl, ◌∙◌}
use mathlib.Core.Bool.{true, false}
use mathlib.Core.List.{List}
use Prim.Native.Nat.{ℕ, ◌+◌, ◌-◌, ◌≤◌, ◌<◌}
use native.Mathlib.Omega.{arith}
use lib.ListN.{length, set}
use lib.IntN.{ℤ}
use Rattle.definitions.specs.Series.{◌·◌, firsts}
use Rattle.definitions.specs.Steps.{entries, in_range, largest, some_outside}
use Rattle.series.specs.Laws.{agree_mul}
use Rattle.series.specs.Degree.{ZeroFrom}
use Rattle.step_laws.specs.Machine.{seen, handed, range_fits}
use Rattle.step_laws.specs.Tests.{by_order}
use Rattle.std.specs.Prelude.{Some, None}
use Rattle.light_sums.specs.Told.{told, told_some, told_same}
use Rattle.step_laws.specs.Firsts.{is_firsts}
use Rattle.step_laws.specs.Outside.{outside_is, inside_all}
use Rattle.entry_steps.specs.Passes.{Split}
use Rattle.entry_steps.proofs.Split.{moved_down}
use Rattle.exact_products.specs.Products.{Ready}

pub record Made (f old l : List ℤ) (i : ℕ) : Type 0 where
  pub most : i ≤ length old
  pub stands : Split l (length old) i (entries old) (entries f · entries old)
  pub inside : (k : ℕ) → i ≤ k → k < length old → in_range largest ((entries f · entries old) k) ≡ true

pub made_none : (f old : List ℤ) → Made f old old (length old)
unfolding entries
made_none f old =
    record {
      most = omega arith;
      stands = record { len = refl; below = λ k h m. refl; above = λ k h m. absurd (omega arith) };
      inside = λ k h m. absurd (omega arith);
    }

module _ {f old l : List ℤ} {i : ℕ} (m : Made f old l i) (one : 1 ≤ i) where
  old_at : (k : ℕ) → k ≤ i - 1 → entries l k ≡ entries old k
  unfolding entries
  old_at k h = m.stands.below k (omega arith) (omega (arith, m.most))

  pub made_ready : (have : ℕ) → 1 ≤ have → 1 ≤ length f → length f ≤ 65536 → length old + 1 ≤ have + length f
      → ZeroFrom have (entries old) → Ready l f have (i - 1)
  made_ready have some factor few room zeros =
      record {
        some = some;
        factor = factor;
        few = few;
        room = omega (arith, m.stands.len);
        inside = omega (arith, m.stands.len, m.most);
        zeros = λ k h n. old_at k n ∙ zeros k h;
      }

  -- the coefficient, by what stands there now
  same_coefficient : (entries f · entries l) (i - 1) ≡ (entries f · entries old) (i - 1)
  same_coefficient = agree_mul (i - 1) (entries f) (entries l) (entries old) old_at

  placed : (v : ℤ) → v ≡ (entries f · entries old) (i - 1) → in_range largest ((entries f · entries old) (i - 1)) ≡ true
      → Made f old (set l (i - 1) v) (i - 1)
  placed v e t =
      record {
        most = omega (arith, m.most);
        stands = moved_down m.stands (i - 1) (i - 1) (omega (arith, m.most)) (omega arith) refl v e;
        inside = λ k h n. by_order k i
            (λ b. let here : i - 1 ≡ k = omega arith in rw here at t)
            (λ b. m.inside k b n);
      }

  pub made-next : {v : ℤ} → told ((entries f · entries l) (i - 1)) ≡ Some v → Made f old (set l (i - 1) (seen v)) (i - 1)
  made-next {v} t =
      let (inside, is) = told_some _ v (rw same_coefficient at t) in
      placed (seen v) (handed (range_fits _ inside) is) inside

  pub made_out : told ((entries f · entries l) (i - 1)) ≡ None
      → some_outside largest 0 (length old) (entries f · entries old) ≡ true
  made_out t =
      outside_is largest 0 (entries f · entries old) (length old) (
      record {
        at = i - 1;
        from = omega arith;
        below = omega (arith, m.most);
        outside = told_same _ (rw same_coefficient at t);
      }
      )

-- all made
module _ {f old l : List ℤ} {i : ℕ} (m : Made f old l i) (none : i ≤ 0) where
  pub made_all : l ≡ firsts (length old) (entries f · entries old)
  made_all =
      is_firsts (length old) (entries f · entries old) l m.stands.len
      (λ k h. m.stands.above k (omega arith) h)

  pub made_in : some_outside largest 0 (length old) (entries f · entries old) ≡ false
  made_in = inside_all largest 0 (entries f · entries old) (length old) (λ k h n. m.inside k (omega arith) n)
