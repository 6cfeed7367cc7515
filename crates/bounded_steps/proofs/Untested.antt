-- A step that no test accompanies: how far the magnitudes can grow, in machine numbers, and what the step then tells.
use Prim.Native.Nat.{ℕ, ◌+◌, ◌*◌, ◌-◌, ◌/◌, ◌≤◌}
use mathlib.Core.Path.{◌≡◌, sym, subst}
use mathlib.Core.Bool.{false}
use mathlib.Core.List.{List}
use native.Mathlib.Omega.{arith}
use native.Mathlib.Nat.{mul-add, mul-one, le-div_iff_mul-le}
use lib.ListN.{length}
use lib.IntN.{ℤ}
use Rattle.definitions.specs.Steps.{Sort, comb, accumulate, entries, step_over, step_list}
use Rattle.step_laws.specs.Bound.{Bounded, growth, growth-not-over, step_list_bound}
use Rattle.step_laws.specs.Step.{long-not-over, long_stays}
use Rattle.bounded_steps.specs.Outcome.{Taken}

-- the growth as a product and a sum
pub comb_more : (d n b : ℕ) → growth comb d n b ≡ b * 1 + b
unfolding growth
comb_more d n b = omega (arith, mul-one b)

pub accumulate_more : (d n b : ℕ) → growth accumulate d n b ≡ b * (n / d) + b
unfolding growth
accumulate_more d n b = omega (arith, mul-add b (n / d) 1, mul-one b)

pub some_times : {d n : ℕ} → 1 ≤ d → d ≤ n → 1 ≤ n / d
some_times {d} {n} one h = (le-div_iff_mul-le {x = 1} {y = n} one).1 (omega arith)

-- by one division it is known that neither the product nor the sum is above w
pub within : {b t w : ℕ} → 1 ≤ t → b ≤ w → b ≤ (w - b) / t → b * t + b ≤ w
within {b} {t} {w} one h q = omega (arith, (le-div_iff_mul-le {x = b} {y = w - b} one).0 q)

-- so no value passes w
pub grown : (s : Sort) (d b : ℕ) → 1 ≤ d → (l : List ℤ) → Bounded b (entries l) → {g : ℕ} → growth s d (length l) b ≡ g
    → (w : ℕ) → g ≤ w → (step_over w s d l ≡ false) × Bounded g (entries (step_list s d l))
grown s d b one l h e w u = (
  growth-not-over s d b one l h w (subst (λ x. x ≤ w) (sym e) u),
  subst (λ x. Bounded x (entries (step_list s d l))) e (step_list_bound s d b one l h),
)

module _ (w : ℕ) (s : Sort) (d b : ℕ) (l : List ℤ) where
  pub under : {m : List ℤ} {g : ℕ} → (step_over w s d l ≡ false) × Bounded g (entries (step_list s d l))
      → m ≡ step_list s d l → (b ≤ w → g ≤ w) → Taken w s d b l m g
  under f e u = record { over = f.0; leaves = e; bounded = rw e f.1; inside = u }

  -- a size that is at least the length
  pub long : length l ≤ d → Bounded b (entries l) → Taken w s d b l l b
  long n h = under (long-not-over s d l w n, rw (long_stays s d l n) h) (sym (long_stays s d l n)) (λ u. u)
