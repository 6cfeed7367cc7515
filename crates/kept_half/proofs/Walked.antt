-- What n taken apart gives the walk over r's divisors, and the half degree.
use Prim.Native.Nat.{ℕ, ◌+◌, ◌-◌, ◌/◌, ◌≤◌}
use mathlib.Core.Path.{◌≡◌, sym, ◌∙◌, ap, subst}
use mathlib.Core.Bool.{cond}
use mathlib.Core.List.{List}
use lib.Dec.{eqb}
use lib.IntN.{ℤ}
use Rattle.definitions.specs.Numbers.{r_of}
use Rattle.definitions.specs.KeptHalf.{half_degree}
use Rattle.definitions.specs.Requests.{divisors_due}
use Rattle.numbers.specs.Apart.{r_odd_squarefree}
use Rattle.divisors.specs.Walks.{walk_at, over_parts}
use Rattle.divisors.proofs.Walking.{over-start}
use Rattle.divisors.specs.declared.Walk.{Walk}
use Rattle.index.specs.declared.Parts.{Parts}
use Rattle.index.proofs.Laws.{index_good, r_small, parts_half}
use Rattle.kept_half.proofs.Running.{start_due}
use Rattle.kept_half.specs.Halves.{StepsDue, WalkAtStart, KeptHalfIs}
use Rattle.std.specs.Prelude.{Result}
use Rattle.kept_half.specs.Halves.{Over}
use Rattle.kept_half.specs.declared.Ran.{Ran}

-- the walk over n's r, at its start
module _ (kind n : ℕ) (x : Parts) (S : StepsDue kind n x) (w : Walk) (o : w ≡ over_parts x) where
  pub walk_start : w ≡ walk_at (r_of n) 0
  walk_start = o ∙ ap over_parts S.parts ∙ over-start n (index_good n S.good).0

  pub walk-r : w.r ≡ r_of n
  unfolding walk_at
  walk-r = ap (λ (y : Walk). y.r) walk_start

  pub walk_due : w.due ≡ divisors_due (r_of n)
  walk_due = start_due (r_of n) walk_start

  pub walk_fresh : WalkAtStart w
  walk_fresh =
      record {
        squarefree = rw walk-r (r_odd_squarefree n);
        small = rw walk-r (r_small n S.good);
        above = rw walk-r S.above;
        here = walk_start ∙ ap (λ r. walk_at r 0) (sym walk-r);
      }

  -- what the making asks: D + 1 entries, and no more divisors than are due
  pub fresh_half : (len j : ℕ) → len ≡ half_degree kind (r_of n) + 1 → j ≤ divisors_due (r_of n)
      → WalkAtStart w × (len ≡ half_degree kind w.r + 1) × (j ≤ divisors_due w.r)
  fresh_half len j e h = (walk_fresh, e ∙ ap (λ r. half_degree kind r + 1) (sym walk-r), rw walk-r h)

  -- what the walk's r came to is what n's came to
  pub of_r : (j limit : ℕ) (m : List ℤ) (h : Result Ran Over) → KeptHalfIs limit kind w.r j m h
      → KeptHalfIs limit kind (r_of n) j m h
  of_r j limit m h t = subst (λ r. KeptHalfIs limit kind r j m h) walk-r t

  pub of_all : (limit : ℕ) (m : List ℤ) (h : Result Ran Over) → KeptHalfIs limit kind w.r w.due m h
      → KeptHalfIs limit kind (r_of n) (divisors_due (r_of n)) m h
  of_all limit m h t = of_r (divisors_due (r_of n)) limit m h (subst (λ j. KeptHalfIs limit kind w.r j m h) walk_due t)

-- D, as it is computed
pub half_is : (kind n : ℕ) (x : Parts) → StepsDue kind n x
    → (d : ℕ) → d ≡ cond (eqb kind 1) x.free (x.r - x.free) / 2 → d ≡ half_degree kind (r_of n)
half_is kind n x S = parts_half n x S.parts kind
