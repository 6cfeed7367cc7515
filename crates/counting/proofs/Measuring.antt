-- What an index measures: height 1 and no additions where r is 1 (`one_is`); else its lower half has fewer entries than
-- the index (`kept_within`), so that those behind stay (`rest_stays`).
use Prim.Native.Nat.{ℕ, ◌+◌, ◌-◌, ◌<◌, ◌≤◌}
use mathlib.Core.Path.{◌≡◌, refl, ◌∙◌, ap}
use mathlib.Core.List.{List, ◌++◌}
use mathlib.Core.Logic.{◌≢◌}
use native.Mathlib.Omega.{arith}
use native.Mathlib.Nat as NatL
use lib.ListN.{length, drop}
use lib.Seq.{drop-append-add, drop-drop}
use Rattle.definitions.specs.Numbers.{r_of, list_to}
use Rattle.definitions.specs.KeptHalf.{half_degree, sum_of, additions}
use Rattle.definitions.specs.Answer.{height, additions_for}
use Rattle.numbers.specs.Apart.{r-divides, r_odd_squarefree}
use Rattle.cyclotomic.specs.Heights.{told-one}
use Rattle.never_over.specs.LeftOut.{fewer_entries}

pub one_is : (n : ℕ) → 0 < n → r_of n ≡ 1 → (height 1 n ≡ 1) × (additions_for 1 n ≡ 0)
unfolding additions_for additions sum_of list_to
one_is n pos e = ((told-one 1 n pos e).0, rw e refl)

pub kept_within : (n : ℕ) → 0 < n → r_of n ≢ 1 → half_degree 1 (r_of n) + 1 ≤ n
kept_within n pos above =
    let some : 1 < r_of n = omega (arith, (r_odd_squarefree n).pos, above) in
    omega (arith, fewer_entries 1 (r_of n) some, NatL.le_of_dvd pos (r-divides n))

pub rest_stays : {A : Type 0} (x y : List A) (d n : ℕ) → length x ≡ d → d ≤ n → drop n (x ++ drop d y) ≡ drop n y
rest_stays x y d n long l =
    let far : n ≡ length x + (n - d) = omega (arith, long) in
    let back : d + (n - d) ≡ n = omega arith in
    ap (λ k. drop k (x ++ drop d y)) far
    ∙ (drop-append-add x (drop d y) (n - d) ∙ (drop-drop (n - d) d y ∙ ap (λ k. drop k y) back))
