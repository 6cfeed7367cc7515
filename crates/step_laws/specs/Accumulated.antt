-- An accumulate, entry by entry: below d an entry stays, and from d on it gets the new one d before it added; and
-- induction that goes so.
use Rattle.std.specs.Prelude.{◌≡◌, ltb}
use Rattle.std.proofs.Math.Path.{refl}
use Rattle.std.proofs.Common.{ap, not-suc-le-zero, le_trans, arith, lt-ltb, le-ltb}
use Prim.Native.Nat.{ℕ, zero, suc, ◌-◌, ◌<◌, ◌≤◌}
use Rattle.definitions.specs.Integers.{◌⊕◌}
use Rattle.definitions.specs.Series.{Series}
use Rattle.definitions.specs.Steps.{accumulated_in, accumulated}
use Rattle.step_laws.specs.Tests.{by_test, by_order}

module _ (d : ℕ) (a : Series) where
  -- more turns than i change nothing
  in_enough : 1 ≤ d → (t u i : ℕ) → i ≤ t → i ≤ u → accumulated_in t d a i ≡ accumulated_in u d a i
  unfolding accumulated_in
  in_enough one zero zero i h k = refl
  in_enough one zero (suc u) i h k = rw (lt-ltb i d (omega arith))
  in_enough one (suc t) zero i h k = rw (lt-ltb i d (omega arith))
  in_enough one (suc t) (suc u) i h k =
      by_test (ltb i d) (λ e. rw e)
      (λ e. rw e (ap (λ v. a i ⊕ v) (in_enough one t u (i - d) (omega arith) (omega arith))))

  pub accumulated_from : (i : ℕ) → 1 ≤ d → d ≤ i → accumulated d a i ≡ a i ⊕ accumulated d a (i - d)
  unfolding accumulated accumulated_in
  accumulated_from zero one h = absurd (not-suc-le-zero (le_trans one h))
  accumulated_from (suc i) one h =
      rw (le-ltb (suc i) d h)
      (ap (λ v. a (suc i) ⊕ v) (in_enough one i (suc i - d) (suc i - d) (omega arith) (omega arith)))

  pub accumulated_below : (i : ℕ) → i < d → accumulated d a i ≡ a i
  unfolding accumulated accumulated_in
  accumulated_below zero h = refl
  accumulated_below (suc i) h = rw (lt-ltb (suc i) d h)

-- what holds below d, and at i where it holds d before i, holds everywhere
pub by_chain :
    (P : ℕ → Type 0) (d : ℕ) → 1 ≤ d → ((i : ℕ) → i < d → P i) → ((i : ℕ) → d ≤ i → P (i - d) → P i) → (i : ℕ) → P i
by_chain P d one start more i = go (suc i) i (omega arith)
  where
    go : (n i : ℕ) → i < n → P i
    go zero i m = absurd (not-suc-le-zero m)
    go (suc n) i m = by_order i d (start i) (λ l. more i l (go n (i - d) (omega arith)))
