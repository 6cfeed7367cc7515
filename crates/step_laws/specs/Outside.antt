-- `some_outside w d n a` is true exactly where an entry of a from d on and below n is outside the range w. By induction
-- on n.
use Rattle.std.specs.Prelude.{◌≡◌, Bool, true, false, not, ◌&&◌, ◌||◌, ◌⊎◌, leb}
use Rattle.std.proofs.Math.Path.{refl}
use Rattle.std.proofs.Common.{sym, ◌∙◌, ap, true≢false, inl, inr, not-suc-le-zero, le_of_suc-le-suc, eq-or-lt_of_le, arith, le-leb, leb-true}
use Rattle.std.proofs.lemmas.Bool.{false≢true}
use Rattle.std.proofs.Math.Bool.{or-true}
use Rattle.std.proofs.Math.Logic.{⊎_elim}
use Prim.Native.Nat.{ℕ, zero, suc, ◌<◌, ◌≤◌}
use Rattle.definitions.specs.Series.{Series}
use Rattle.definitions.specs.Steps.{in_range, some_outside}
use Rattle.step_laws.specs.Tests.{not_false_is, not_true_is}

-- an entry from d on and below n that is outside the range
pub record OutsideAt (w d n : ℕ) (a : Series) : Type 0 where
  pub at : ℕ
  pub from : d ≤ at
  pub below : at < n
  pub outside : in_range w (a at) ≡ false

module _ (w d : ℕ) (a : Series) where
  -- what the last entry adds: an earlier one is outside, or this one
  last : (n : ℕ) (o l r : Bool) → some_outside w d n a ≡ o → leb d n ≡ l → in_range w (a n) ≡ r → (o || l && not r) ≡ true
      → (some_outside w d n a ≡ true) ⊎ OutsideAt w d (suc n) a
  last n true l r eo el er h = inl eo
  last n false true false eo el er h =
      inr (record { at = n; from = leb-true d n el; below = omega arith; outside = er })
  last n false true true eo el er h = absurd (false≢true h)
  last n false false r eo el er h = absurd (false≢true h)

  further : {n : ℕ} → OutsideAt w d n a → OutsideAt w d (suc n) a
  further o = record { at = o.at; from = o.from; below = omega arith; outside = o.outside }

  pub outside-found : (n : ℕ) → some_outside w d n a ≡ true → OutsideAt w d n a
  unfolding some_outside
  outside-found zero h = absurd (false≢true h)
  outside-found (suc n) h =
      ⊎_elim (λ e. further (outside-found n e)) (λ o. o)
      (last n (some_outside w d n a) (leb d n) (in_range w (a n)) refl refl refl h)

  pub outside_is : (n : ℕ) → OutsideAt w d n a → some_outside w d n a ≡ true
  unfolding some_outside
  outside_is zero o = absurd (not-suc-le-zero o.below)
  outside_is (suc n) o = ⊎_elim here (λ b. rw (outside_is n (before b))) (eq-or-lt_of_le (le_of_suc-le-suc o.below))
    where
      before : o.at < n → OutsideAt w d n a
      before b = record { at = o.at; from = o.from; below = b; outside = o.outside }

      here : o.at ≡ n → (some_outside w d n a || leb d n && not (in_range w (a n))) ≡ true
      here e =
          let r : in_range w (a n) ≡ false = ap (λ k. in_range w (a k)) (sym e) ∙ o.outside in
          let f : leb d n ≡ true = le-leb d n (rw e at o.from) in
          rw (r, f) (or-true (some_outside w d n a))

  -- none outside: each entry is in range
  pub inside_each : (n : ℕ) → some_outside w d n a ≡ false → (i : ℕ) → d ≤ i → i < n → in_range w (a i) ≡ true
  inside_each n none i h b =
      not_false_is (in_range w (a i))
      (λ e. true≢false (sym (outside_is n (record { at = i; from = h; below = b; outside = e })) ∙ none))

  pub inside_all : (n : ℕ) → ((i : ℕ) → d ≤ i → i < n → in_range w (a i) ≡ true) → some_outside w d n a ≡ false
  inside_all n each =
      not_true_is (some_outside w d n a)
      (λ e. let o = outside-found n e in false≢true (sym o.outside ∙ each o.at o.from o.below))
