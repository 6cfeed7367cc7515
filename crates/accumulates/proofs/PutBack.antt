-- Putting back: in a range of places that were taken the old entries come out, and below it nothing has changed yet.
-- Then which places of a row were taken, and what stands when all of them are put back.
use mathlib.Core.Path.{◌≡◌, refl, ◌∙◌, ap, ap₂, subst}
use mathlib.Core.Bool.{true, false, cond}
use mathlib.Core.List.{List}
use Prim.Native.Nat.{ℕ, ◌+◌, ◌-◌, ◌%◌, ◌<◌, ◌≤◌}
use native.Mathlib.Nat.{mod-lt, not-suc-le-zero}
use native.Mathlib.Omega.{arith}
use borrow.Author.Tests.{le-leb, lt-leb}
use lib.ListN.{length, get_or}
use lib.IntN.{ℤ}
use Rattle.definitions.specs.Integers.{◌⊕◌, ◌⊝◌, 0ℤ}
use Rattle.definitions.specs.Series.{Series}
use Rattle.definitions.specs.Steps.{comb, entries}
use Rattle.step_laws.specs.Chain.{in_row}
use Rattle.step_laws.specs.Firsts.{is_firsts, firsts-entries}
use Rattle.step_laws.specs.Signed.{add-sub}
use Rattle.step_laws.specs.Tests.{by_order}
use Rattle.entry_steps.specs.Passes.{new_entry, Split}
use Rattle.accumulates.specs.Stopped.{is_taken, Stopped, taken_in_row, PutBack}
use Rattle.accumulates.proofs.TestedPass.{by_taken}

-- ---- in a list on which a pass was stopped

-- before the first range
pub none_back : (m : List ℤ) (g : Series) {i : ℕ} → length m ≤ i → Split m (length m) i (entries m) g
unfolding entries
none_back m g {i} past = record { len = refl; below = λ k h b. refl; above = λ k h b. absurd (out h b) }
  where
    out : {k : ℕ} → i ≤ k → k < length m → ⊥
    out h b = omega arith

module _ {d full to stop : ℕ} {l m : List ℤ} (s : Stopped d full to stop l m) where
  -- the comb's step where the place was taken
  pub taken_back : {a : List ℤ} (i y : ℕ) → Split a (length m) i (entries m) (entries l) → y < i → d ≤ y → y < length m
      → is_taken d full to stop y ≡ true → new_entry comb d a y ≡ entries l y
  unfolding entries
  taken_back i y p low h b t =
      ap₂ ◌⊝◌
      (p.below y low b
      ∙ s.each y h (omega (arith, s.len))
      ∙ ap (λ x. cond x (entries l y ⊕ get_or m (y - d) 0ℤ) (entries l y)) t)
      (p.below (y - d) (omega arith) (omega arith))
      ∙ add-sub (entries l y) (get_or m (y - d) 0ℤ)

  kept_back : (y : ℕ) → d ≤ y → y < length m → is_taken d full to stop y ≡ false → entries m y ≡ entries l y
  unfolding entries
  kept_back y h b t =
      s.each y h (omega (arith, s.len))
      ∙ ap (λ x. cond x (entries l y ⊕ get_or m (y - d) 0ℤ) (entries l y)) t

  -- a range of places taken, above which none is up to where all are put back
  pub range_back : {a a' : List ℤ} {from end : ℕ} (i : ℕ) → Split a (length m) i (entries m) (entries l)
      → PutBack d from end a a' → d ≤ from → from ≤ end → end ≤ i
      → ((y : ℕ) → from ≤ y → y < end → y < length m → is_taken d full to stop y ≡ true)
      → ((y : ℕ) → from ≤ y → end ≤ y → y < i → y < length m → is_taken d full to stop y ≡ false)
      → Split a' (length m) from (entries m) (entries l)
  range_back {from = from} {end} i p r h up top taken kept =
      record {
        len = r.len ∙ p.len;
        below = λ y low b. r.others y (λ f _. clash low f) ∙ p.below y (omega arith) b;
        above = λ y high b.
            by_order y end
            (λ e. r.back y high e ∙ taken_back i y p (omega arith) (omega arith) b (taken y high e b))
            (λ e.
            r.others y (λ _ f. clash f e)
            ∙ by_order y i (λ u. p.below y u b ∙ kept_back y (omega arith) b (kept y high e u b))
            (λ u. p.above y u b));
      }
    where
      clash : {x y : ℕ} → x < y → y ≤ x → ⊥
      clash x y = omega arith

  -- all of it
  pub all_back : {a : List ℤ} {y : ℕ} → Split a (length m) y (entries m) (entries l) → y ≤ d → a ≡ l
  unfolding entries
  all_back {a} {y} p h =
      is_firsts (length l) (entries l) a (p.len ∙ s.len)
      (λ k b.
      by_order k y
      (λ low. p.below k low (omega (arith, s.len)) ∙ s.first k (omega arith) b)
      (λ high. p.above k high (omega (arith, s.len))))
      ∙ firsts-entries l

-- ---- which places are taken

-- where one group is all chains: those before `stop`
pub early_taken : (d full to stop y : ℕ) → 1 ≤ d → full ≡ 0 → to ≡ d → (y < stop → is_taken d full to stop y ≡ true)
    × (stop ≤ y → is_taken d full to stop y ≡ false)
early_taken d full to stop y one none all =
    by_taken d full to stop y (λ b. (y < stop → b ≡ true) × (stop ≤ y → b ≡ false))
    (λ low. absurd (not-suc-le-zero (subst (λ x. y % d < x) none low)))
    (λ _ _ early. (λ _. refl, λ late. absurd (clash early late)))
    (λ _ _ late. (λ early. absurd (clash early late), λ _. refl))
    (λ _ out. absurd (clash (mod-lt y one) (subst (λ x. x ≤ y % d) all out)))
  where
    clash : {x y : ℕ} → x < y → y ≤ x → ⊥
    clash x y = omega arith

-- in the row that begins at k
module _ (d full to stop k : ℕ) (one : 1 ≤ d) (up : full ≤ to) (r : k % d ≡ 0) where
  count : (k + to ≤ stop → taken_in_row full to stop k ≡ to)
      × (stop < k + to → k + full ≤ stop → taken_in_row full to stop k ≡ stop - k)
      × (stop < k + full → taken_in_row full to stop k ≡ full)
  unfolding taken_in_row
  count = (
    λ h. rw (le-leb (k + to) stop h),
    λ h l. rw (lt-leb (k + to) stop h, le-leb (k + full) stop l),
    λ h. rw (lt-leb (k + to) stop (omega arith), lt-leb (k + full) stop h),
  )

  cases : {P : Type 0} → (taken_in_row full to stop k ≡ to → k + to ≤ stop → P)
      → (taken_in_row full to stop k ≡ stop - k → stop < k + to → k + full ≤ stop → P)
      → (taken_in_row full to stop k ≡ full → stop < k + full → P) → P
  cases all part none =
      by_order stop (k + to)
      (λ low. by_order stop (k + full) (λ l. none (count.2 l) l) (λ l. part (count.1 low l) low l))
      (λ high. all (count.0 high) high)

  pub row-most : to ≤ d → taken_in_row full to stop k ≤ d
  row-most h = cases (λ e l. omega arith) (λ e l u. omega arith) (λ e l. omega arith)

  pub row-taken : (y : ℕ) → k ≤ y → y < k + d
      → (y < k + taken_in_row full to stop k → is_taken d full to stop y ≡ true)
      × (k + taken_in_row full to stop k ≤ y → is_taken d full to stop y ≡ false)
  row-taken y low high =
      by_taken d full to stop y
      (λ b. (y < k + taken_in_row full to stop k → b ≡ true) × (k + taken_in_row full to stop k ≤ y → b ≡ false))
      (λ h. (λ _. refl, λ l. absurd (beyond_full h l)))
      (λ h g e. (λ _. refl, λ l. absurd (beyond_part g e l)))
      (λ h g e. (λ l. absurd (before-stop h e l), λ _. refl))
      (λ h g. (λ l. absurd (before_to g l), λ _. refl))
    where
      at : y % d ≡ y - k
      at =
          let e : y ≡ k + (y - k) = omega arith in
          let f : 0 + (y - k) ≡ y - k = omega arith in
          ap (λ x. x % d) e ∙ in_row d one k 0 (y - k) r (omega arith) ∙ f

      beyond_full : y % d < full → k + taken_in_row full to stop k ≤ y → ⊥
      beyond_full h l =
          cases (λ e f. omega (arith, at)) (λ e f u. omega (arith, at)) (λ e f. omega (arith, at))

      beyond_part : y % d < to → y < stop → k + taken_in_row full to stop k ≤ y → ⊥
      beyond_part g c l =
          cases (λ e f. omega (arith, at)) (λ e f u. omega (arith, at)) (λ e f. omega (arith, at))

      before-stop : full ≤ y % d → stop ≤ y → y < k + taken_in_row full to stop k → ⊥
      before-stop h c l =
          cases (λ e f. omega (arith, at)) (λ e f u. omega (arith, at)) (λ e f. omega (arith, at))

      before_to : to ≤ y % d → y < k + taken_in_row full to stop k → ⊥
      before_to g l =
          cases (λ e f. omega (arith, at)) (λ e f u. omega (arith, at)) (λ e f. omega (arith, at))
