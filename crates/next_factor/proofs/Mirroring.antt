-- The product by its lower half. F(n) turned round is itself, or its negative for F(1) (`turned-factor`), and so the
-- product with F(n) of what was itself, or its negative, is (`turned-product`). A product whose lower half was made is
-- then the one that the mirror leaves, and in range where the lower half is.
use Prim.Native.Nat.{ℕ, zero, suc, ◌+◌, ◌-◌, ◌/◌, ◌<◌, ◌≤◌}
use mathlib.Core.Path.{◌≡◌, refl, sym, ◌∙◌, ap, ap₂}
use mathlib.Core.Bool.{Bool, true, false, true≢false, cond, not, not-not}
use mathlib.Core.List.{List, [], ◌∷◌, ◌++◌}
use native.Mathlib.Omega.{arith}
use native.Mathlib.Decide.{ℕ_discrete}
use borrow.Author.Tests.{ne_eqb}
use lib.Dec.{eqb, leb}
use lib.IntN.{ℤ, nat_abs}
use lib.ListN.{length, take, drop, length-append, length-drop, get_or-append}
use lib.Seq.{length-take-le, get_or-take}
use Rattle.definitions.specs.Integers.{◌⊕◌, ⊖, 0ℤ}
use Rattle.definitions.specs.Series.{Series, constant, ◌+ˢ◌, _ˢ, ◌·◌, z^, firsts}
use Rattle.definitions.specs.Numbers.{phi, count_to, some_to, divides, share_factor}
use Rattle.definitions.specs.Polynomials.{F, z^_1}
use Rattle.definitions.specs.Steps.{entries, in_range, some_outside, largest}
use Rattle.integers.specs.Solver.{◌:*◌, :-, x, y}
use Rattle.series.specs.Laws.{agree_mul, ringˢ, at__ˢ}
use Rattle.series.specs.Degree.{ZeroFrom}
use Rattle.series.specs.Mirror.{mirror, mirror_in, mirror-mul, is_mirror}
use Rattle.step_laws.specs.Tests.{by_test, by_order}
use Rattle.step_laws.specs.Firsts.{length-firsts, get_or-firsts, firsts_same, entries_past}
use Rattle.step_laws.specs.Outside.{OutsideAt, outside-found, outside_is, inside_each, inside_all}
use Rattle.step_laws.specs.Signed.{range_in, abs_⊖}
use Rattle.cyclotomic.specs.Family.{F-one}
use Rattle.cyclotomic.specs.Degrees.{monic_F}
use Rattle.cyclotomic.specs.Mirrors.{mirror-F}
use Rattle.index.specs.declared.Parts.{Parts}
use Rattle.definitions.specs.Halves.{mirrored_up}
use Rattle.shapes.specs.Shapes.{InRange}
use Rattle.shapes.proofs.Shaping.{mirrored_low, mirrored_high}
use Rattle.next_factor.specs.Times.{Asked, Turns, Multiplied, signed}

-- ---- the sign
-- F(1) is z - 1
turned-one : mirror (phi 1) (F 1) ≡ signed (eqb 1 1) (F 1)
unfolding signed phi _ˢ z^_1 z^ ◌+ˢ◌ constant ◌⊕◌ ⊖ count_to some_to divides share_factor
turned-one = rw F-one (is_mirror 1 (z^_1 1) (_ˢ (z^_1 1)) low high)
  where
    low : (i : ℕ) → i ≤ 1 → (_ˢ (z^_1 1)) i ≡ z^_1 1 (1 - i)
    low zero h = refl
    low (suc zero) h = refl
    low (suc (suc i)) h = absurd (omega arith)

    high : (i : ℕ) → 1 < i → (_ˢ (z^_1 1)) i ≡ 0ℤ
    high zero h = absurd (omega arith)
    high (suc zero) h = absurd (omega arith)
    high (suc (suc i)) h = rw (ne_eqb (suc (suc i)) 1 (λ e. omega arith)) refl

pub turned-factor : (n : ℕ) → 0 < n → mirror (phi n) (F n) ≡ signed (eqb n 1) (F n)
unfolding signed
turned-factor n l = go (ℕ_discrete n 1)
  where
    go : Dec (n ≡ 1) → mirror (phi n) (F n) ≡ signed (eqb n 1) (F n)
    go (yes e) = rw e turned-one
    go (no u) =
        mirror-F n (omega (arith, l)) ∙ sym (ap (λ b. signed b (F n)) (ne_eqb n 1 u))

signed_mul : (a b : Bool) (f g : Series) → signed a f · signed b g ≡ signed (cond a (not b) b) (f · g)
unfolding signed
signed_mul true true f g = ringˢ (f ∷ g ∷ []) (:- x :* :- y) (x :* y) refl
signed_mul true false f g = ringˢ (f ∷ g ∷ []) (:- x :* y) (:- (x :* y)) refl
signed_mul false true f g = ringˢ (f ∷ g ∷ []) (x :* :- y) (:- (x :* y)) refl
signed_mul false false f g = refl

pub turned-product : (n : ℕ) → 0 < n → (k : ℕ) (turned : Bool) (g : Series) → ZeroFrom (suc k) g
    → mirror k g ≡ signed turned g
    → mirror (phi n + k) (F n · g) ≡ signed (cond (eqb n 1) (not turned) turned) (F n · g)
turned-product n l k turned g ends e =
    mirror-mul (phi n) k (F n) g (monic_F n l).above ends
    ∙ ap₂ ◌·◌ (turned-factor n l) e ∙ signed_mul (eqb n 1) turned (F n) g

-- ---- the lower half
module _ {n : ℕ} {parts : Parts} {l : List ℤ} {have height : ℕ} {negate : Bool} (K : Asked n parts l have height)
    (T : Turns n l have negate) where
  abbrev half : ℕ
  half = (length l + 1) / 2

  pub half_room : (length l + 1) / 2 ≤ length l
  half_room = omega (arith, K.some, T.whole)

  front : length (take half l) ≡ half
  front = length-take-le half l half_room

  lower_entry : (i : ℕ) → i < half → entries (take half l) i ≡ entries l i
  unfolding entries
  lower_entry i b = get_or-take half l i 0ℤ b

  lower-most : (i : ℕ) → nat_abs (entries (take half l) i) ≤ height
  lower-most i =
      by_order i half (λ b. rw (lower_entry i b) (K.bounded i))
      (λ b. rw (entries_past (take half l) i (omega (arith, front))) (omega arith))

  pub lower-asked : Asked n parts (take ((length l + 1) / 2) l) have height
  lower-asked =
      record {
        good = K.good;
        apart = K.apart;
        some = K.some;
        ends = λ i b.
            by_order i half (λ c. lower_entry i c ∙ K.ends i b)
            (λ c. entries_past (take half l) i (omega (arith, front)));
        room = omega (arith, front, half_room, K.room);
        bounded = lower-most;
        inside = K.inside;
      }

  abbrev whole : Series
  whole = F n · entries l

  lower_same : (i : ℕ) → i < half → (F n · entries (take half l)) i ≡ whole i
  lower_same i b = agree_mul i (F n) (entries (take half l)) (entries l) (λ j c. lower_entry j (omega arith))

  -- the entry as far from the end as another is from the start
  other-end : (i : ℕ) → i < length l → whole (length l - 1 - i) ≡ cond negate (⊖ (whole i)) (whole i)
  unfolding signed
  other-end i b =
      sym (mirror_in (length l - 1) whole i (omega arith)) ∙ ap (λ g. g i) T.mirrored ∙ by negate
    where
      by : (c : Bool) → cond c (_ˢ whole) whole i ≡ cond c (⊖ (whole i)) (whole i)
      by true = at__ˢ whole i
      by false = refl

  same_size : (i : ℕ) → i < length l → nat_abs (whole (length l - 1 - i)) ≡ nat_abs (whole i)
  same_size i b = ap nat_abs (other-end i b) ∙ by negate
    where
      by : (c : Bool) → nat_abs (cond c (⊖ (whole i)) (whole i)) ≡ nat_abs (whole i)
      by true = abs_⊖ (whole i)
      by false = refl

  -- in range where the lower half is
  all_inside : ((i : ℕ) → i < half → nat_abs (whole i) ≤ largest) → (i : ℕ) → i < length l → nat_abs (whole i) ≤ largest
  all_inside h i b =
      by_order i half (h i)
      (λ c. let k = length l - 1 - i in
      let back : length l - 1 - k ≡ i = omega arith in
      rw (rw back at (same_size k (omega arith))) (h k (omega arith)))

  outside_same : some_outside largest 0 (length (take half l)) (F n · entries (take half l))
      ≡ some_outside largest 0 (length l) whole
  unfolding in_range
  outside_same =
      by_test (some_outside largest 0 (length l) whole)
      (λ t. let o = outside-found largest 0 whole (length l) t in
      outside_is largest 0 (F n · entries (take half l)) (length (take half l)) (found o.at o.below o.outside)
      ∙ sym t)
      (λ t. inside_all largest 0 (F n · entries (take half l)) (length (take half l))
      (λ i from b. ap (in_range largest) (lower_same i (omega (arith, front)))
      ∙ inside_each largest 0 whole (length l) t i from (omega (arith, front, half_room))) ∙ sym t)
    where
      here : (i : ℕ) → i < half → in_range largest (whole i) ≡ false
          → OutsideAt largest 0 (length (take half l)) (F n · entries (take half l))
      here i b out =
          record {
            at = i;
            from = omega arith;
            below = omega (arith, front);
            outside = ap (in_range largest) (lower_same i b) ∙ out;
          }

      found : (i : ℕ) → i < length l → in_range largest (whole i) ≡ false
          → OutsideAt largest 0 (length (take half l)) (F n · entries (take half l))
      found i b out =
          by_order i half (λ c. here i c out)
          (λ c. here (length l - 1 - i) (omega arith) (ap (λ v. leb v largest) (same_size i b) ∙ out))

  module _ {m : List ℤ} {fits : Bool} (M : Multiplied n (take ((length l + 1) / 2) l) m fits) where
    m-length : length m ≡ half
    m-length = M.len ∙ front

    after-length : length (m ++ drop half l) ≡ length l
    after-length = length-append m (drop half l) ∙ omega (arith, m-length, length-drop half l, half_room)

    tested : fits ≡ not (some_outside largest 0 (length l) whole)
    tested = M.inside ∙ ap not outside_same

    pub lower-over : fits ≡ false → Multiplied n l (m ++ drop ((length l + 1) / 2) l) false
    lower-over e =
        record { inside = sym e ∙ tested; leaves = λ t. absurd (true≢false (sym t)); len = after-length }

    module _ (yes' : fits ≡ true) where
      m_entry : (i : ℕ) → i < half → entries (m ++ drop half l) i ≡ whole i
      unfolding entries
      m_entry i b =
          get_or-append m (drop half l) 0ℤ i (omega (arith, m-length))
          ∙ ap (λ q. entries q i) (M.leaves yes')
          ∙ get_or-firsts (length (take half l)) (F n · entries (take half l)) i (omega (arith, front))
          ∙ lower_same i b

      pub mirror_asks : InRange ((length (m ++ drop ((length l + 1) / 2) l) + 1) / 2) (m ++ drop ((length l + 1) / 2) l)
      mirror_asks i b =
          let low : i < half = rw after-length at b in
          rw (m_entry i low)
          (range_in largest (whole i)
          (inside_each largest 0 whole (length l) (sym (not-not _) ∙ ap not (sym tested ∙ yes')) i (omega arith)
          (omega (arith, half_room))))

      pub mirror_makes : {q : List ℤ}
          → q ≡ firsts (length (m ++ drop ((length l + 1) / 2) l))
          (mirrored_up negate (length (m ++ drop ((length l + 1) / 2) l)) (entries (m ++ drop ((length l + 1) / 2) l)))
          → Multiplied n l q true
      mirror_makes {q} e =
          record {
            inside = sym yes' ∙ tested;
            leaves = λ t. e
                ∙ ap (λ k. firsts k (mirrored_up negate k (entries (m ++ drop half l)))) after-length
                ∙ firsts_same (length l) (mirrored_up negate (length l) (entries (m ++ drop half l))) whole each;
            len = ap length e ∙ length-firsts _ _ ∙ after-length;
          }
        where
          each : (k : ℕ) → k < length l → mirrored_up negate (length l) (entries (m ++ drop half l)) k ≡ whole k
          each k b =
              by_order k half
              (λ c. mirrored_low negate (length l) (entries (m ++ drop half l)) k c ∙ m_entry k c)
              (λ c. let j = length l - 1 - k in
              let back : length l - 1 - j ≡ k = omega arith in
              mirrored_high negate (length l) (entries (m ++ drop half l)) k c
              ∙ ap (λ v. cond negate (⊖ v) v) (m_entry j (omega arith))
              ∙ sym (other-end j (omega arith)) ∙ ap whole back)
