-- Outlined entries and steps on them, as lists: what is told once zeros are written up to some place, what is told
-- whole, and that the short ways of a step come to what the step on all entries comes to.
use Prim.Native.Nat.{ℕ, zero, suc, ◌+◌, ◌-◌, ◌%◌, ◌<◌, ◌≤◌, min}
use mathlib.Core.Path.{◌≡◌, refl, sym, ◌∙◌, ap, ap₂}
use mathlib.Core.Bool.{Bool, true, false, not, ◌&&◌, ◌||◌}
use mathlib.Core.List.{List, ◌++◌}
use native.Mathlib.Omega.{arith}
use native.Mathlib.Nat as NatL
use lib.Dec.{leb}
use lib.ListN.{length, get_or, take, drop, get_or-replicate, length-replicate, length-append, length-drop}
use lib.Seq.{length-take-le, take_all, take-append_seam}
use lib.IntN.{ℤ, nat_abs}
use borrow.Rule.Slice.PartMut.{put_mid}
use Rattle.definitions.specs.Integers.{◌⊝◌, 0ℤ}
use Rattle.definitions.specs.Series.{Series, firsts}
use Rattle.definitions.specs.Steps.{Sort, comb, accumulate, combed, accumulated, stepped, entries, in_range, some_outside}
use Rattle.definitions.specs.Steps.{step_over, step_list}
use Rattle.definitions.specs.Requests.{zeros}
use Rattle.integers.specs.Whole.{⊕_neg}
use Rattle.step_laws.specs.Tests.{by_order}
use Rattle.step_laws.specs.Signed.{in_range_lem}
use Rattle.step_laws.specs.Firsts.{length-firsts, is_firsts, firsts_same, firsts-entries, entries_past}
use Rattle.step_laws.specs.Firsts.{firsts_here, firsts_past}
use Rattle.step_laws.specs.Bound.{Bounded, firsts_bounded}
use Rattle.step_laws.specs.Step.{combed_from, stepped_below, not-over_all, long-not-over, long_stays}
use Rattle.shapes.proofs.Stretches.{put_before, put_in, put_length}
use Rattle.bounded_steps.specs.Outcome.{Taken, NotTaken}
use Rattle.bounded_steps.proofs.Outcomes.{taken_length}
use Rattle.repeats.specs.Repeats.{Again, repeated}
use Rattle.repeats.proofs.Repeats.{Ends, part_here, part_ends, repeated-part}
use Rattle.repeats.proofs.Repeats.{comes_again, again_bounded, again_multiple}
use Rattle.outlined_steps.specs.Outlines.{Told, ToldTo, spelled, outlined}
use Rattle.outlined_steps.specs.Outcome.{StepDue, OutlinedTaken, OutlinedNotTaken}
use Rattle.outlined_steps.specs.declared.Outline.{Outline}

-- zeros written from e on up to `to` were told already
pub zeros-told : (e to : ℕ) (l z : List ℤ) → e ≤ to → to ≤ length l → z ≡ zeros (to - e)
    → ToldTo e to l (put_mid e (to - e) l z)
unfolding entries zeros
zeros-told e to l z h b q = record { same = same; len = put_length e to l z h b z-length }
  where
    m : List ℤ
    m = put_mid e (to - e) l z

    z-length : length z ≡ to - e
    z-length = ap length q ∙ length-replicate (to - e) 0ℤ

    same : (k : ℕ) → entries (take to m) k ≡ entries (take e l) k
    same k =
        by_order k e
        (λ low. part_here to m k (omega arith) ∙ put_before e to l z h b z-length k low ∙ sym (part_here e l k low))
        (λ from. by_order k to
        (λ in'. part_here to m k in' ∙ put_in e to l z h b z-length k from in' ∙ ap (λ x. get_or x (k - e) 0ℤ) q
        ∙ get_or-replicate (to - e) (k - e) 0ℤ 0ℤ (omega arith)
        ∙ sym (part_ends e l k from))
        (λ out. part_ends to m k out ∙ sym (part_ends e l k from)))

-- ---- the entries that are told
-- the first n values of what ends by n are all of it
whole-entries : (n : ℕ) (f : Series) → Ends n f → entries (firsts n f) ≡ f
whole-entries n f ends i k = go k i
  where
    go : (k : ℕ) → entries (firsts n f) k ≡ f k
    go k = by_order k n (firsts_here n f k) (λ out. firsts_past n f k out ∙ sym (ends k out))

pub outlined-length : (o : Outline) (l : List ℤ) → length (outlined o l) ≡ length l
unfolding outlined
outlined-length o l = length-firsts (length l) (spelled o l)

module _ (o : Outline) (l : List ℤ) (t : Told o l) where
  zeros-entries : o.repeats ≡ false → entries (outlined o l) ≡ entries (take o.told l)
  unfolding outlined spelled
  zeros-entries e =
      rw e
      (whole-entries (length l) (entries (take o.told l)) (λ k h. part_ends o.told l k (omega (arith, t.room))))

  -- all written, where zeros come after what is told
  pub zeros-written : (m : List ℤ) → o.repeats ≡ false → ToldTo o.told (length l) l m → m ≡ outlined o l
  unfolding outlined spelled entries
  zeros-written m e w =
      rw e
      (is_firsts (length l) (entries (take o.told l)) m w.len
      (λ k h. sym (part_here (length l) m k h) ∙ w.same k))

-- all written already
pub all_told : (n : ℕ) (m : List ℤ) → n ≡ length m → outlined (record { told = n; repeats = false }) m ≡ m
unfolding outlined spelled
all_told n m e = ap (λ x. firsts (length m) (entries x)) (take_all n m (omega arith)) ∙ firsts-entries m

-- one entry, and zeros after it
pub first-told : (l : List ℤ) (f : Series) → entries l 0 ≡ f 0 → ((k : ℕ) → f (suc k) ≡ 0ℤ)
    → outlined (record { told = 1; repeats = false }) l ≡ firsts (length l) f
unfolding outlined spelled
first-told l f e none = firsts_same (length l) (entries (take 1 l)) f (λ k h. go k)
  where
    go : (k : ℕ) → entries (take 1 l) k ≡ f k
    go zero = part_here 1 l 0 (omega arith) ∙ e
    go (suc k) = part_ends 1 l (suc k) (omega arith) ∙ sym (none k)

-- ---- a step on all entries
pub whole-step : {w b d n bound : ℕ} {s : Sort} {o : Outline} {l m : List ℤ} → StepDue w b d o l
    → Taken w s d b (outlined o l) m bound → n ≡ length m
    → OutlinedTaken w s d (outlined o l) m (record { bound = bound; outline = record { told = n; repeats = false } })
whole-step {n = n} {o = o} {l} {m} due t e =
    record {
      over = t.over;
      told =
          record {
            some = omega (arith, len, due.told.some, due.told.room, outlined-length o l);
            room = omega arith;
          };
      leaves = all_told n m e ∙ t.leaves;
      bounded = rw (all_told n m e) t.bounded;
      inside = t.inside due.inside;
      len = len;
    }
  where
    len : length m ≡ length (outlined o l)
    len = taken_length t

-- ---- what is repeated
pub repeats_all : (o : Outline) (l : List ℤ) → o.repeats ≡ true → repeated o.told l ≡ outlined o l
unfolding outlined spelled repeated
repeats_all o l e = rw e refl

-- ---- a step that is too long
pub too_long : {w b d : ℕ} {s : Sort} {o : Outline} {l : List ℤ} → StepDue w b d o l → length l ≤ d
    → OutlinedTaken w s d (outlined o l) l (record { bound = b; outline = o })
too_long {w} {d = d} {s} {o} {l} due far =
    record {
      over = long-not-over s d (outlined o l) w (rw (outlined-length o l) far);
      told = due.told;
      leaves = sym (long_stays s d (outlined o l) (rw (outlined-length o l) far));
      bounded = due.bounded;
      inside = due.inside;
      len = sym (outlined-length o l);
    }

-- ---- an accumulate before zeros
module _ {w b d : ℕ} {o : Outline} {l m : List ℤ} (due : StepDue w b d o l) (e : o.repeats ≡ false)
    (below : d < length l) (t : ToldTo o.told d l m) where
  m-length : length m ≡ length (outlined o l)
  m-length = t.len ∙ sym (outlined-length o l)

  m-entries : entries (take d m) ≡ entries (outlined o l)
  m-entries = (λ i k. t.same k i) ∙ sym (zeros-entries o l due.told e)

  first_d : Ends d (entries (outlined o l))
  first_d = rw (← m-entries) (part_ends d m)

  small : Bounded b (accumulated d (entries (outlined o l)))
  small = again_bounded d due.size (entries (outlined o l)) first_d due.bounded

  pub begins_again : OutlinedTaken w accumulate d (outlined o l) m
      (record { bound = b; outline = record { told = d; repeats = true } })
  unfolding outlined spelled step_list stepped
  begins_again =
      record {
        over = not-over_all accumulate d (outlined o l) w
            (λ i from h. in_range_lem w _ (NatL.le_trans (small i) due.inside));
        told = record { some = due.size; room = omega (arith, m-length, outlined-length o l) };
        leaves = ap₂ (λ n f. firsts n (accumulated d f)) m-length m-entries;
        bounded = firsts_bounded b (length m) (accumulated d (entries (take d m))) (λ i h. rw m-entries (small i));
        inside = due.inside;
        len = m-length;
      }

-- ---- a comb of what comes again
-- what a size divides is no smaller
pub at_least : (d e : ℕ) → 1 ≤ d → d % e ≡ 0 → e ≤ d
at_least d e one m = by_order d e (λ h. let x = NatL.mod-eq_of_lt h in absurd (zero-not (omega arith))) (λ h. h)
  where
    zero-not : d ≡ 0 → ⊥
    zero-not z = omega arith

module _ {w b d : ℕ} {o : Outline} {l a : List ℤ} (due : StepDue w b d o l) (e : o.repeats ≡ true)
    (below : d < length l) (whole : d % o.told ≡ 0)
    (q : a ≡ repeated o.told (take d l)) where
  pub period_fits : o.told ≤ d
  period_fits = at_least d o.told due.size whole

  f : Series
  f = accumulated o.told (entries (take o.told l))

  a_is : a ≡ firsts d f
  unfolding f
  a_is = q ∙ repeated-part o.told d l period_fits (omega arith)

  a_length : length a ≡ d
  a_length = ap length a_is ∙ length-firsts d f

  all_is : outlined o l ≡ firsts (length l) f
  unfolding outlined spelled f
  all_is = rw e refl

  comes : Again d f
  unfolding f
  comes =
      again_multiple o.told d whole
      (comes_again o.told due.told.some (entries (take o.told l)) (part_ends o.told l))

  all_here : (k : ℕ) → k < length l → entries (outlined o l) k ≡ f k
  all_here k h = ap (λ x. entries x k) all_is ∙ firsts_here (length l) f k h

  gone : (k : ℕ) → d ≤ k → k < length l → stepped comb d (entries (outlined o l)) k ≡ 0ℤ
  unfolding stepped
  gone k from h =
      combed_from d (entries (outlined o l)) k from
      ∙ ap₂ ◌⊝◌ (all_here k h ∙ comes k from) (all_here (k - d) (omega arith))
      ∙ ⊕_neg (f (k - d))

  stays : (k : ℕ) → k < length l → entries a k ≡ stepped comb d (entries (outlined o l)) k
  stays k h =
      by_order k d
      (λ low. ap (λ x. entries x k) a_is ∙ firsts_here d f k low ∙ sym (all_here k h)
      ∙ sym (stepped_below d (entries (outlined o l)) comb k low))
      (λ from. entries_past a k (omega (arith, a_length)) ∙ sym (gone k from h))

  told_d : take d (a ++ drop d l) ≡ a
  told_d = ap (λ n. take n (a ++ drop d l)) (sym a_length) ∙ take-append_seam a (drop d l)

  m_is : length (a ++ drop d l) ≡ length l
  m_is = length-append a (drop d l) ∙ omega (arith, a_length, length-drop d l)

  a_bounded : (k : ℕ) → nat_abs (entries a k) ≤ b
  a_bounded k =
      by_order k d
      (λ low. rw (ap (λ x. entries x k) a_is ∙ firsts_here d f k low ∙ sym (all_here k (omega arith))) (due.bounded k))
      (λ from. rw (entries_past a k (omega (arith, a_length))) (omega arith))

  pub cut : OutlinedTaken w comb d (outlined o l) (a ++ drop d l)
      (record { bound = b; outline = record { told = d; repeats = false } })
  unfolding outlined spelled step_list
  cut =
      record {
        over = not-over_all comb d (outlined o l) w
            (λ i from h. rw (gone i from (omega (arith, outlined-length o l))) (in_range_lem w 0ℤ (omega arith)));
        told = record { some = due.size; room = omega (arith, m_is) };
        leaves = ap₂ (λ n p. firsts n (entries p)) m_is told_d ∙ firsts_same (length l) (entries a) _ stays
            ∙ ap (λ n. firsts n (stepped comb d (entries (outlined o l)))) (sym (outlined-length o l));
        bounded = firsts_bounded b (length (a ++ drop d l)) (entries (take d (a ++ drop d l)))
            (λ i h. rw told_d (a_bounded i));
        inside = due.inside;
        len = m_is ∙ sym (outlined-length o l);
      }

-- ---- a comb before zeros
-- values that are 0 are in every range
no_more : (x y : Bool) → (x || y && not true) ≡ x
no_more true y = refl
no_more false true = refl
no_more false false = refl

module _ (w d to : ℕ) (g : Series) where
  only-zeros : (k : ℕ) → ((i : ℕ) → to ≤ i → i < to + k → g i ≡ 0ℤ) → some_outside w d (to + k) g ≡ some_outside w d to g
  unfolding some_outside
  only-zeros zero h = rw (NatL.add-zero to)
  only-zeros (suc k) h =
      rw (NatL.add-suc to k)
      (ap (λ x. some_outside w d (to + k) g || leb d (to + k) && not x) inside
      ∙ no_more (some_outside w d (to + k) g) (leb d (to + k)) ∙ only-zeros k (λ i a b. h i a (omega arith)))
    where
      inside : in_range w (g (to + k)) ≡ true
      inside = rw (h (to + k) (omega arith) (omega arith)) (in_range_lem w 0ℤ (omega arith))

module _ {w b d to : ℕ} {o : Outline} {l c : List ℤ} (due : StepDue w b d o l) (e : o.repeats ≡ false)
    (below : d < length l)
    (reach : to ≡ min (o.told + d) (length l)) (z : ToldTo o.told to l c) where
  abbrev part : List ℤ
  part = take to c

  part-entries : entries part ≡ entries (outlined o l)
  part-entries = (λ i k. z.same k i) ∙ sym (zeros-entries o l due.told e)

  pub part_length : length part ≡ to
  part_length = length-take-le to c (omega (arith, z.len))

  pub part_bounded : Bounded b (entries part)
  part_bounded = rw part-entries due.bounded

  -- past what the comb reaches
  nothing : (k : ℕ) → to ≤ k → k < length l → combed d (entries (outlined o l)) k ≡ 0ℤ
  nothing k from h =
      combed_from d (entries (outlined o l)) k (omega arith)
      ∙ ap₂ ◌⊝◌ (ends k (omega arith)) (ends (k - d) (omega arith)) ∙ ⊕_neg 0ℤ
    where
      ends : Ends o.told (entries (outlined o l))
      ends = rw (zeros-entries o l due.told e) (part_ends o.told l)

  within : to ≤ length l
  within = omega arith

  same_over : step_over w comb d part ≡ step_over w comb d (outlined o l)
  unfolding step_over stepped
  same_over =
      ap₂ (λ n f. some_outside w d n (combed d f)) part_length part-entries
      ∙ sym (only-zeros w d to (combed d (entries (outlined o l))) (length l - to) (λ k a b. nothing k a (omega arith)))
      ∙ ap (λ n. some_outside w d n (combed d (entries (outlined o l))))
      (NatL.add-sub_of_le within ∙ sym (outlined-length o l))

  -- with what the step on the part left before the rest
  module _ (p : List ℤ) (p-length : length p ≡ to) where
    m-part : take to (p ++ drop to c) ≡ p
    m-part = ap (λ n. take n (p ++ drop to c)) (sym p-length) ∙ take-append_seam p (drop to c)

    m-all : length (p ++ drop to c) ≡ length l
    m-all = length-append p (drop to c) ∙ omega (arith, p-length, length-drop to c, z.len)

  module _ {p : List ℤ} {g : ℕ} (t : Taken w comb d b part p g) where
    p-length : length p ≡ to
    p-length = taken_length t ∙ part_length

    p_is : p ≡ firsts to (combed d (entries (outlined o l)))
    unfolding step_list stepped
    p_is = t.leaves ∙ ap₂ (λ n f. firsts n (combed d f)) part_length part-entries

    new_part : (k : ℕ) → k < length l → entries p k ≡ combed d (entries (outlined o l)) k
    new_part k h =
        ap (λ y. entries y k) p_is
        ∙ by_order k to (firsts_here to (combed d (entries (outlined o l))) k)
        (λ from. firsts_past to (combed d (entries (outlined o l))) k from ∙ sym (nothing k from h))

    pub reached : OutlinedTaken w comb d (outlined o l) (p ++ drop to c)
        (record { bound = g; outline = record { told = to; repeats = false } })
    unfolding outlined spelled step_list stepped
    reached =
        record {
          over = sym same_over ∙ t.over;
          told = record { some = omega (arith, due.told.some, due.told.room); room = omega (arith, m-all p p-length) };
          leaves = ap₂ (λ n y. firsts n (entries y)) (m-all p p-length) (m-part p p-length)
              ∙ firsts_same (length l) (entries p) (combed d (entries (outlined o l))) new_part
              ∙ ap (λ n. firsts n (combed d (entries (outlined o l)))) (sym (outlined-length o l));
          bounded = firsts_bounded g (length (p ++ drop to c)) (entries (take to (p ++ drop to c)))
              (λ i h. rw (m-part p p-length) (t.bounded i));
          inside = t.inside due.inside;
          len = m-all p p-length ∙ sym (outlined-length o l);
        }

  pub stopped : {p : List ℤ} → NotTaken w comb d part p → OutlinedNotTaken w comb d (outlined o l) (p ++ drop to c)
  stopped {p} t =
      record {
        over = sym same_over ∙ t.over;
        len = m-all p (ap length t.leaves ∙ part_length) ∙ sym (outlined-length o l);
      }
