-- Values that come again: an accumulate of size d makes the first d values, where zeros come after them, come again and
-- again, none larger than they are; and what comes again at d comes again at its multiples.
use Prim.Native.Nat.{ℕ, zero, suc, ◌+◌, ◌*◌, ◌-◌, ◌/◌, ◌%◌, ◌<◌, ◌≤◌}
use mathlib.Core.Path.{◌≡◌, sym, ◌∙◌, ap, ap₂}
use mathlib.Core.List.{List, ◌++◌}
use native.Mathlib.Omega.{arith}
use native.Mathlib.Nat as NatL
use lib.ListN.{length, get_or, take, drop, length-take, length-append, length-drop, get_or-append}
use lib.Seq.{get_or-take, length-take-le}
use lib.IntN.{ℤ, nat_abs}
use Rattle.definitions.specs.Integers.{◌⊕◌, 0ℤ}
use Rattle.definitions.specs.Series.{Series, firsts}
use Rattle.definitions.specs.Steps.{accumulated, entries}
use Rattle.integers.specs.Whole.{zero_⊕}
use Rattle.step_laws.specs.Accumulated.{accumulated_from, accumulated_below, by_chain}
use Rattle.step_laws.specs.Tests.{by_order}
use Rattle.step_laws.specs.Bound.{Bounded}
use Rattle.step_laws.specs.Firsts.{length-firsts, get_or-firsts, entries_past}
use Rattle.repeats.specs.Repeats.{Again, repeated}

-- ---- the first e entries
pub part_here : (e : ℕ) (l : List ℤ) (k : ℕ) → k < e → entries (take e l) k ≡ entries l k
unfolding entries
part_here e l k h = get_or-take e l k 0ℤ h

-- ---- values that come again
-- nothing comes from d on
abbrev pub Ends : ℕ → Series → Type 0
Ends d f = (i : ℕ) → d ≤ i → f i ≡ 0ℤ

pub part_ends : (e : ℕ) (l : List ℤ) → Ends e (entries (take e l))
part_ends e l k h = entries_past (take e l) k (omega (arith, length-take e l))

pub again_sum : {f : Series} (d e : ℕ) → Again d f → Again e f → Again (d + e) f
again_sum {f} d e a b i h =
    let s : i - d - e ≡ i - (d + e) = omega arith in
    a i (omega arith) ∙ b (i - d) (omega arith) ∙ ap f s

pub again_times : {f : Series} (d k : ℕ) → Again d f → Again (k * d) f
again_times {f} d zero a = rw (NatL.zero-mul d) (λ i h. ap f (sym (NatL.sub-zero i)))
again_times {f} d (suc k) a = rw (NatL.suc-mul k d) (again_sum (k * d) d (again_times d k a) a)

-- a size that d divides
pub again_multiple : {f : Series} (d e : ℕ) → e % d ≡ 0 → Again d f → Again e f
again_multiple d e m a = rw (whole) (again_times d (e / d) a)
  where
    whole : e ≡ e / d * d
    whole = omega (arith, NatL.div-add-mod' e d)

module _ (d : ℕ) (one : 1 ≤ d) (s : Series) (ends : Ends d s) where
  pub comes_again : Again d (accumulated d s)
  comes_again i h = accumulated_from d s i one h ∙ ap (λ v. v ⊕ accumulated d s (i - d)) (ends i h)
      ∙ zero_⊕ (accumulated d s (i - d))

  pub again_bounded : {b : ℕ} → Bounded b s → Bounded b (accumulated d s)
  again_bounded {b} h =
      by_chain (λ i. nat_abs (accumulated d s i) ≤ b) d one (λ i l. rw (accumulated_below d s i l) (h i))
      (λ i l rest. rw (comes_again i l) rest)

-- the first d entries repeated up to `far`, and from there on
module _ (d far : ℕ) (l part m : List ℤ) (one : 1 ≤ d) (near : d ≤ far) (room : far ≤ length l) where
  abbrev f : Series
  f = accumulated d (entries (take d l))

  again : Again d f
  again = comes_again d one (entries (take d l)) (part_ends d l)

  -- what is copied up within the first `far`
  module _ (up : (f : Series) → Again d f → ((k : ℕ) → k < d → entries (take far l) k ≡ f k)
      → part ≡ firsts (length (take far l)) f) where
    part_is : part ≡ firsts far f
    part_is =
        up f again
        (λ k h. part_here far l k (omega arith) ∙ sym (part_here d l k h)
        ∙ sym (accumulated_below d (entries (take d l)) k h))
        ∙ ap (λ n. firsts n f) (length-take-le far l room)

    far_length : length part ≡ far
    far_length = ap length part_is ∙ length-firsts far f

    begins : (k : ℕ) → k < far → entries (part ++ drop far l) k ≡ f k
    unfolding entries
    begins k h =
        get_or-append part (drop far l) 0ℤ k (omega (arith, far_length)) ∙ ap (λ x. get_or x k 0ℤ) part_is
        ∙ get_or-firsts far f k h

    all : length (part ++ drop far l) ≡ length l
    all = length-append part (drop far l) ∙ omega (arith, far_length, length-drop far l)

    pub told-again :
        ((f : Series) → Again d f → Again far f)
        → ((f : Series) → Again far f → ((k : ℕ) → k < far → entries (part ++ drop far l) k ≡ f k)
        → m ≡ firsts (length (part ++ drop far l)) f)
        → m ≡ firsts (length l) f
    told-again more on = on f (more f again) begins ∙ ap (λ n. firsts n f) all

-- the first d entries again and again, of a part in which they lie
pub repeated-part : (d e : ℕ) (l : List ℤ) → d ≤ e → e ≤ length l
    → repeated d (take e l) ≡ firsts e (accumulated d (entries (take d l)))
unfolding repeated
repeated-part d e l near room =
    ap₂ (λ n s. firsts n (accumulated d s)) (length-take-le e l room) (λ i k. same k i)
  where
    same : (k : ℕ) → entries (take d (take e l)) k ≡ entries (take d l) k
    same k =
        by_order k d
        (λ h. part_here d (take e l) k h ∙ part_here e l k (omega arith) ∙ sym (part_here d l k h))
        (λ h. part_ends d (take e l) k h ∙ sym (part_ends d l k h))
