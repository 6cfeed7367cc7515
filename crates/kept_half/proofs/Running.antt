-- A run of the first j divisors' steps, turn by turn: where it stands after i of them, that a turn goes one further or
-- shows a value that passes the limit, and what it has come to at the end.
use Prim.Native.Nat.{ℕ, zero, suc, ◌+◌, ◌*◌, ◌-◌, ◌^◌, ◌<◌, ◌≤◌}
use mathlib.Core.Path.{◌≡◌, refl, sym, ◌∙◌, ap, ap₂}
use mathlib.Core.Bool.{true, false, cond, not, ◌||◌}
use mathlib.Core.Logic.{◌≢◌}
use mathlib.Core.List.{List, [], ◌∷◌, map, map-append}
use native.Mathlib.Omega.{arith}
use native.Mathlib.Nat as NatL
use native.Mathlib.Numerals.{add-one}
use lib.ListN.{length, get_or, take, length-take, length-replicate}
use lib.Seq.{take-suc}
use lib.IntN.{ℤ}
use lib.Dec.{eqb}
use Rattle.definitions.specs.Integers.{0ℤ}
use Rattle.definitions.specs.Series.{firsts}
use Rattle.definitions.specs.Numbers.{divisors_below, k_of}
use Rattle.definitions.specs.Steps.{Sort, comb, accumulate, entries}
use Rattle.definitions.specs.KeptHalf.{half_degree, start, kept_half, sum_of, additions_after}
use Rattle.definitions.specs.Requests.{divisors_due, next_divisor, over_at, over_among, zeros}
use Rattle.numbers.specs.Apart.{OddSquarefree}
use Rattle.numbers.specs.AtMostFive.{k_at_most_5}
use Rattle.numbers.specs.Below.{divisors_below_lem}
use Rattle.numbers.specs.Lists.{sum-append, sum_at-most}
use Rattle.cyclotomic.specs.Degrees.{half_below}
use Rattle.cyclotomic.specs.Kept.{kept-start}
use Rattle.cyclotomic.specs.Inside.{start_bounded}
use Rattle.step_laws.specs.Bound.{Bounded}
use Rattle.step_laws.specs.WorkingLimit.{Workable}
use Rattle.divisors.specs.Walks.{taken, walk_at, next_of}
use Rattle.divisors.proofs.Walking.{taken_at, stands_at}
use Rattle.flat_for_two_primes.specs.Flat.{two_flat}
use Rattle.outlined_steps.specs.Outlines.{Told, outlined}
use Rattle.outlined_steps.specs.Outcome.{StepDue, OutlinedTaken, OutlinedNotTaken}
use Rattle.outlined_steps.specs.declared.Outline.{Outline}
use Rattle.outlined_steps.proofs.Outlining.{outlined-length, first-told}
use Rattle.kept_half.specs.Halves.{KeptHalfAt, RunTaken, RunNotTaken, WalkAtStart, Zeroed}
use Rattle.divisors.specs.declared.Walk.{Walk}
use Rattle.divisors.specs.declared.Divisor.{Divisor}
use Rattle.outlined_steps.specs.declared.Outlined.{Outlined}
use Rattle.kept_half.specs.declared.Ran.{Ran}
use Rattle.kept_half.proofs.Turning.{kept-length, size_is, after, step_due, turned, not-turned, not-nothing}
use Rattle.std.specs.Prelude.{Option, Some, None}
use Rattle.kept_half.proofs.Starting.{start_later}

-- ---- sums
sum-next : (kind r i : ℕ) → i < divisors_due r → additions_after kind r (suc i)
    ≡ additions_after kind r i + (half_degree kind r + 1 - next_divisor r i)
unfolding additions_after divisors_due next_divisor sum_of
sum-next kind r i h =
    ap (λ l. sum_of (map (λ d. half_degree kind r + 1 - d) l)) (take-suc (divisors_below r) i 0 h)
    ∙ ap sum_of (map-append (λ d. half_degree kind r + 1 - d) (take i (divisors_below r))
    (get_or (divisors_below r) i 0 ∷ []))
    ∙ sum-append (map (λ d. half_degree kind r + 1 - d) (take i (divisors_below r)))
    ((half_degree kind r + 1 - get_or (divisors_below r) i 0) ∷ [])
    ∙ ap (λ k. sum_of (map (λ d. half_degree kind r + 1 - d) (take i (divisors_below r))) + k) (NatL.add-zero _)

module _ (kind r : ℕ) (O : OddSquarefree r) (small : r ≤ 65535) (above : r ≢ 1) where
  larger : 1 < r
  larger = NatL.lt_of_not-le (λ b. above (omega (arith, O.pos)))

  pub few : divisors_due r ≤ 31
  unfolding divisors_due
  few =
      let p : 2 ^ k_of r ≤ 2 ^ 5 = NatL.pow-le-pow_right (omega arith) (k_at_most_5 r small) in
      omega (arith, divisors_below_lem r O)

  pub sum_small : (i : ℕ) → additions_after kind r i ≤ 31 * 65536
  unfolding additions_after divisors_due
  sum_small i =
      let b = sum_at-most (λ d. half_degree kind r + 1 - d) (half_degree kind r + 1) (λ d. omega arith)
      (take i (divisors_below r)) in
      let n : length (take i (divisors_below r)) ≤ 31 = omega (arith, length-take i (divisors_below r), few) in
      let d : half_degree kind r + 1 ≤ 65536 = omega (arith, half_below kind r larger) in
      NatL.le_trans b (NatL.mul-le-mul n d)

-- ---- where a run stands
pub record Running (limit kind r i additions bound : ℕ) (at : Walk) (o : Outline) (a : List ℤ) : Type 0 where
  pub walk : at ≡ walk_at r i
  pub told : Told o a
  pub half : outlined o a ≡ kept_half kind r i
  pub bounded : Bounded bound (entries (outlined o a))
  pub inside : bound ≤ limit
  pub good : Workable limit
  pub clear : over_among limit kind r i ≡ false
  pub sum : additions ≡ additions_after kind r i

-- one of the first steps is one of more
over_more : (w kind r i : ℕ) → over_among w kind r i ≡ true → over_among w kind r (suc i) ≡ true
unfolding over_among
over_more w kind r i e = ap (λ b. b || over_at w kind r i) e

over_later : (w kind r i k : ℕ) → over_among w kind r i ≡ true → over_among w kind r (i + k) ≡ true
over_later w kind r i zero e = ap (over_among w kind r) (NatL.add-zero i) ∙ e
over_later w kind r i (suc k) e =
    ap (over_among w kind r) (NatL.add-suc i k) ∙ over_more w kind r (i + k) (over_later w kind r i k e)

pub over_among_lem : (w kind r i j : ℕ) → i ≤ j → over_among w kind r i ≡ true → over_among w kind r j ≡ true
over_among_lem w kind r i j h e = ap (over_among w kind r) (sym (NatL.add-sub_of_le h)) ∙ over_later w kind r i (j - i) e

module _ (limit kind r : ℕ) (O : OddSquarefree r) (small : r ≤ 65535) (above : r ≢ 1) {i additions bound : ℕ}
    {at : Walk} {o : Outline} {a : List ℤ} (s : Running limit kind r i additions bound at o a)
    (h : i < divisors_due r) where
  of_r : at.r ≡ r
  unfolding walk_at
  of_r = ap (λ (w : Walk). w.r) s.walk

  at_i : taken at ≡ i
  unfolding divisors_due
  at_i = ap taken s.walk ∙ taken_at r i (omega arith)

  stands : KeptHalfAt limit kind at bound o a
  unfolding divisors_due
  stands =
      record {
        walk = rw s.walk (stands_at r i O small (omega arith));
        above = rw of_r above;
        told = s.told;
        half = s.half ∙ sym (ap₂ (kept_half kind) of_r at_i);
        bounded = s.bounded;
        inside = s.inside;
        good = s.good;
      }

  more_due : 0 < at.due
  unfolding divisors_due walk_at
  more_due = let e : at.due ≡ length (divisors_below r) - i = ap (λ (w : Walk). w.due) s.walk in omega arith

  -- it hands one out
  pub not-none : (t : Walk) → ◌≡◌ {A = Option Divisor × Walk} (None, t) (next_of at) → ⊥
  not-none = not-nothing limit kind at bound o a stands more_due

  -- the walk handed out d, and stands after it
  module _ (d : Divisor) (t : Walk) (e : ◌≡◌ {A = Option Divisor × Walk} (Some d, t) (next_of at)) where
    pub due_here : StepDue limit bound d.size o a
    due_here = step_due limit kind at bound o a stands more_due d t e

    count_here : half_degree kind r + 1 - d.size ≡ half_degree kind r + 1 - next_divisor r i
    count_here =
        ap (λ k. half_degree kind r + 1 - k) (size_is limit kind at bound o a stands more_due d t e
        ∙ ap₂ next_divisor of_r at_i)

    -- d's step was taken
    module _ {sort : Sort} (is : sort ≡ cond (cond (eqb kind 1) d.plus (not d.plus)) comb accumulate) {m : List ℤ} where
      pub runs_on : {x : Outlined} {count : ℕ} → OutlinedTaken limit sort d.size (outlined o a) m x
          → count ≡ half_degree kind r + 1 - d.size
          → Running limit kind r (i + 1) (additions + count) x.bound t x.outline m
      unfolding over_among
      runs_on {x} taken counted =
          let u = turned limit kind at bound o a stands more_due d t e sort is m x taken in
          rw (add-one i)
          (record {
            walk = after limit kind at bound o a stands more_due d t e ∙ ap₂ (λ x k. walk_at x (suc k)) of_r at_i;
            told = u.told;
            half = u.half ∙ ap₂ (λ x k. kept_half kind x (suc k)) of_r at_i;
            bounded = u.bounded;
            inside = u.inside;
            good = s.good;
            clear = ap₂ ◌||◌ s.clear (sym (ap₂ (over_at limit kind) of_r at_i) ∙ u.over);
            sum = ap₂ ◌+◌ s.sum (counted ∙ count_here) ∙ sym (sum-next kind r i h);
          })

      -- or not
      pub stops : {j : ℕ} → i < j → OutlinedNotTaken limit sort d.size (outlined o a) m → RunNotTaken limit kind r j m
      unfolding over_among
      stops {j} below taken =
          let u = not-turned limit kind at bound o a stands more_due d t e sort is m taken in
          record {
            over = over_among_lem limit kind r (suc i) j below
                (ap₂ ◌||◌ s.clear (sym (ap₂ (over_at limit kind) of_r at_i) ∙ u.over));
            len = u.len ∙ ap (λ x. half_degree kind x + 1) of_r;
          }

-- ---- the start and the end
pub standing_length : {limit kind bound : ℕ} {w : Walk} {o : Outline} {l : List ℤ}
    → KeptHalfAt limit kind w bound o l → length l ≡ half_degree kind w.r + 1
standing_length {kind = kind} {w = w} {o} {l} s =
    sym (outlined-length o l) ∙ ap length s.half ∙ kept-length kind w.r (taken w)

pub run_start : (limit kind r : ℕ) (at : Walk) (o : Outline) (a : List ℤ) → KeptHalfAt limit kind at 1 o a
    → at ≡ walk_at r 0 → Running limit kind r 0 0 1 at o a
unfolding over_among additions_after sum_of walk_at divisors_due
run_start limit kind r at o a s e =
    record {
      walk = e;
      told = s.told;
      half = s.half ∙ ap₂ (kept_half kind) (ap (λ (w : Walk). w.r) e) (ap taken e ∙ taken_at r 0 (omega arith));
      bounded = s.bounded;
      inside = s.inside;
      good = s.good;
      clear = refl;
      sum = refl;
    }

-- at the start all are due
pub start_due : (r : ℕ) {w : Walk} → w ≡ walk_at r 0 → w.due ≡ divisors_due r
unfolding walk_at divisors_due
start_due r e = ap (λ (w : Walk). w.due) e ∙ NatL.sub-zero (length (divisors_below r))

-- where none is handed out, all j were
pub took_all :
    {limit kind r : ℕ} → OddSquarefree r → r ≤ 65535 → r ≢ 1 → {i additions bound : ℕ} {at : Walk} {o : Outline} {a : List ℤ}
    → Running limit kind r i additions bound at o a → {j : ℕ} → j ≤ divisors_due r → (count : ℕ) (t : Walk) → count + i ≡ j
    → (0 < count → ◌≡◌ {A = Option Divisor × Walk} (None, t) (next_of at)) → i ≡ j
took_all O small above s few zero t l none = omega arith
took_all O small above s few (suc k) t l none = absurd (not-none _ _ _ O small above s (omega arith) t (none (omega arith)))

pub ran :
    (limit kind r j additions bound : ℕ) (at : Walk) (o : Outline) (a m : List ℤ)
    → Running limit kind r j additions bound at o a → m ≡ outlined o a
    → RunTaken limit kind r j m (record { additions = additions; due = divisors_due r - j; bound = bound })
ran limit kind r j additions bound at o a m s e =
    record {
      over = s.clear;
      half = e ∙ s.half;
      inside = λ k. NatL.le_trans (small k) s.inside;
      bounded = small;
      additions = s.sum;
      due = refl;
      len = ap length (e ∙ s.half) ∙ kept-length kind r j;
    }
  where
    small : Bounded bound (entries m)
    small = rw e s.bounded

-- ---- a walk that has taken nothing, and the start of the kept half
-- the first entry tells the start
pub fresh-stands :
    (limit kind : ℕ) (w : Walk) (l : List ℤ) → Workable limit → WalkAtStart w → length l ≡ half_degree kind w.r + 1
    → entries l 0 ≡ start kind 0
    → KeptHalfAt limit kind w 1 (record { told = 1; repeats = false }) l
unfolding divisors_due
fresh-stands limit kind w l good f len e =
    record {
      walk = rw f.here (stands_at w.r 0 f.squarefree f.small (omega arith));
      above = f.above;
      told = record { some = omega arith; room = omega arith };
      half = started ∙ ap (λ k. firsts k (start kind)) len ∙ sym (kept-start kind w.r)
          ∙ sym (ap (kept_half kind w.r) (ap taken f.here ∙ taken_at w.r 0 (omega arith)));
      bounded = rw started (start_bounded kind (length l));
      inside = good.0;
      good = good;
    }
  where
    started : outlined (record { told = 1; repeats = false }) l ≡ firsts (length l) (start kind)
    started = first-told l (start kind) e (start_later kind)

pub made-zeros : {limit kind r j : ℕ} {m l : List ℤ} → RunNotTaken limit kind r j m → l ≡ zeros (length m)
    → Zeroed limit kind r j l
unfolding zeros
made-zeros {m = m} t e =
    record {
      ran = record { over = t.over; len = ap length e ∙ length-replicate (length m) 0ℤ ∙ t.len };
      zeroed = e ∙ ap zeros t.len;
    }

-- F of two primes has no magnitude above 1
pub two_primes :
    {limit kind r : ℕ} {m : List ℤ} {h : Ran} → RunTaken limit kind r (divisors_due r) m h → OddSquarefree r
    → kind ≡ 1 → divisors_due r ≡ 3
    → RunTaken limit kind r (divisors_due r) m (record { additions = h.additions; due = h.due; bound = 1 })
two_primes {r = r} t O k three =
    record {
      over = t.over;
      half = t.half;
      inside = t.inside;
      bounded = rw (t.half, k) (two_flat r O three);
      additions = t.additions;
      due = t.due;
      len = t.len;
    }
