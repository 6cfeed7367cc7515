-- `digits::number_at` meets its contract: each turn takes one digit more.
use Rattle.std.proofs.Common.{◌≡◌, ℕ, List, ◌≤◌, ◌<◌, length, get_or, take, drop, refl, sym, ◌∙◌, ap, arith, add-one, take_all}
use Rattle.std.proofs.Math.Seq.{take-suc}
use native.Mathlib.Nat.{pow-suc}
use Rattle.digits.specs.Digits.{digits, digits_at, number_at, value_of, value_from}
use Rattle.digits.proofs.Digits.{front, digit_range, value-more, small}
use Rattle.digits.proofs.number_at.Goals as goal
use Rattle.digits.proofs.number_at.Goals.{In-loop-b}

-- what is gone through are the digits at the place
passed_over : (line text : List ℕ) (place count : ℕ) → text ≡ drop place line → count ≡ digits_at line place
    → (take count text ≡ digits (drop place line)) × (count ≡ length (take count text))
unfolding digits_at
passed_over line text place count e k = let all : take count text ≡ digits (drop place line) = rw (e, k) (front (drop place line)) in
    (all, k ∙ sym (ap length all))

pub slice_bounds-b-items-end : goal.slice_bounds-b-items-end
slice_bounds-b-items-end c = (passed_over _ _ _ _ c.from_place.ensures c.requires.0).1

pub loop-b-init : goal.loop-b-init
unfolding value_of value_from
loop-b-init c = (refl, omega arith)

-- the next byte is a digit, and v has at most eight
module _ (c : In-loop-b) where
  byte : ℕ
  byte = get_or (take c.args.count c.from_place.result.now) c.loop-b.b-index 0

  digit : (48 ≤ byte) × (byte ≤ 57)
  unfolding byte
  digit =
      let all = (passed_over _ _ _ _ c.from_place.ensures c.requires.0).0 in
      rw all (digit_range (drop c.args.place c.args.line.now) c.loop-b.b-index (rw all at c.loop-b-test.true))

  below : c.loop-b.v < 100000000
  below = small c.loop-b.v c.loop-b.b-index 8 c.loop-b.invariant.1 (omega (arith, c.requires.1, (passed_over _ _ _ _ c.from_place.ensures c.requires.0).1))

pub overflow_mul-v : goal.overflow_mul-v
overflow_mul-v c = omega (arith, below c)

pub overflow_sub-b : goal.overflow_sub-b
unfolding byte
overflow_sub-b c = (digit (goal.at.overflow_sub-b c).In-loop-b).0

pub overflow_add-v : goal.overflow_add-v
unfolding byte
overflow_add-v c =
    let t = (goal.at.overflow_add-v c).In-loop-b in
    omega (arith, (digit t).1, below t, c.from.ensures)

pub loop-b-preserved : goal.loop-b-preserved
unfolding value_of byte
loop-b-preserved c =
    let t = (goal.at.loop-b-preserved c).In-loop-b in
    let ds = take c.args.count c.from_place.result.now in
    let i = c.loop-b.b-index in
    let h : i < length ds = c.loop-b-test.true in (
      rw (c.from.ensures, add-one, take-suc ds i 0, value-more 0 (take i ds) (get_or ds i 0), ← c.loop-b.invariant.0),
      rw add-one (omega (arith, pow-suc 10 i, (digit t).1, c.from.ensures, c.loop-b.invariant.1)),
    )

pub returns : goal.returns
unfolding number_at
returns c =
    let (all, long) = passed_over _ _ _ _ c.from_place.ensures c.requires.0 in (
      c.loop-b.invariant.0 ∙ ap value_of (take_all c.loop-b.b-index _ c.loop-b-test.false ∙ all),
      small c.loop-b.v c.loop-b.b-index 9 c.loop-b.invariant.1 (omega (arith, c.requires.1, long)),
    )
