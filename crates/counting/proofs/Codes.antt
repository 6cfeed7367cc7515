-- The answer and what is left, by the code: the bounds are good and there are 4,096 entries, or one of the two is not
-- so.
use Prim.Native.Nat.{ℕ, suc, ◌+◌, ◌-◌, ◌/◌, ◌≤◌, ◌<◌}
use mathlib.Core.Path.{◌≡◌, refl, sym, ◌∙◌, ap}
use mathlib.Core.Bool.{Bool, true, false, cond}
use mathlib.Core.List.{List, ◌++◌}
use native.Mathlib.Omega.{arith}
use borrow.Author.Tests.{lt-ltb, le-ltb}
use lib.Dec.{ltb}
use lib.ListN.{length, take, drop, length-drop, length-replicate}
use lib.Seq.{length-take-le}
use lib.IntN.{ℤ}
use Rattle.definitions.specs.Integers.{0ℤ}
use Rattle.definitions.specs.Codes.{DONE, SHORT, RANGE, ROWS}
use Rattle.definitions.specs.Requests.{written, zeros}
use Rattle.numbers.specs.Tests.{test_and, test_le}
use Rattle.std.specs.Prelude.{Some, None}
use Rattle.counting.specs.Census.{indices, from_to, census, rows_of, all_additions, good_range, census_code, answered}
use Rattle.counting.specs.Census.{answer, leaves, cleared_by, clears}
use Rattle.counting.specs.Passes.{Heights, LaidIs, heights_of}

pub range_good : (a b : ℕ) → good_range a b ≡ true → (1 ≤ a) × (a ≤ b) × (b ≤ 4095)
unfolding good_range
range_good a b e =
    let t = (test_and (test_le 1 a) (test_and (test_le a b) (test_le b 4095))).shows e in
    (t.0, t.1.0, t.1.1)

-- ---- the entries from a to b
module _ (a b : ℕ) (w : List ℤ) (low : 1 ≤ a) (order : a ≤ b) (high : b ≤ 4095) (long : length w ≡ 4096) where
  count : length (take (b + 1 - a) (drop a w)) ≡ suc b - a
  count =
      let plus : b + 1 - a ≡ suc b - a = omega arith in
      ap (λ k. length (take k (drop a w))) plus
      ∙ length-take-le (suc b - a) (drop a w) (omega (arith, length-drop a w, long))

  pub heights_are : take (suc b - a) (drop a w) ≡ heights_of (from_to a b) → Heights a (take (b + 1 - a) (drop a w))
  unfolding from_to
  heights_are e =
      let plus : b + 1 - a ≡ suc b - a = omega arith in
      record {
        some = low;
        most = omega (arith, count);
        are = ap (λ k. take k (drop a w)) plus ∙ (e ∙ ap (λ k. heights_of (indices a k)) (sym count));
      }

  pub rows_are : rows_of (indices a (length (take (b + 1 - a) (drop a w)))) ≡ census a b
  unfolding census from_to
  rows_are = ap (λ k. rows_of (indices a k)) count

zeros-long : length (zeros 4096) ≡ 4096
unfolding zeros
zeros-long = length-replicate 4096 0ℤ

-- ---- refused at once
module _ (a b : ℕ) (rows : List ℕ) (work : List ℤ) where
  pub out_of_range : good_range a b ≡ false
      → (answer a b (length rows) (length work) ≡ record { code = RANGE; rows = 0; additions = 0 })
      × (leaves a b rows (length work) ≡ rows) × (clears a b (length rows) work ≡ work)
  unfolding answer answered leaves clears cleared_by census_code
  out_of_range e = rw e (refl, refl, refl)

  module _ (good : good_range a b ≡ true) where
    pub too_short : length work < 4096
        → (answer a b (length rows) (length work) ≡ record { code = SHORT; rows = 0; additions = 0 })
        × (leaves a b rows (length work) ≡ rows) × (clears a b (length rows) work ≡ work)
    unfolding answer answered leaves clears cleared_by census_code
    too_short l = rw (good, lt-ltb (length work) 4096 l) (refl, refl, refl)

    -- ---- with room: as if there were just 4,096 entries
    module _ (enough : 4096 ≤ length work) where
      same_code : census_code a b (length rows) (length work) ≡ census_code a b (length rows) 4096
      unfolding census_code
      same_code = rw (good, le-ltb (length work) 4096 enough) refl

      pub same_answer : answer a b (length rows) (length work) ≡ answer a b (length rows) 4096
      unfolding answer
      same_answer = ap (answered a b) same_code

      pub same_leaves : leaves a b rows (length work) ≡ leaves a b rows 4096
      unfolding leaves
      same_leaves = rw same_code refl

      pub all_clear : clears a b (length rows) work ≡ zeros 4096 ++ drop 4096 work
      unfolding clears cleared_by census_code written
      all_clear =
          rw (good, le-ltb (length work) 4096 enough) (go (ltb (length rows) (length (census a b)))) ∙ over
        where
          over : written (zeros 4096) work ≡ zeros 4096 ++ drop 4096 work
          over = ap (λ k. zeros 4096 ++ drop k work) zeros-long

          go : (x : Bool) → cleared_by (cond x ROWS DONE) work ≡ written (zeros 4096) work
          go true = refl
          go false = refl

-- ---- by whether the rows fit
module _ (a b : ℕ) (good : good_range a b ≡ true) (rows₀ rows : List ℕ) where
  pub not_fit : LaidIs (census a b) rows₀ rows None
      → (answer a b (length rows₀) 4096 ≡ record { code = ROWS; rows = 0; additions = 0 })
      × (rows ≡ leaves a b rows₀ 4096)
  unfolding answer answered leaves census_code
  not_fit L = let more = lt-ltb _ _ L.0 in (rw (good, more) refl, L.1 ∙ rw (good, more) refl)

  pub fits_all : (count : ℕ) → LaidIs (census a b) rows₀ rows (Some count)
      → (answer a b (length rows₀) 4096
      ≡ record { code = DONE; rows = count; additions = all_additions (from_to a b) })
      × (rows ≡ leaves a b rows₀ 4096)
  unfolding answer answered leaves census_code
  fits_all count L =
      let enough = le-ltb _ _ L.0 in
      let third : length (census a b) / 3 ≡ count = omega (arith, L.1) in
      (rw (good, enough, third) refl, L.2 ∙ rw (good, enough) refl)
