-- The mirror fills in a polynomial: its upper half is the lower, with the sign that `negates` tells; and what stands
-- before the part is as it was.
use Prim.Native.Nat.{ℕ, ◌+◌, ◌-◌, ◌/◌, ◌<◌, ◌≤◌}
use mathlib.Core.Path.{◌≡◌, sym, ◌∙◌, ap}
use mathlib.Core.Bool.{Bool, cond}
use mathlib.Core.List.{List}
use native.Mathlib.Omega.{arith}
use lib.ListN.{length, take, drop, get_or, length-drop}
use lib.Seq.{get_or-take, get_or-drop, length-take-le}
use lib.IntN.{ℤ, nat_abs}
use borrow.Rule.Slice.PartMut.{put_mid}
use Rattle.definitions.specs.Integers.{⊖, 0ℤ}
use Rattle.definitions.specs.Series.{firsts}
use Rattle.definitions.specs.Polynomials.{polynomial, degree}
use Rattle.definitions.specs.Steps.{entries, largest}
use Rattle.definitions.specs.KeptHalf.{half_degree}
use Rattle.step_laws.specs.Tests.{by_order}
use Rattle.step_laws.specs.Firsts.{length-firsts, firsts_here}
use Rattle.cyclotomic.specs.Degrees.{monic}
use Rattle.definitions.specs.Halves.{negates, mirrored_up}
use Rattle.cyclotomic.specs.Mirrors.{mirrored_any}
use Rattle.never_over.proofs.Heights.{coefficient_fits}
use Rattle.shapes.proofs.Shaping.{mirrored_low, mirrored_high}
use Rattle.shapes.proofs.Stretches.{put_before, put_in}
use Rattle.second_engine.specs.Halves.{Half, HalfFrom, Filled}

half-number : (kind m : ℕ) → (degree kind m + 1 + 1) / 2 ≡ half_degree kind m + 1
unfolding half_degree
half-number kind m = omega arith

module _ (kind m : ℕ) (pos : 0 < m) (small : m ≤ 65535) (q : List ℤ) (len : length q ≡ degree kind m + 1)
    (half : Half kind m q) where
  pub half_inside : (i : ℕ) → i < (length q + 1) / 2 → nat_abs (entries q i) ≤ largest
  half_inside i b =
      rw (half i (omega (arith, half-number kind m, len))) (coefficient_fits m pos small kind i)

  pub mirror_fills : {negate : Bool} {y : List ℤ} → negate ≡ negates kind m
      → y ≡ firsts (length q) (mirrored_up negate (length q) (entries q))
      → (length y ≡ degree kind m + 1) × ((i : ℕ) → i < degree kind m + 1 → entries y i ≡ polynomial kind m i)
  mirror_fills {negate} {y} n e = (
    ap length e ∙ length-firsts (length q) _ ∙ len,
    λ i b.
        ap (λ l. entries l i) e
        ∙ firsts_here (length q) (mirrored_up negate (length q) (entries q)) i (omega (arith, len))
        ∙ by_order i ((length q + 1) / 2)
        (λ low. mirrored_low negate (length q) (entries q) i low ∙ half i (omega (arith, half-number kind m, len)))
        (λ high.
        let back : length q - 1 - i ≡ degree kind m - i = omega (arith, len) in
        let at : degree kind m - (degree kind m - i) ≡ i = omega arith in
        mirrored_high negate (length q) (entries q) i high
        ∙ ap (λ k. cond negate (⊖ (entries q k)) (entries q k)) back
        ∙ ap (λ v. cond negate (⊖ v) v) (half (degree kind m - i) (omega (arith, half-number kind m, len)))
        ∙ ap (λ c. cond c (⊖ (polynomial kind m (degree kind m - i))) (polynomial kind m (degree kind m - i))) n
        ∙ sym (mirrored_any kind m pos (degree kind m - i) (omega arith))
        ∙ ap (polynomial kind m) at),
  )

-- a part of a slice
module _ (kind m from to : ℕ) (l : List ℤ) (pos : 0 < m) (small : m ≤ 65535) (size : to ≡ from + (degree kind m + 1))
    (room : to ≤ length l) (half : HalfFrom from kind m l) where
  abbrev part : List ℤ
  part = take (to - from) (drop from l)

  pub part_length : length part ≡ degree kind m + 1
  part_length = length-take-le (to - from) (drop from l) (omega (arith, length-drop from l)) ∙ omega arith

  part-half : Half kind m part
  unfolding entries
  part-half i b =
      get_or-take (to - from) (drop from l) i 0ℤ (omega (arith, half-number kind m)) ∙ get_or-drop from l i 0ℤ ∙ half i b

  pub part_inside : (i : ℕ) → i < (length part + 1) / 2 → nat_abs (entries part i) ≤ largest
  part_inside = half_inside kind m pos small part part_length part-half

  pub filled : {negate : Bool} {y : List ℤ} → negate ≡ negates kind m
      → y ≡ firsts (length part) (mirrored_up negate (length part) (entries part))
      → Filled from to kind m l (put_mid from (to - from) l y)
  unfolding entries
  filled {negate} {y} n e =
      let (len, there) = mirror_fills kind m pos small part part_length part-half n e in
      let whole : length y ≡ to - from = omega (arith, len) in
      record {
        whole =
            record {
              inside = λ i b. put_in from to l y (omega arith) room whole (from + i) (omega arith) (omega arith)
                  ∙ ap (λ k. get_or y k 0ℤ) (omega arith) ∙ there i (omega arith);
              past = λ i b. (monic kind m pos).above i (omega arith);
            };
        before = λ i b. put_before from to l y (omega arith) room whole i b;
      }
