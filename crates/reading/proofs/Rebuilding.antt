-- The whole polynomial from its first half, in the buffer: what the store of the half and then the mirror leave.
use Prim.Native.Nat.{ℕ, ◌+◌, ◌-◌, ◌/◌, ◌≤◌, ◌<◌}
use mathlib.Core.Path.{◌≡◌, sym, ap, ap₂, ◌∙◌}
use mathlib.Core.Bool.{Bool}
use mathlib.Core.List.{List, ◌++◌}
use native.Mathlib.Omega.{arith}
use lib.ListN.{length, get_or, take, drop, length-append, length-drop, get_or-append}
use lib.Seq.{get_or-take, drop-append-add, drop-drop, length-take-le}
use lib.IntN.{ℤ, nat_abs}
use Rattle.definitions.specs.Integers.{0ℤ}
use Rattle.definitions.specs.Series.{firsts}
use Rattle.definitions.specs.Steps.{entries, largest}
use Rattle.definitions.specs.Answer.{height_of}
use Rattle.definitions.specs.Halves.{half_of, mirrored_up, rebuilt}
use Rattle.step_laws.specs.Firsts.{firsts_same}
use Rattle.even_halves.specs.Halves.{entry_within, mirror_same}

-- a buffer l: a half in front of what cs has after it; count of its entries are mirrored
module _ (count : ℕ) (half cs l : List ℤ) (long : length half ≡ half_of count) (fits : count ≤ length cs)
    (e : l ≡ half ++ drop (length half) cs) where
  pub length_filled : length l ≡ length cs
  length_filled = ap length e ∙ rw (length-append, length-drop) (omega (arith, long))

  pub length_part : length (take count l) ≡ count
  length_part = length-take-le count l (omega (arith, length_filled))

  same_entry : (j : ℕ) → j < half_of count → entries (take count l) j ≡ entries half j
  unfolding entries
  same_entry j h =
      get_or-take count l j 0ℤ (omega arith) ∙ ap (λ (m : List ℤ). get_or m j 0ℤ) e
      ∙ get_or-append half (drop (length half) cs) 0ℤ j (omega (arith, long))

  pub part_inside : height_of half ≤ largest → (i : ℕ) → i < (length (take count l) + 1) / 2
      → nat_abs (entries (take count l) i) ≤ largest
  part_inside low i h =
      let b : i < half_of count = rw length_part at h in
      rw (same_entry i b) (omega (arith, entry_within half i (omega (arith, long))))

  rest_same : drop count l ≡ drop count cs
  rest_same =
      let k = count - length half in
      let sum : length half + k ≡ count = omega (arith, long) in
      ap (drop count) e ∙ ap (λ (m : ℕ). drop m (half ++ drop (length half) cs)) (sym sum)
      ∙ drop-append-add half (drop (length half) cs) k ∙ drop-drop k (length half) cs
      ∙ ap (λ (m : ℕ). drop m cs) sum

  pub whole-made : (negate : Bool) (part : List ℤ)
      → part ≡ firsts (length (take count l)) (mirrored_up negate (length (take count l)) (entries (take count l)))
      → part ++ drop count l ≡ rebuilt negate count half ++ drop count cs
  unfolding rebuilt
  whole-made negate part m =
      let f = mirrored_up negate count (entries (take count l)) in
      let g = mirrored_up negate count (entries half) in
      let upper : part ≡ firsts count g = (rw length_part at m)
      ∙ firsts_same count f g (mirror_same negate count (entries (take count l)) (entries half) same_entry) in
      ap₂ ◌++◌ upper rest_same
