-- The lower half for r tells the height of the polynomial, and its peak t times as far up (`top_is`).
use Prim.Native.Nat.{ℕ, ◌+◌, ◌*◌, ◌<◌, ◌≤◌}
use mathlib.Core.Path.{◌≡◌, sym, ◌∙◌, ap, ap₂}
use mathlib.Core.List.{List}
use native.Mathlib.Omega.{arith}
use lib.ListN.{length, take}
use lib.Seq.{length-take-le, get_or-take}
use lib.IntN.{ℤ}
use Rattle.definitions.specs.Integers.{0ℤ}
use Rattle.definitions.specs.Series.{firsts}
use Rattle.definitions.specs.Numbers.{r_of}
use Rattle.definitions.specs.Polynomials.{polynomial}
use Rattle.definitions.specs.KeptHalf.{half_degree}
use Rattle.definitions.specs.Steps.{entries}
use Rattle.definitions.specs.Answer.{height_of, height, peak_of, peak}
use Rattle.step_laws.specs.Firsts.{is_firsts}
use Rattle.cyclotomic.specs.Heights.{told-half, peak_inside}
use Rattle.squarefree_from_half.specs.Growth.{Lower}
use Rattle.squarefree_from_half.proofs.Growing.{half_within}
use Rattle.whole_from_half.specs.Ready.{Ready}
use Rattle.whole_from_half.proofs.Laying.{above_zero, t_is, r_fits}
use Rattle.index.specs.declared.Parts.{Parts}
use Rattle.heights.specs.declared.Top.{Top}

-- what `peak_within` tells
abbrev pub top_of : List ℤ → Top
top_of cs = record { height = height_of cs; place = peak_of cs }

module _ (kind n : ℕ) (a : Parts) (l : List ℤ) (R : Ready kind n a l) where
  pub peak-room : peak kind n < length l
  peak-room = omega (arith, peak_inside kind n (above_zero kind n a l R), R.room)

  module _ (d : ℕ) (ed : d ≡ half_degree kind (r_of n)) where
    pub half_room : d + 1 ≤ length l
    half_room = omega (arith, half_within kind (r_of n), r_fits kind n a l R)

    pub part_length : length (take (d + 1) l) ≡ d + 1
    part_length = length-take-le (d + 1) l half_room

    module _ (L : Lower kind (r_of n) l) where
      lower_is : take (d + 1) l ≡ firsts (half_degree kind (r_of n) + 1) (polynomial kind (r_of n))
      unfolding entries
      lower_is =
          is_firsts (half_degree kind (r_of n) + 1) (polynomial kind (r_of n)) (take (d + 1) l)
          (part_length ∙ ap (λ k. k + 1) ed)
          (λ i b. get_or-take (d + 1) l i 0ℤ (omega arith) ∙ L.half i b)

      pub top_is : (x : Top) → x ≡ top_of (take (d + 1) l)
          → (x.height ≡ height kind n) × (x.place * a.t ≡ peak kind n)
      top_is x e =
          let is = e ∙ ap top_of lower_is in
          let half = told-half kind n (above_zero kind n a l R) L.above in (
            ap (λ y. y.height) is ∙ sym half.0,
            ap₂ (λ y t. y.place * t) is (t_is kind n a l R) ∙ sym half.1,
          )
