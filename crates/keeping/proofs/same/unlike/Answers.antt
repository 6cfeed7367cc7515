-- `unlike`: two numbers as they stand in W bytes differ where what they stand for does (half_passes, Images).
use Rattle.std.proofs.Common.{◌≡◌, ℕ, ◌<◌, ◌≤◌, ◌^◌, ◌∙◌, ap, get_or, List, length, ℤ, nat_abs, arith}
use lib.Signed.{mag}
use Rattle.definitions.specs.Integers.{0ℤ}
use Rattle.definitions.specs.Answer.{height_of}
use Rattle.definitions.specs.Steps.{entries}
use Rattle.heights.proofs.Signs.{passed}
use Rattle.step_laws.specs.Machine.{seen}
use Rattle.even_halves.specs.Halves.{entry_within}
use Rattle.widths.specs.Numbers.{top, twos}
use Rattle.widths.proofs.Least.{width_bounds}
use Rattle.half_passes.proofs.Images.{numbers_differ}
use Rattle.keeping.proofs.same.unlike.Goals as goal

-- the entry that was read
read : (coeffs : List ℤ) (i : ℕ) → mag (get_or coeffs i 0ℤ) < 2 ^ 63 → seen (get_or coeffs i 0ℤ) ≡ entries coeffs i
unfolding entries
read coeffs i fits = passed (get_or coeffs i 0ℤ) fits

within : (coeffs : List ℤ) (i w : ℕ) → i < length coeffs → height_of coeffs ≤ top w → nat_abs (entries coeffs i) ≤ top w
within coeffs i w l h = omega (arith, entry_within coeffs i l, h)

pub standing-requires : goal.standing-requires
standing-requires g c =
    let small : mag (get_or c.args.coeffs.now c.args.i 0ℤ) < 2 ^ 63 = omega arith in
    (c.requires.0, rw (read c.args.coeffs.now c.args.i small) (within _ _ g.row.W c.requires.3 c.requires.2))

pub returns : goal.returns
returns g c =
    let small : mag (get_or c.args.coeffs.now c.args.i 0ℤ) < 2 ^ 63 = omega arith in
    numbers_differ g.row.W _ _ (entries c.args.coeffs.now c.args.i) _ (width_bounds g.row.W c.requires.0).0
    (within _ _ g.row.W c.requires.3 c.requires.2)
    (c.standing.ensures ∙ ap (twos g.row.W) (read c.args.coeffs.now c.args.i small))
    c.number_of.ensures.1 c.number_of.ensures.0
