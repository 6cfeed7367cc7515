-- `unlike`: the numbers of both entries, as they would stand in 8 bytes (Images).
use Rattle.std.proofs.Common.{◌≡◌, ℕ, ◌^◌, ◌<◌, ◌≤◌, length, get_or, nat_abs, refl, ap, ◌∙◌, arith}
use lib.Signed.{mag}
use Rattle.definitions.specs.Integers.{0ℤ}
use Rattle.definitions.specs.Steps.{entries}
use Rattle.heights.proofs.Signs.{passed}
use Rattle.step_laws.specs.Machine.{seen}
use Rattle.even_halves.specs.Halves.{entry_within}
use Rattle.widths.specs.Numbers.{top, twos, signed_of, one_of}
use Rattle.widths.proofs.Digits.{signed-twos, twos_less}
use Rattle.half_passes.proofs.Images.{unlike_is}
use Rattle.half_passes.proofs.unlike.Goals as goal
use Rattle.half_passes.proofs.unlike.Goals.{Start}

-- an entry that was read, and its number
module _ (start : Start) (k : ℕ) (l : k < length start.args.coeffs.now)
    (fits : mag (get_or start.args.coeffs.now k 0ℤ) < 2 ^ 63) where
  read : seen (get_or start.args.coeffs.now k 0ℤ) ≡ entries start.args.coeffs.now k
  unfolding entries
  read = passed (get_or start.args.coeffs.now k 0ℤ) fits

  small : nat_abs (entries start.args.coeffs.now k) ≤ top 8
  unfolding top
  small = omega (arith, entry_within start.args.coeffs.now k l, start.requires.0)

  read_small : nat_abs (seen (get_or start.args.coeffs.now k 0ℤ)) ≤ top 8
  read_small = rw read small

  stands : {v : ℕ} → v ≡ twos 8 (seen (get_or start.args.coeffs.now k 0ℤ))
      → (signed_of 8 v ≡ entries start.args.coeffs.now k) × (v < 2 ^ 64)
  stands e =
      let x = entries start.args.coeffs.now k in
      let e' = e ∙ ap (twos 8) read in
      (ap (signed_of 8) e' ∙ signed-twos 8 x (omega arith) small, rw e' (twos_less 8 x (omega arith) small))

pub twos_of-other-requires : goal.twos_of-other-requires
twos_of-other-requires c =
    (omega arith, omega arith, read_small (goal.at.twos_of-other-requires c).Start _ (omega arith) c.twos_of-arg-1.given)

pub twos_of-requires : goal.twos_of-requires
twos_of-requires c =
    let start = (goal.at.twos_of-requires c).Start in
    (omega arith, omega arith, read_small start start.args.i start.requires.1 c.twos_of-arg-2-1.given)

pub image_of-requires : goal.image_of-requires
unfolding one_of
image_of-requires c =
    let start = (goal.at.image_of-requires c).Start in
    (refl, (stands start start.args.i start.requires.1 c.twos_of-arg-2-1.given c.twos_of.ensures).1)

pub returns : goal.returns
returns c =
    let start = (goal.at.returns c).Start in
    let a = start.args in
    let here = stands start a.i start.requires.1 c.twos_of-arg-2-1.given
    c.twos_of.ensures in
    let other = stands start _ (omega arith) c.twos_of-arg-1.given
    c.twos_of-other.ensures in
    unlike_is a.negate a.coeffs.now 8 a.i _ _ _ (omega arith) start.requires.1 (unfold top in start.requires.0)
    here.0 c.image_of.ensures other
