-- `text::put_signed` meets its contract: a space, the sign, the digits of the magnitude, after a minus sign or over it.
use native.Mathlib.Omega.{arith}
use mir.Facts.{to_z-of_z}
use Rattle.step_laws.specs.Machine.{seen}
use Rattle.step_laws.specs.Signed.{abs_mag}
use Rattle.text.proofs.Decimal.{some_digit}
use Rattle.text.proofs.Putting.{after-sign, put_one, length-spaced, length-sign}
use Rattle.text.proofs.put_signed.Goals as goal

pub put_number-requires : goal.put_number-requires
put_number-requires c =
    omega (
      arith,
      c.put_sign-q.ensures.value,
      length-sign (seen
          c.args.c),
      c.put-p.ensures.place,
    )

pub returns : goal.returns
returns c = let x = c.args.c in
    let f = c.ranges.c in
    let digits =
    rw (c.magnitude.ensures, to_z-of_z f) at c.put_number.ensures.puts in
    let sign = rw (to_z-of_z f) at c.put_sign-q.ensures in
    let whole = put_one x
    c.put-p.ensures
    (after-sign x (some_digit _) sign.out_after sign.value digits) in record {
      puts = whole;
      upper_bound = omega (arith, whole.place, length-spaced x (omega (arith, abs_mag x, f.sfits)), length-sign x);
    }
