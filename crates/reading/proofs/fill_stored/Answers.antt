-- `fill_stored`: the store of what a record that reads has (Reading).
use native.Mathlib.Omega.{arith}
use lib.ListN.{length}
use Rattle.record.specs.Header.{count_in}
use Rattle.record.proofs.Headers.{right}
use Rattle.forms.proofs.Done.{Read_right, read_right}
use Rattle.forms.proofs.Reading.{stored-le, size_in_lem, filled_in}
use Rattle.reading.proofs.fill_stored.Goals as goal
use Rattle.reading.proofs.fill_stored.Goals.{Start}

good : (s : Start) → Read_right s.args.form s.args.bytes.now (length s.args.coeffs.now)
good s = read_right _ _ _ s.requires

pub width_in-requires : goal.width_in-requires
width_in-requires c = (right _ _ (good (goal.at.width_in-requires c).Start).header).long

pub stored_in-requires : goal.stored_in-requires
stored_in-requires c = (_, (good (goal.at.stored_in-requires c).Start).header)

pub fill-requires : goal.fill-requires
fill-requires c =
    let stored = c in
    let start = (goal.at.fill-requires c).Start in
    let wide = stored.width_in.ensures in
    let g = good start in
    let k = stored.stored_in.ensures.0 in (
      rw wide (right _ _ g.header).wide,
      omega (arith, size_in_lem start.args.form start.args.bytes.now _ _ wide k, g.long),
      omega (arith, g.fits, k, stored-le start.args.form (count_in start.args.bytes.now)),
    )

pub returns : goal.returns
returns c =
    let stored = c in
    let start = (goal.at.returns c).Start in
    let k = stored.stored_in.ensures.0 in
    filled_in _ _ _ _ stored.width_in.ensures k start.args.coeffs.now _
    (omega (arith, (good start).fits, k, stored-le start.args.form (count_in start.args.bytes.now)))
    c.fill.ensures
