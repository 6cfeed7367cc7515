-- `bv_cascade` meets its contract, the request's; the limit that was passed is read back as it is.
use mir.Facts.{to_z-of_z}
use Rattle.bonvedrick.proofs.bv_cascade.Goals as goal

pub returns : goal.returns
returns c =
    let h = to_z-of_z c.ranges.h in
    record {
      answer = rw h at c.cascade.ensures.value;
      leaves = rw h at c.cascade.ensures.buf_after;
      scratches = rw h at c.cascade.ensures.scratch_after;
    }
