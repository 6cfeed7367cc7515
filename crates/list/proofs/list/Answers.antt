-- `list::list` is safe and ends, and what it hands over first is the whole heading (`put_first`).
use Rattle.std.proofs.Common.{◌≤◌, length, refl, arith, le-ltb}
use Rattle.listing.specs.Stream.{after}
use Rattle.text.proofs.Putting.{put_first}
use Rattle.list.specs.Handed.{handed}
use Rattle.list.proofs.list.Goals as goal

pub write_made-requires-clause-text_value : goal.write_made-requires-clause-text_value
unfolding handed
write_made-requires-clause-text_value c =
    let h = c.heading-n.ensures in
    let large = c.room-out in
    let room : 12 ≤ length large.result = omega (arith, large.ensures) in
    put_first (rw (le-ltb _ 12 room) at h.puts) h.upper_bound

pub write_made-requires-clause-next_value : goal.write_made-requires-clause-next_value
unfolding after
write_made-requires-clause-next_value c = refl
