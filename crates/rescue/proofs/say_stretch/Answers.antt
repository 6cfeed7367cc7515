-- `rescue::say_stretch` is safe and ends, and what it hands over is the stretch's line, all of it (`put_first`).
use Rattle.std.proofs.Common.{arith}
use Rattle.text.proofs.Putting.{put_first}
use Rattle.rescue.proofs.say_stretch.Goals as goal

pub write_line-requires-clause-text_value : goal.write_line-requires-clause-text_value
write_line-requires-clause-text_value c =
    let put = c.put_stretch-n.ensures in
    put_first put.puts (omega (arith, put.upper_bound))
