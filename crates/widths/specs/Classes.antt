-- What a coefficient says of the width w of its record: 0 where half as many bytes take its magnitude, 1 where w bytes
-- do, 3 where they don't. Each class has the bits of those below it, so that some classes, bit upon bit, are the class
-- of the largest magnitude.
use Rattle.std.specs.Prelude.{ℕ, ◌/◌, cond, leb}
use Rattle.widths.specs.Numbers.{top}

-- the largest height that half as many bytes take; 0 for a width of 1
unfoldable pub lesser : ℕ → ℕ
lesser w = top (w / 2)

unfoldable pub class : ℕ → ℕ → ℕ
class w m = cond (leb m (lesser w)) 0 (cond (leb m (top w)) 1 3)
