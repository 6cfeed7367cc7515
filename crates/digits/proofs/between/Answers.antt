-- `digits::between` meets its contract, by what `contains` tells of a range.
use Rattle.std.proofs.Common.{◌≡◌, ℕ, arith}
use Rattle.std.proofs.lemmas.Bool.Decides.{nat_tests}
use Rattle.std.proofs.Math.Dec.{leb}
use Rattle.std.specs.Ordering.{nat_cmp, is_le}
use Rattle.digits.specs.Digits.{between}
use Rattle.digits.proofs.between.Goals as goal

ordered : (x y : ℕ) → is_le (nat_cmp x y) ≡ leb x y
ordered x y = grind (arith, nat_tests)

pub returns : goal.returns
unfolding between
returns c =
    let a = c.args in
    let made = c.new.ensures in
    rw (made.exhausted, made.start, made.end, ordered a.low a.x, ordered a.x a.high) at c.contains.ensures.value
