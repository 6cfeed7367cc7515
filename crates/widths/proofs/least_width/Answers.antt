-- `least_width`: the tests are those of `least_of`, in its order, with the tops computed.
use borrow.Author.Tests.{le-leb, lt-leb}
use Rattle.widths.specs.Numbers.{least_of, top}
use Rattle.widths.proofs.least_width.Goals as goal

pub returns-then-h-le127 : goal.returns-then-h-le127
unfolding least_of top
returns-then-h-le127 c = simp (le-leb _ _ c.if-h-le127.true)

pub returns-then-h-le32767 : goal.returns-then-h-le32767
unfolding least_of top
returns-then-h-le32767 c = simp (lt-leb _ _ c.if-h-le127.false, le-leb _ _ c.if-h-le32767.true)

pub returns-then-h-le2147483647 : goal.returns-then-h-le2147483647
unfolding least_of top
returns-then-h-le2147483647 c =
    simp (lt-leb _ _ c.if-h-le127.false, lt-leb _ _ c.if-h-le32767.false, le-leb _ _ c.if-h-le2147483647.true)

pub returns-then-h-le9223372036854775807 : goal.returns-then-h-le9223372036854775807
unfolding least_of top
returns-then-h-le9223372036854775807 c = simp (
  lt-leb _ _ c.if-h-le127.false,
  lt-leb _ _ c.if-h-le32767.false,
  lt-leb _ _ c.if-h-le2147483647.false,
  le-leb _ _ c.if-h-le9223372036854775807.true,
)

pub returns-else-h-le9223372036854775807 : goal.returns-else-h-le9223372036854775807
unfolding least_of top
returns-else-h-le9223372036854775807 c = simp (
  lt-leb _ _ c.if-h-le127.false,
  lt-leb _ _ c.if-h-le32767.false,
  lt-leb _ _ c.if-h-le2147483647.false,
  lt-leb _ _ c.if-h-le9223372036854775807.false,
)
