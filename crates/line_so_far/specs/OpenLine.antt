-- The line that is being read. Of it at most 40 bytes are kept, for a longer line is not good; its length stops at 41.
use Rattle.std.specs.Prelude.{ℕ, ◌+◌, ◌%◌, ◌^◌, cond, replicate, nat_lt, slice_set}
use Rattle.line_so_far.specs.declared.Line.{Line}

abbrev pub KEPT : ℕ
KEPT = 40

-- before the first byte
unfoldable pub start_line : Line
start_line = record { bytes = replicate KEPT 0; length = 0; number = 1 }

-- one byte more, that is no newline
unfoldable pub pushed : Line → ℕ → Line
pushed s b =
    cond (nat_lt s.length KEPT)
    (record { bytes = slice_set s.bytes s.length b; length = s.length + 1; number = s.number })
    (record { bytes = s.bytes; length = KEPT + 1; number = s.number })

-- after a newline: an empty line. The number is one of 64 bits
unfoldable pub next_line : Line → Line
next_line s = record { bytes = s.bytes; length = 0; number = (s.number + 1) % 2 ^ 64 }
