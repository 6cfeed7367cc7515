-- What a run over a piece of input has done: how much it took, the line it left open, and what it put at the start of
-- the buffer.
use Rattle.std.specs.Prelude.{ℕ, ◌≤◌, ◌≡◌, List, length, take}
use Rattle.text.specs.Puts.{Puts}
use Rattle.listing.specs.Stream.{after, printed, taken}
use Rattle.line_so_far.specs.declared.Line.{Line}
use Rattle.listing.specs.declared.Progress.{Progress}

pub record Ran (line : Line) (piece l m : List ℕ) (r : Progress) : Type 0 where
  pub took : r.taken ≡ taken (length l) line piece
  pub left : r.line ≡ after line (take r.taken piece)
  pub puts : Puts (printed line (take r.taken piece)) 0 l m r.made
  pub within : r.taken ≤ length piece
  pub fits : r.made ≤ length l
