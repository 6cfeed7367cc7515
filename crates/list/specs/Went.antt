-- How far the listing went, over bytes whose first one finds `line` open.
use Rattle.std.specs.Prelude.{◌≡◌, ◌≢◌, ℕ, ◌<◌, ◌≤◌, List, [], ◌∷◌, length, take, Result, Ok, Err}
use Rattle.std.specs.declared.ops.ControlFlow.{ControlFlow}
use Rattle.std.specs.declared.ops.ControlFlow.TheVariants.{Continue, Break}
use Rattle.line_so_far.specs.declared.Line.{Line}
use Rattle.listing.specs.Stream.{NEWLINE, after}
use Rattle.list.specs.declared.Failed.{Failed}
use Rattle.list.specs.declared.Failed.TheVariants.{Reading, Writing}
use Rattle.list.specs.declared.Going.{Going}

-- some first bytes of a piece were taken, and `next` is the line that is open after them
pub record Reached (line : Line) (piece : List ℕ) (taken : ℕ) (next : Line) : Type 0 where
  pub some : 0 < taken
  pub within : taken ≤ length piece
  pub left : next ≡ after line (take taken piece)

-- a write failed after some of a piece
abbrev pub Unwritten : Line → List ℕ → Failed → Type 0
Unwritten line piece (Writing next) = (taken : ℕ) × Reached line piece taken next
Unwritten line piece (Reading next) = ⊥

-- over some of a piece: the line that is open is the one after the bytes that were taken
abbrev pub Took : Line → List ℕ → Result Going Failed → Type 0
Took line piece (Ok going) = Reached line piece going.taken going.line
Took line piece (Err failed) = Unwritten line piece failed

-- over all of a piece
abbrev pub TookAll : Line → List ℕ → Result Line Failed → Type 0
TookAll line piece (Ok next) = next ≡ after line piece
TookAll line piece (Err failed) = Unwritten line piece failed

-- where the input ended: if the line isn't empty, over the newline that is supplied
abbrev pub Ended : Line → Result Line Failed → Type 0
Ended line r = line.length ≢ 0 → TookAll line (NEWLINE ∷ []) r

-- over what a read gave: all of it, and where it gave nothing, the end; no further where it failed
abbrev pub Listed : {E : Type 0} → Line → Result ℕ E → List ℕ → Result (ControlFlow Line Line) Failed → Type 0
Listed line (Ok n) chunk (Ok (Continue next)) = (n ≢ 0) × TookAll line (take n chunk) (Ok next)
Listed line (Ok n) chunk (Ok (Break last)) = (n ≡ 0) × Ended line (Ok last)
Listed line (Ok n) chunk (Err failed) =
    (n ≢ 0 → TookAll line (take n chunk) (Err failed)) × (n ≡ 0 → Ended line (Err failed))
Listed line (Err e) chunk r = r ≡ Err (Reading line)
