-- What is handed to a write once some bytes of input are taken: before the first one the heading, and then all that
-- they print.
use Rattle.std.specs.Prelude.{ℕ, List, [], ◌∷◌}
use Rattle.line_so_far.specs.Heading.{heading}
use Rattle.line_so_far.specs.declared.Line.{Line}
use Rattle.listing.specs.Stream.{printed}

unfoldable pub handed : Line → List ℕ → List ℕ
handed line [] = heading
handed line (b ∷ bs) = printed line (b ∷ bs)
