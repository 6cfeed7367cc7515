-- What is printed first, also where there is no input.
use Rattle.std.specs.Prelude.{ℕ, List, [], ◌∷◌}
use Rattle.text.specs.Text.{NEWLINE}

-- `polynomials` and a newline
unfoldable pub heading : List ℕ
heading =
    112 ∷ 111 ∷ 108 ∷ 121 ∷ 110 ∷ 111 ∷ 109 ∷ 105 ∷ 97 ∷ 108 ∷ 115 ∷ NEWLINE ∷ []
