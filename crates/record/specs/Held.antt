-- The number in the w bytes from a place on, as the code takes it: it is below 2^(8w).
use Rattle.std.specs.Prelude.{ℕ, ◌*◌, ◌<◌, ◌^◌, ◌≡◌, List, take, drop}
use Rattle.widths.specs.Numbers.{number}

abbrev pub number_at : ℕ → ℕ → List ℕ → ℕ
number_at w at bytes = number (take w (drop at bytes))

abbrev pub Held : ℕ → ℕ → List ℕ → ℕ → Type 0
Held w at bytes r = (r ≡ number_at w at bytes) × (r < 2 ^ (8 * w))
