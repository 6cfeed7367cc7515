-- How many chains a group can have, by how it is tested: as many as there is a loop for.
use Rattle.std.specs.Prelude.{ℕ, ◌<◌, ◌≤◌, ◌≡◌}
use Rattle.entry_steps.specs.Asked.{Way, known, narrow, wide}

abbrev pub WidthOf : Way → ℕ → Type 0
WidthOf known g = (g ≤ 16) × (g < 16 → g ≤ 8)
WidthOf narrow g = g ≤ 6
WidthOf wide g = g ≡ 1
