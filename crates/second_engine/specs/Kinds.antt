-- What the code's `Kind` means: the number of the kind (docs/RULES.md, 'The polynomials').
use Rattle.std.specs.Prelude.{ℕ}
use Rattle.second_engine.specs.declared.kind.Kind as declared
use Rattle.second_engine.specs.declared.kind.Kind.TheVariants.{First, Inverse}

abbrev pub kind_means : declared.Kind → ℕ
kind_means First = 1
kind_means Inverse = 2
