-- Numbers modulo 2^64, as the 64-bit numbers from -2^63 on.
use Rattle.std.specs.Prelude.{◌≡◌, ℕ, suc, ◌-◌, ◌%◌, ◌^◌, ◌<◌, List, ℤ, pos, negsuc, FitsSigned}
use Rattle.std.specs.Int.{w64}
use Rattle.std.proofs.Common.{to_z}
use Rattle.definitions.specs.Series.{Series}
use Rattle.definitions.specs.Steps.{entries}

-- v modulo 2^64, and the 64-bit number that is so much modulo 2^64
unfoldable pub residue : ℤ → ℕ
residue (pos n) = n % 2 ^ 64
residue (negsuc n) = 2 ^ 64 - suc (n % 2 ^ 64)

unfoldable pub wrap : ℤ → ℤ
wrap v = to_z w64 (residue v)

-- equal modulo 2^64 below n
abbrev pub Like : ℕ → Series → Series → Type 0
Like n f g = (i : ℕ) → i < n → wrap (f i) ≡ wrap (g i)

-- every entry is a 64-bit number
abbrev pub AllFit : List ℤ → Type 0
AllFit l = (i : ℕ) → FitsSigned w64 (entries l i)
