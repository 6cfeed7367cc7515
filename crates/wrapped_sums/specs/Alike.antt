-- A list of 64-bit numbers that is modulo 2^64 a series of numbers in range is that series' first coefficients.
use Rattle.std.specs.Prelude.{◌≡◌, ℕ, ◌<◌, ◌≤◌, List, length, ℤ, unsigned_abs, refl}
use Rattle.definitions.specs.Series.{Series, firsts}
use Rattle.definitions.specs.Steps.{entries, largest}
use Rattle.step_laws.specs.Firsts.{is_firsts}
use Rattle.wrapped_sums.specs.Wrapped.{Like, AllFit}
use Rattle.wrapped_sums.specs.Residues.{like_equal}

-- 64-bit numbers that are modulo 2^64 those of f, none of which is larger than the largest, are f's
pub like_exact : (l : List ℤ) (f : Series) → AllFit l → Like (length l) (entries l) f
    → ((i : ℕ) → i < length l → unsigned_abs (f i) ≤ largest) → l ≡ firsts (length l) f
unfolding entries
like_exact l f fit like small =
    is_firsts (length l) f l refl (λ i b. like_equal (fit i) (small i b) (like i b))
