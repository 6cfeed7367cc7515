-- What is promised of the values that the steps of an index make: by its number of odd primes, 0 to 5, none is larger
-- in magnitude, at any stop. `NotOver` proves it for every index up to 65,535, by its r and so by the largest;
-- docs/OVER.md has what runs met beside it.
use Rattle.std.specs.Prelude.{ℕ, ◌*◌, ◌-◌, ◌^◌, Bool, cond, List, [], ◌∷◌, get_or}

-- of F: 1, 1, 2 p, 8 r, 128 p r^3, and what the checker found; of I: 1, 2, 4, 16 p r, 256 r^3, and what it found; p at
-- most 255, 40 and 15 for two, three and four primes
unfoldable pub promised_of : Bool → ℕ → List ℕ
promised_of first r =
    cond first (1 ∷ 1 ∷ (2 * 255) ∷ (8 * r) ∷ (128 * 15 * r ^ 3) ∷ (2 ^ 52 - 1) ∷ [])
    (1 ∷ 2 ∷ 4 ∷ (16 * 40 * r) ∷ (256 * r ^ 3) ∷ (2 ^ 55 - 1) ∷ [])

unfoldable pub promised_at : Bool → ℕ → ℕ → ℕ
promised_at first primes r = get_or (promised_of first r) primes 0

-- whatever r is
unfoldable pub promised : Bool → ℕ → ℕ
promised first primes = promised_at first primes 65535
