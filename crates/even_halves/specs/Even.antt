-- Every F(n) and every I(n) has halves that match by the rule of its kind and index: so a polynomial that is delivered
-- is never UNEVEN.
use Rattle.std.specs.Prelude.{ℕ, suc, ◌-◌, ◌<◌, ◌≤◌, ◌≡◌, false, length}
use Rattle.std.proofs.Common.{arith}
use Rattle.definitions.specs.Polynomials.{polynomial, degree}
use Rattle.definitions.specs.Answer.{coefficients}
use Rattle.definitions.specs.Halves.{negates, uneven}
use Rattle.definitions.specs.Steps.{entries}
use Rattle.step_laws.specs.Firsts.{length-firsts, firsts_here}
use Rattle.cyclotomic.specs.Mirrors.{mirrored_any}
use Rattle.even_halves.specs.Halves.{Matches, even_all}

pub never_uneven : (kind n : ℕ) → 0 < n → uneven (negates kind n) (coefficients kind n) ≡ false
never_uneven kind n pos = even_all (negates kind n) (coefficients kind n) (λ i h. at i (omega (arith, long)))
  where
    long : length (coefficients kind n) ≡ suc (degree kind n)
    long = unfold coefficients in length-firsts (suc (degree kind n)) (polynomial kind n)

    entry : (i : ℕ) → i ≤ degree kind n → entries (coefficients kind n) i ≡ polynomial kind n i
    entry i l = unfold coefficients in firsts_here (suc (degree kind n)) (polynomial kind n) i (omega arith)

    at : (i : ℕ) → i ≤ degree kind n → Matches (negates kind n) (coefficients kind n) i
    at i l =
        let last : length (coefficients kind n) - 1 - i ≡ degree kind n - i = omega (arith, long) in
        rw (last, entry (degree kind n - i) (omega arith), entry i l) (mirrored_any kind n pos i l)
