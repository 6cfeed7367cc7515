-- What no magnitude is known to pass, by the kind and the number of odd primes.
use Rattle.std.specs.Prelude.{ℕ, cond, eqb, leb}

unfoldable pub bound_for : ℕ → ℕ → ℕ
bound_for kind count = cond (eqb kind 1) (cond (leb count 2) 1 4611686018427387903) 4611686018427387903
