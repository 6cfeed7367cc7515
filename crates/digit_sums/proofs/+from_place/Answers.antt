-- The cycle of calls {from_place}: the measure is the number of places that are left.
use mathlib.Core.Path.{◌≡◌, refl, sym, ◌∙◌, ap}
use mathlib.Core.List.{List}
use native.Mathlib.Omega.{arith}
use lib.IntN.{ℤ, pos}
use lib.Signed.{shr_z}
use Rattle.definitions.specs.Integers.{◌⊕◌}
use Rattle.definitions.specs.Steps.{entries}
use Rattle.step_laws.specs.Machine.{seen, handed}
use Rattle.light_sums.specs.Parts.{base, rest, rest_below}
use Rattle.light_sums.specs.Told.{told}
use Rattle.digit_sums.specs.Digits.{place, number}
use Rattle.light_sums.proofs.Joins.{rest_fits}
use Rattle.digit_sums.proofs.Places.{Here, here_of, here_most, here_asks, here_seen, carry_seen}
use Rattle.digit_sums.proofs.Places.{last_place, place_out, place_is}
use Prim.Native.Nat.{ℕ, ◌+◌, ◌-◌, ◌<◌, ◌≤◌}
use Rattle.std.specs.Prelude.{Some}
use Rattle.digit_sums.proofs.+from_place.Goals as goal
use Rattle.digit_sums.proofs.+from_place.Goals.{After-from_place}

-- what stands at the places of a coefficient
abbrev at : List ℤ → List ℤ → ℕ → ℕ → ℤ
at f b i = place (entries f) (entries b) i

less : (k : ℕ) → k ≤ 4 → (k ≡ 4 → ⊥) → k < 4
less k h n = omega arith

pub plus-c-requires : goal.plus-c-requires
plus-c-requires t c =
    here_asks
    (here_of c.args.f.now c.args.b.now c.args.i c.args.k c.ranges.carry c.requires.3 c.place_sum.ensures)

pub returns-then-k-eq4 : goal.returns-then-k-eq4
returns-then-k-eq4 t c =
    let h = here_of c.args.f.now c.args.b.now c.args.i c.args.k c.ranges.carry c.requires.3 c.place_sum.ensures in
    ap Some (here_seen h c.plus-c.ensures)
    ∙ last_place (at c.args.f.now c.args.b.now c.args.i) c.args.k c.args.carry c.if-k-eq4.true (here_most h)

-- the sum at this place, and what is told of the next place on
module _ {t : ℕ} (c : After-from_place t) where
  h : Here (at c.args.f.now c.args.b.now c.args.i) c.args.k c.args.carry c.place_sum.result
  h = here_of c.args.f.now c.args.b.now c.args.i c.args.k c.ranges.carry c.requires.3 c.place_sum.ensures

  sum : seen c.plus-c.result ≡ c.args.carry ⊕ at c.args.f.now c.args.b.now c.args.i c.args.k
  sum = here_seen h c.plus-c.ensures

  upper : c.from_place.result
      ≡ told (shr_z (seen c.plus-c.result) base
      ⊕ number (at c.args.f.now c.args.b.now c.args.i) (5 - (c.args.k + 1)) (c.args.k + 1))
  upper =
      c.from_place.ensures
      ∙ ap (λ m. told (m ⊕ number (at c.args.f.now c.args.b.now c.args.i) (5 - (c.args.k + 1)) (c.args.k + 1)))
      (carry_seen (here_most h) sum c.above_digit.ensures ∙ ap (λ n. shr_z n base) (sym sum))

last : (n : ℤ) {r : ℤ} → r ≡ pos (rest base n) → seen r ≡ pos (rest base n)
last n e = handed (rest_fits base 2199023255552 refl (omega arith) n) e

pub returns-in_err-v : goal.returns-in_err-v
returns-in_err-v t c =
    let q = (goal.at.returns-in_err-v t c).After-from_place in
    c.from_residual.ensures
    ∙ place_out (at c.args.f.now c.args.b.now c.args.i) c.args.k c.args.carry
    (less c.args.k c.requires.2 c.if-k-eq4.false) (sum q) (sym (upper q) ∙ c.in_err-v.was)

pub joined-requires : goal.joined-requires
joined-requires t c = record {
  m = base;
  k = 2199023255552;
  is = refl;
  whole = refl;
  rest = record {
    size = rest base (seen c.plus-c.result);
    below = rest_below base (omega arith) (seen c.plus-c.result);
    is = last (seen c.plus-c.result) c.last_digit.ensures;
  };
}

pub returns : goal.returns
returns t c =
    let q = (goal.at.returns t c).After-from_place in
    c.joined.ensures
    ∙ place_is (at c.args.f.now c.args.b.now c.args.i) c.args.k c.args.carry
    (less c.args.k c.requires.2 c.if-k-eq4.false) (sum q) (sym (upper q) ∙ c.in_ok-v.was)
    (last (seen c.plus-c.result) c.last_digit.ensures)
