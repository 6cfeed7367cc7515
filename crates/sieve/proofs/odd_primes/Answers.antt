-- `odd_primes` meets its contract. The invariant: the odd primes of n below p are found, and those above are the primes
-- of what is left. Where p p is more than that, it is 1 or the last prime (`Last`).
use Prim.Native.Nat.{ℕ, suc, ◌+◌, ◌-◌, ◌≤◌}
use mathlib.Core.Path.{◌≡◌, refl, ◌∙◌}
use native.Mathlib.Nat.{le_of_dvd, le_trans, le-mul_of_pos_right, mul-le-mul}
use native.Mathlib.Omega.{arith}
use Rattle.numbers.specs.Primes.{prime_two}
use Rattle.sieve.proofs.Sifting.{Last, last_of, sifted-start, passed-even}
use Rattle.sieve.proofs.odd_primes.Goals as goal
use Rattle.sieve.proofs.odd_primes.Goals.{After-odd-1, In-loop-p}

pub without-requires : goal.without-requires
without-requires c = (c.requires.0, prime_two)

pub loop-p-init : goal.loop-p-init
loop-p-init c =
    (omega arith, omega arith, sifted-start _ _ c.requires.0 c.requires.1 c.without.ensures, refl)

pub overflow_mul-p : goal.overflow_mul-p
overflow_mul-p c = omega (arith, mul-le-mul c.loop-p.invariant.1 c.loop-p.invariant.1)

-- in a turn p is small
small : (c : In-loop-p) → c.loop-p.p ≤ 65535
small c =
    le_trans (le-mul_of_pos_right c.loop-p.p (omega (arith, c.loop-p.invariant.0)))
    (le_trans c.loop-p-test.true
    (le_trans (le_of_dvd c.requires.0 c.loop-p.invariant.2.part)
    c.requires.1))

pub sift-s-requires : goal.sift-s-requires
sift-s-requires c = (
  c.requires.0,
  c.requires.1,
  c.loop-p.invariant.0,
  c.loop-p.invariant.2,
)

pub overflow_add-p : goal.overflow_add-p
overflow_add-p c = omega (arith, small c.before)

pub loop-p-smaller : goal.loop-p-smaller
loop-p-smaller c = omega (arith, small c.before)

pub loop-p-preserved : goal.loop-p-preserved
loop-p-preserved c =
    let p : ℕ = c.loop-p.p in
    let next : suc p ≡ p + 2 - 1 = omega arith in (
      omega (arith, c.loop-p.invariant.0),
      omega (arith, small c.before),
      rw next at
          (passed-even _ c.requires.0
          c.requires.1 p _ c.loop-p.invariant.0
          c.loop-p.invariant.3 c.sift-s.ensures),
      omega (arith, c.loop-p.invariant.3),
    )

-- after the loop
last : (c : After-odd-1)
    → Last c.args.n c.loop-p.s
last c =
    last_of _ c.requires.0 c.requires.1 _
    _
    (omega (arith, c.loop-p.invariant.0)) c.loop-p.invariant.2
    c.loop-p-test.false

pub with-requires : goal.with-requires
with-requires c = (last c.before).room c.if-rest-gt1.true

pub returns-then-rest-gt1 : goal.returns-then-rest-gt1
returns-then-rest-gt1 c = c.with.ensures ∙ (last c.before.before).one c.if-rest-gt1.true

pub returns : goal.returns
returns c = (last c.before).none c.if-rest-gt1.false
