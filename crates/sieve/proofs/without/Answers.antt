-- `without` meets its contract. The invariant: some of the factors p are out. The measure is what is left.
use native.Mathlib.Nat.{div-lt_self, mod-eq-zero_of_dvd}
use Rattle.sieve.proofs.Sifting.{taking_start, taking_step}
use Rattle.sieve.proofs.without.Goals as goal

pub loop-rest-init : goal.loop-rest-init
loop-rest-init c = taking_start _ _ c.requires.0

pub loop-rest-smaller : goal.loop-rest-smaller
loop-rest-smaller c = div-lt_self c.loop-rest.invariant.pos c.requires.1.above

pub loop-rest-preserved : goal.loop-rest-preserved
loop-rest-preserved c = taking_step _ _ _ c.requires.1 c.loop-rest.invariant c.loop-rest-test.true

pub returns : goal.returns
returns c = record { taking = c.loop-rest.invariant; gone = λ d. c.loop-rest-test.false (mod-eq-zero_of_dvd _ d) }
