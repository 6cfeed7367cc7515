-- `sieve::Sieve::sift` meets its contract: the cases of `Look`.
use native.Mathlib.Omega.{arith}
use Rattle.sieve.proofs.Sifting.{Look, look_at}
use Prim.Native.Nat.{◌-◌}
use Rattle.sieve.proofs.Sieve.sift.Goals as goal
use Rattle.sieve.proofs.Sieve.sift.Goals.{Start}

looked : (c : Start) → Look c.args.n (c.args.p - 1) c.args.p c.args.self
looked c = look_at _ c.requires.0 c.requires.1 _ _ (omega (arith, c.requires.2)) c.requires.3

pub with-requires : goal.with-requires
with-requires c = (looked c.before.before).room c.if-rest-p-eq0.true

pub without-requires : goal.without-requires
without-requires c =
    (c.requires.3.pos, (looked c.before.before.before).prime c.if-rest-p-eq0.true)

pub returns-then-rest-p-eq0 : goal.returns-then-rest-p-eq0
returns-then-rest-p-eq0 c =
    (looked c.before.before.before.before).hit _ _ c.if-rest-p-eq0.true
    c.with.ensures c.without.ensures

pub returns : goal.returns
returns c = (looked c.before).miss c.if-rest-p-eq0.false
