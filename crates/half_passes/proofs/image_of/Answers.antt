-- `image_of`: each arm by its own width, the last by the only one left (Least), and what is not negated is as it was.
use Rattle.std.proofs.Common.{◌≡◌, ℕ, ◌+◌, ◌*◌, ◌^◌, ◌<◌, Bool, true, sym, arith}
use Rattle.definitions.specs.Halves.{image}
use Rattle.widths.specs.Numbers.{twos, signed_of}
use Rattle.widths.proofs.Digits.{twos-signed}
use Rattle.widths.proofs.Least.{width_last}
use Rattle.half_passes.proofs.Images.{negated_is}
use Rattle.half_passes.proofs.image_of.Goals as goal

-- negated, at the width u
negative : (w u v r : ℕ) (negate : Bool) → w ≡ u → negate ≡ true → v < 2 ^ (8 * w)
    → (v < 2 ^ (8 * u) → (v ≡ 0 → r ≡ 0) × (0 < v → r + v ≡ 2 ^ (8 * u)))
    → r ≡ twos w (image negate (signed_of w v))
negative w u v r negate at on small adds =
    let less : v < 2 ^ (8 * u) = rw at at small in
    rw (on, at) (negated_is u v r less (adds less).0 (adds less).1)

pub returns-then-not-negate : goal.returns-then-not-negate
returns-then-not-negate g c = rw c.if-not-negate.true (sym (twos-signed g.row.W c.args.v c.requires.1))

pub returns-in-1 : goal.returns-in-1
returns-in-1 g c =
    negative g.row.W 1 _ _ _ c.in-1.is c.if-not-negate.false c.requires.1 (λ small. (λ z. omega arith, λ p. omega arith))

pub returns-in-2 : goal.returns-in-2
returns-in-2 g c =
    negative g.row.W 2 _ _ _ c.in-2.is c.if-not-negate.false c.requires.1 (λ small. (λ z. omega arith, λ p. omega arith))

pub returns-in-4 : goal.returns-in-4
returns-in-4 g c =
    negative g.row.W 4 _ _ _ c.in-4.is c.if-not-negate.false c.requires.1 (λ small. (λ z. omega arith, λ p. omega arith))

pub returns-in_default : goal.returns-in_default
returns-in_default g c =
    let r = c.in_default.in_default-own.rest in
    negative g.row.W 8 _ _ _ (width_last g.row.W c.requires.0 r.0.0.1 r.0.1 r.1) c.if-not-negate.false c.requires.1
    (λ small. (λ z. omega arith, λ p. omega arith))
