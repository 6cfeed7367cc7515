-- `digit_sum`: a term more, of the entries that are read, each of which fits (DigitSums).
use mathlib.Core.Path.{◌≡◌}
use native.Mathlib.Omega.{arith}
use mir.Syntax.{w64}
use mir.Val.{to_z}
use Rattle.digit_sums.proofs.DigitSums.{DigitsTo, start, done, term_asks, term_more}
use Rattle.digit_sums.proofs.digit_sum.Goals as goal

pub loop-j-init : goal.loop-j-init
loop-j-init c = start c.args.a c.args.c c.requires.0

pub add_product-s-requires : goal.add_product-s-requires
add_product-s-requires c =
    term_asks c.loop-j.invariant (record { sfits = omega arith }) (record { sfits = omega arith }) c.digit.ensures
    c.digit-in-loop-j.ensures (omega (arith, c.requires.0.few, c.requires.1))

pub loop-j-preserved : goal.loop-j-preserved
loop-j-preserved c =
    term_more c.loop-j.invariant (record { sfits = omega arith }) (record { sfits = omega arith }) c.digit.ensures
    c.digit-in-loop-j.ensures (omega (arith, c.requires.0.few, c.requires.1)) c.add_product-s.ensures

pub returns : goal.returns
returns c =
    let l = c.loop-j in
    let a = c.args in
    let t = c.requires.0 in
    let same : l.j ≡ a.to = omega (arith, t.order) in
    let end : DigitsTo a.f.now a.b.now a.i a.to a.a a.c (to_z w64 l.s-bits) = rw same at l.invariant in
    (done a.a a.c t end, omega (arith, end.small, t.few, c.requires.1))
