-- `differ_at`: where one of a sixteen differs, one of all does (Comparing).
use Rattle.std.proofs.Common.{◌≡◌, ◌+◌, ◌*◌, Bool, false, ◌||◌, length, drop, refl, sym, ◌∙◌, arith}
use Rattle.widths.specs.Numbers.{coefficients_at}
use Rattle.keeping.specs.Keepable.{differ_to}
use Rattle.keeping.proofs.Comparing.{differ_on}
use Rattle.keeping.proofs.same.differ_at.Goals as goal

pub loop-i-init : goal.loop-i-init
unfolding differ_to
loop-i-init g c = refl

-- what some of them say, where none before does
found : (a r b : Bool) → a ≡ false → (a || r) ≡ b → r ≡ b
found a r b e s = rw e at s

pub returns-then-differ_some : goal.returns-then-differ_some
returns-then-differ_some g c =
    let coeffs = c.args.coeffs.now in
    let stored = coefficients_at g.row.W (length coeffs) (drop 10 c.args.bytes.now) in
    let here = found _ _ _ c.loop-i.invariant c.differ_some.ensures in
    sym (differ_on stored coeffs (16 * c.loop-i.i + 16) (length coeffs) (sym here ∙ c.if-differ_some.true) (omega arith))
