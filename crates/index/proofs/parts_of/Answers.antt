-- `parts_of` meets its contract, by the laws of `Whole`.
use native.Mathlib.Omega.{arith}
use Rattle.index.proofs.Whole.{r_small, m-pos, phi_small, all-parts}
use Rattle.index.proofs.parts_of.Goals as goal

pub base-m-requires : goal.base-m-requires
base-m-requires c = r_small _ c.requires.0 c.requires.1 _
    c.odd_primes-odd.ensures

pub nonzero_div-t : goal.nonzero_div-t
nonzero_div-t c =
    m-pos _ c.requires.0 c.requires.1 _
    c.odd_primes-odd.ensures _ c.base-m.ensures

pub overflow_mul-result : goal.overflow_mul-result
overflow_mul-result c =
    omega (
      arith,
      phi_small _ c.requires.0 c.requires.1 _
          c.odd_primes-odd.ensures _ c.base-m.ensures,
    )

pub returns : goal.returns
returns c =
    all-parts _ c.requires.0 c.requires.1 _
    c.odd_primes-odd.ensures _ c.base-m.ensures
