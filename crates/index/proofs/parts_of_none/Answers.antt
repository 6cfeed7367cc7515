-- `parts_of_none` meets its contract: the parts of 0 compute.
use mathlib.Core.Path.{refl}
use Rattle.definitions.specs.Numbers.{some_to, count_to, list_to, product_of_to, divides, share_factor, phi, r_of, k_of, m_of}
use Rattle.definitions.specs.Numbers.{t_of}
use Rattle.sieve.specs.Sieving.{padded}
use Rattle.index.specs.Parts.{parts_of}
use Rattle.index.proofs.parts_of_none.Goals as goal

pub returns : goal.returns
unfolding parts_of padded k_of r_of m_of t_of phi list_to count_to product_of_to divides share_factor some_to
returns c = refl
