-- What is told of a list: whether its indices are good, and then its total degree and that of the longest factor.
use Rattle.std.specs.Prelude.{ℕ, ◌≡◌, List, Option, is_some, IfSome}
use Rattle.definitions.specs.Cascades.{total_degree, longest, all_good}
use Rattle.cascade.specs.declared.asked.Sizes.{Sizes}

pub record SizesOf (ns : List ℕ) (sizes : Sizes) : Type 0 where
  pub total : sizes.total ≡ total_degree ns
  pub longest : sizes.longest ≡ Rattle.definitions.specs.Cascades.longest ns

pub record SizesAre (ns : List ℕ) (r : Option Sizes) : Type 0 where
  pub good : is_some r ≡ all_good ns
  pub sizes : IfSome r (SizesOf ns)
