-- What the theorems on the rescue are said with. No contract cites it.
use Rattle.std.specs.Prelude.{ℕ, ◌+◌, ◌-◌, ◌≡◌, List, [], ◌∷◌, ◌++◌, take, drop}
use Rattle.definitions.specs.Answer.{coefficients}
use Rattle.record.specs.Header.{kind_in, index_in}
use Rattle.forms.specs.declared.Form.TheVariants as Form
use Rattle.forms.specs.Format.{coefficients_in}
use Rattle.browsing.specs.Cut.{Whole}
use Rattle.rescuing.specs.Rescue.{skipped_by, found_by}

-- a record that is all of some bytes, with the coefficients of its kind and index; and each of some stretches is one
abbrev pub Good : List ℕ → Type 0
Good s = Whole s × (coefficients_in Form.Whole s ≡ coefficients (kind_in s) (index_in s))

abbrev pub AllGood : List (List ℕ) → Type 0
AllGood [] = Unit
AllGood (s ∷ ss) = Good s × AllGood ss

-- what some searches skipped and found, in order
unfoldable pub pieced : List (List ℕ) → List ℕ
pieced [] = []
pieced (left ∷ more) = skipped_by left ++ (found_by left ++ pieced more)

-- some bytes that start at a place, without the stretches of a list
unfoldable pub without : (at : ℕ) → List ℕ → List ℕ → List ℕ
without at [] bytes = bytes
without at (start ∷ []) bytes = bytes
without at (start ∷ k ∷ more) bytes =
    take (start - at) bytes ++ without (start + k) more (drop k (drop (start - at) bytes))
