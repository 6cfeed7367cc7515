-- The halves of a polynomial (docs/RULES.md, 'The half record'): the first half of some coefficients, the middle one
-- included; how the whole is rebuilt from it; and when the halves match.
use Rattle.std.specs.Prelude.{ℕ, zero, suc, ◌+◌, ◌-◌, ◌/◌, ◌%◌, Bool, false, cond, not, ◌&&◌, ◌||◌, List, length, take, eqb, ltb, ℤ, nat_abs}
use Rattle.definitions.specs.Integers.{⊖, ◌⊝◌}
use Rattle.definitions.specs.Series.{Series, firsts}
use Rattle.definitions.specs.Steps.{entries}

-- how many of so many coefficients the first half has, and which
abbrev pub half_of : ℕ → ℕ
half_of count = (count + 1) / 2

unfoldable pub first_half : List ℤ → List ℤ
first_half cs = take (half_of (length cs)) cs

-- the other half is negated for F(1) and for I(n) with n > 1, and copied otherwise
unfoldable pub negates : ℕ → ℕ → Bool
negates kind n = cond (eqb kind 1) (eqb n 1) (ltb 1 n)

abbrev pub image : Bool → ℤ → ℤ
image negate c = cond negate (⊖ c) c

-- so many coefficients from their first half: entry count - 1 - i is the image of entry i
unfoldable pub mirrored_up : Bool → ℕ → Series → Series
mirrored_up negate count f i = cond (ltb i (half_of count)) (f i) (image negate (f (count - 1 - i)))

unfoldable pub rebuilt : Bool → ℕ → List ℤ → List ℤ
rebuilt negate count half = firsts count (mirrored_up negate count (entries half))

unfoldable pub differ : ℤ → ℤ → Bool
differ a b = not (eqb (nat_abs (a ⊝ b)) 0)

-- one of the first k coefficients has another than its image at the place that mirrors it
unfoldable pub uneven_to : ℕ → Bool → List ℤ → Bool
uneven_to zero negate cs = false
uneven_to (suc k) negate cs =
    uneven_to k negate cs || differ (entries cs (length cs - 1 - k)) (image negate (entries cs k))

-- the halves don't match: one of the first half has another. A middle one is to be its own image, so 0 under negation
unfoldable pub uneven : Bool → List ℤ → Bool
uneven negate cs = uneven_to (half_of (length cs)) negate cs

-- of so many coefficients whose first half is there: a nonzero middle under negation
unfoldable pub middle_wrong : Bool → ℕ → List ℤ → Bool
middle_wrong negate count half = negate && eqb (count % 2) 1 && not (eqb (nat_abs (entries half (count / 2))) 0)
