-- The example of docs/RULES.md ('The listing'), computed from the definitions: from bytes to bytes. Its first two
-- lines, with three that are not in it, from nothing; its third from the answer, since F(105) takes long from its
-- definition.
use Rattle.std.specs.Prelude.{ℕ, ◌≡◌, refl, List, [], ◌∷◌, pos}
use Rattle.definitions.specs.Integers.{◌⊕◌, ◌⊗◌, ⊖}
use Rattle.definitions.specs.Series.{constant, ◌+ˢ◌, _ˢ, ◌·◌, ◌÷◌, z^, firsts}
use Rattle.definitions.specs.Numbers.{some_to, count_to, list_to, product_of_to, divides, share_factor, phi, is_prime}
use Rattle.definitions.specs.Numbers.{odd_prime_of, r_of, divisors_below, primes_of, mu_is_plus}
use Rattle.definitions.specs.Polynomials.{product_to, at_divisors, z^_1, family_to, F, I, polynomial, degree}
use Rattle.definitions.specs.Steps.{combed, accumulated_in, accumulated, stepped, in_range, some_outside, entries}
use Rattle.definitions.specs.Steps.{below_one}
use Rattle.definitions.specs.Steps.{step_over}
use Rattle.definitions.specs.KeptHalf.{half_degree, sort_of, term_of, term, start, product_of, kept_series, kept_half, sum_of}
use Rattle.definitions.specs.KeptHalf.{additions}
use Rattle.definitions.specs.Answer.{coefficients, height_of, height, place_of, peak_of, peak, gain_of, gain, additions_for}
use Rattle.definitions.specs.Requests.{known_kind, good_index, next_divisor, divisors_due, over_at, over_among}
use Rattle.answers.specs.Polynomial.{code, answered, answer}
use Rattle.text.specs.Text.{decimal_in, decimal, sign, signed, spaced}
use Rattle.request_lines.specs.Request.{kind_of, is_good_with}
use Rattle.digits.specs.Digits.{between, digits, value_from, value_of, digits_at, number_at}
use Rattle.request_lines.specs.Request.{place_of_limit, is_good, read_line}
use Rattle.answer_lines.specs.Printed.{letter_of, head_of, tail_of, good_line, wrong_line}
use Rattle.listing.specs.Reply.{reply_to, reply}
use Rattle.line_so_far.specs.Heading.{heading}
use Rattle.listing.specs.Listing.{last_line, lines_from, replies, listing}

-- `F 6 1`, `I 006 1`, an empty line, `F 6 -1` and `F 0 0`, the last with no newline
input : List ℕ
input =
    70 ∷ 32 ∷ 54 ∷ 32 ∷ 49 ∷ 10 ∷ 73 ∷ 32 ∷ 48 ∷ 48 ∷ 54 ∷ 32 ∷ 49 ∷ 10 ∷ 10 ∷ 70 ∷ 32 ∷ 54 ∷ 32 ∷ 45 ∷ 49 ∷ 10 ∷ 70
    ∷ 32 ∷ 48 ∷ 32 ∷ 48 ∷ []

-- `polynomials`, `F 6 0 2 1 1 0 1 : 1 -1 1`, `I 6 0 4 0 1 0 0 : -1 -1 0 1 1`, `? 3`, `? 4`, `F 0 2 0 0 0 0 0 :`
output : List ℕ
output =
    112 ∷ 111 ∷ 108 ∷ 121 ∷ 110 ∷ 111 ∷ 109 ∷ 105 ∷ 97 ∷ 108 ∷ 115 ∷ 10 ∷ 70 ∷ 32 ∷ 54 ∷ 32 ∷ 48 ∷ 32 ∷ 50 ∷ 32 ∷ 49 ∷
    32 ∷ 49 ∷ 32 ∷ 48 ∷ 32 ∷ 49 ∷ 32 ∷ 58 ∷ 32 ∷ 49 ∷ 32 ∷ 45 ∷ 49 ∷ 32 ∷ 49 ∷ 10 ∷ 73 ∷ 32 ∷ 54 ∷ 32 ∷ 48 ∷ 32 ∷ 52 ∷
    32 ∷ 48 ∷ 32 ∷ 49 ∷ 32 ∷ 48 ∷ 32 ∷ 48 ∷ 32 ∷ 58 ∷ 32 ∷ 45 ∷ 49 ∷ 32 ∷ 45 ∷ 49 ∷ 32 ∷ 48 ∷ 32 ∷ 49 ∷ 32 ∷ 49 ∷ 10 ∷
    63 ∷ 32 ∷ 51 ∷ 10 ∷ 63 ∷ 32 ∷ 52 ∷ 10 ∷ 70 ∷ 32 ∷ 48 ∷ 32 ∷ 50 ∷ 32 ∷ 48 ∷ 32 ∷ 48 ∷ 32 ∷ 48 ∷ 32 ∷ 48 ∷ 32 ∷ 48 ∷
    32 ∷ 58 ∷ 10 ∷ []

example : listing input ≡ output
unfolding input output listing heading replies lines_from last_line reply reply_to read_line is_good is_good_with place_of_limit
    number_at digits_at value_of value_from digits between kind_of good_line head_of tail_of letter_of wrong_line
    spaced signed sign decimal decimal_in answer answered code known_kind good_index divisors_due over_among over_at
    next_divisor coefficients height height_of peak peak_of place_of gain gain_of additions_for additions sum_of kept_half
    kept_series product_of start term term_of sort_of half_degree step_over some_outside stepped accumulated
    accumulated_in combed in_range entries below_one degree polynomial F I family_to z^_1 at_divisors product_to
    mu_is_plus primes_of divisors_below r_of odd_prime_of is_prime phi share_factor divides product_of_to list_to count_to
    some_to firsts z^ ◌÷◌ ◌·◌ _ˢ ◌+ˢ◌ constant ⊖ ◌⊗◌ ◌⊕◌
example = refl

-- `F 105 6 48 0 0 0 0 :`
refused : good_line 1 105 (record { code = 6; degree = 48; additions = 0; height = 0; peak = 0; gain = pos 0 }) []
    ≡ 70 ∷ 32 ∷ 49 ∷ 48 ∷ 53 ∷ 32 ∷ 54 ∷ 32 ∷ 52 ∷ 56 ∷ 32 ∷ 48 ∷ 32 ∷ 48 ∷ 32 ∷ 48 ∷ 32 ∷ 48 ∷ 32 ∷ 58 ∷ 10 ∷ []
unfolding good_line head_of tail_of letter_of spaced signed sign decimal decimal_in
refused = refl
