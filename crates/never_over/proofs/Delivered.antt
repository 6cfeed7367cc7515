-- No request for a polynomial is refused, once kind and index are good and there is room, where both limits are the
-- largest: OVER is never met, and the height is in range.
use Rattle.std.specs.Prelude.{ℕ, ◌<◌, ◌≡◌, true, List, length, ℤ, pos}
use Rattle.std.proofs.Math.Path.{ap}
use borrow.Author.Tests.{le-ltb, lt-leb}
use Rattle.definitions.specs.Codes.{DONE}
use Rattle.definitions.specs.Polynomials.{degree}
use Rattle.definitions.specs.Steps.{largest, below_one}
use Rattle.definitions.specs.Requests.{known_kind, good_index, written}
use Rattle.definitions.specs.Answer.{coefficients, height}
use Rattle.answers.specs.Polynomial.{code, answered, answer, left, leaves}
use Rattle.index.proofs.Laws.{index_good}
use Rattle.never_over.proofs.Heights.{never, height_fits}

module _ (kind n : ℕ) (known : known_kind kind ≡ true) (good : good_index n ≡ true) where
  module _ (room : ℕ) (fits : degree kind n < room) where
    pub delivered : code kind n (pos largest) (pos largest) room ≡ DONE
    unfolding code below_one
    delivered =
        let (above, small) = index_good n good in
        rw (
          known,
          good,
          lt-leb room (degree kind n) fits,
          never n above small kind,
          le-ltb largest (height kind n) (height_fits n above small kind),
        )

    pub answer_delivered : answer kind n (pos largest) (pos largest) room ≡ answered kind n DONE
    unfolding answer
    answer_delivered = ap (answered kind n) delivered

  pub leaves_delivered : (l : List ℤ) → degree kind n < length l
      → leaves kind n (pos largest) (pos largest) l ≡ written (coefficients kind n) l
  unfolding leaves left
  leaves_delivered l fits = ap (λ c. left kind n c l) (delivered (length l) fits)
