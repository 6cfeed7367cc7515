-- Both engines agree: wherever the scratch suffices, this one tells the code, the degree, the height, the peak and the
-- gain of the plain request at the largest working limit, and leaves the same in the first buffer (`agrees`). Neither
-- ever gives OVER (`never_over/Never`: `polynomial_never_over`, `second_never_over`), so that nothing more is asked.
use Prim.Native.Nat.{ℕ, ◌+◌, ◌*◌, ◌≤◌}
use mathlib.Core.Path.{◌≡◌, refl, ap}
use mathlib.Core.Bool.{Bool, true, false, or-false}
use mathlib.Core.List.{List}
use borrow.Author.Tests.{le-ltb}
use lib.Dec.{leb}
use lib.ListN.{length}
use lib.IntN.{ℤ, pos}
use Rattle.definitions.specs.Polynomials.{degree}
use Rattle.definitions.specs.Steps.{largest, below_one}
use Rattle.definitions.specs.Requests.{good_index}
use Rattle.step_laws.specs.WorkingLimit.{no_limit}
use Rattle.never_over.proofs.Heights.{never}
use Rattle.never_over.proofs.Second.{second_never}
use Rattle.index.proofs.Laws.{index_good}
use Rattle.answers.proofs.Told.{uncounted}
use Rattle.answers.specs.Polynomial as Plain
use Rattle.answers.specs.Second as Second

module _ (kind n : ℕ) (h : ℤ) (room scratch : ℕ) (enough : 2 * n + 16 ≤ scratch) where
  pub same_code : Second.code kind n h room scratch ≡ Plain.code kind n h (pos largest) room
  unfolding Second.code Plain.code
  same_code = go (good_index n) refl
    where
      go : (b : Bool) → good_index n ≡ b → Second.code kind n h room scratch ≡ Plain.code kind n h (pos largest) room
      go true e =
          let (above, small) = index_good n e in
          rw (
            second_never kind n above small,
            never n above small kind,
            le-ltb scratch (2 * n + 16) enough,
            or-false (leb room (degree kind n)),
            no_limit,
            or-false (below_one h),
          ) refl
      go false e = rw e refl

  pub agrees : Second.answer kind n h room scratch ≡ uncounted (Plain.answer kind n h (pos largest) room)
  unfolding Second.answer Second.answered Plain.answer Plain.answered uncounted
  agrees = ap (Second.answered kind n) same_code

pub agrees_left : (kind n : ℕ) (h : ℤ) (l : List ℤ) (scratch : ℕ) → 2 * n + 16 ≤ scratch
    → Second.leaves kind n h l scratch ≡ Plain.leaves kind n h (pos largest) l
unfolding Second.leaves Second.left Plain.leaves Plain.left
agrees_left kind n h l scratch enough =
    ap (λ c. Second.left kind n c l) (same_code kind n h (length l) scratch enough)
