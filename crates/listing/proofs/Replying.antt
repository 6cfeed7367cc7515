-- The entries that the polynomial request leaves, up to the degree it answers, are the coefficients that are printed.
use mathlib.Core.Path.{◌≡◌, refl, sym, ◌∙◌, ap, subst}
use mathlib.Core.Bool.{not, ◌||◌}
use mathlib.Core.List.{List, [], ◌∷◌, ◌++◌}
use Prim.Native.Nat.{ℕ, suc, ◌+◌, ◌<◌}
use native.Mathlib.Numerals.{add-one}
use borrow.Author.Tests.{eq-eqb, leb-false}
use lib.ListN.{length, take, drop}
use lib.Seq.{take_at}
use lib.Dec.{eqb, leb}
use lib.IntN.{ℤ, pos}
use Rattle.std.specs.Prelude.{None, Some}
use Rattle.definitions.specs.Codes.{DONE, KIND, INDEX, LIMIT, SHORT}
use Rattle.definitions.specs.Polynomials.{degree, polynomial}
use Rattle.definitions.specs.Steps.{largest, below_one}
use Rattle.definitions.specs.Requests.{known_kind, good_index, written}
use Rattle.definitions.specs.Answer.{coefficients}
use Rattle.step_laws.specs.Tests.{by_test, past}
use Rattle.step_laws.specs.Firsts.{length-firsts}
use Rattle.answers.specs.Polynomial.{code, answered, answer, left, leaves}
use Rattle.answers.specs.declared.Answer.{Answer}
use Rattle.text.specs.Text.{NEWLINE, spaced}
use Rattle.request_lines.specs.Request.{read_line}
use Rattle.answer_lines.specs.Printed.{head_of, tail_of, good_line, wrong_line}
use Rattle.listing.specs.Reply.{LENT, reply_to, reply}
use Rattle.request_lines.specs.declared.Request.{Request}

module _ (kind n : ℕ) (h w : ℤ) (room : ℕ) where
  done_fits : code kind n h w room ≡ DONE → degree kind n < room
  unfolding code
  done_fits e =
      let index = past (not (good_index n)) INDEX refl (past (not (known_kind kind)) KIND refl e).1 in
      let limit = past (below_one h || below_one w) LIMIT refl index.1 in
      leb-false room (degree kind n) (past (leb room (degree kind n)) SHORT refl limit.1).0

  -- a delivered degree is below the room
  pub degree_fits : {a : Answer} → a ≡ answer kind n h w room → a.code ≡ DONE → a.degree < room
  unfolding answer answered
  degree_fits e = subst (λ x. x.code ≡ DONE → x.degree < room) (sym e) (λ z. rw (eq-eqb _ _ z) (done_fits z))

module _ (kind n : ℕ) (h w : ℤ) (l : List ℤ) where
  length-coefficients : length (coefficients kind n) ≡ degree kind n + 1
  unfolding coefficients
  length-coefficients = length-firsts (suc (degree kind n)) (polynomial kind n) ∙ sym (add-one (degree kind n))

  same_tail : tail_of (answer kind n h w (length l)) (take ((answer kind n h w (length l)).degree + 1)
      (leaves kind n h w l))
      ≡ tail_of (answer kind n h w (length l)) (coefficients kind n)
  unfolding tail_of answer answered leaves left written
  same_tail =
      by_test (eqb (code kind n h w (length l)) DONE)
      (λ e. rw e (ap (λ xs. spaced xs ++ (NEWLINE ∷ []))
      (take_at (coefficients kind n) (drop (length (coefficients kind n)) l)
      (degree kind n + 1) length-coefficients)))
      (λ e. rw e)

module _ (number : ℕ) (line : List ℕ) where
  pub replied : (q : Request) → Some q ≡ read_line line → (a : Answer) (l m : List ℤ) → length l ≡ LENT
      → a ≡ answer q.kind q.n (pos q.h) (pos largest) (length l) → m ≡ leaves q.kind q.n (pos q.h)
      (pos largest) l
      → head_of q.kind q.n a ++ tail_of a (take (a.degree + 1) m) ≡ reply number line
  unfolding reply reply_to good_line
  replied q e a l m len ea em =
      rw (← e, ea, em)
      (ap (λ t. head_of q.kind q.n (answer q.kind q.n (pos q.h) (pos largest) (length l)) ++ t)
      (same_tail q.kind q.n (pos q.h) (pos largest) l)
      ∙ ap (λ r. head_of q.kind q.n (answer q.kind q.n (pos q.h) (pos largest) r)
      ++ tail_of (answer q.kind q.n (pos q.h) (pos largest) r) (coefficients q.kind q.n)) len)

  pub replied_wrong : None ≡ read_line line → wrong_line number ≡ reply number line
  unfolding reply reply_to
  replied_wrong e = rw (← e)
