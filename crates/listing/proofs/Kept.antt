-- What is kept of a line says what is printed for it: its first 40 bytes are all of it, or it is too long to be good.
use mathlib.Core.Path.{◌≡◌, refl, sym, ◌∙◌, ap}
use mathlib.Core.List.{List, [], ◌∷◌, ◌++◌}
use Prim.Native.Nat.{ℕ, suc, ◌+◌, ◌%◌, ◌^◌, ◌<◌, ◌≤◌}
use native.Mathlib.Nat.{mod-eq_of_lt}
use native.Mathlib.Numerals.{add-one}
use native.Mathlib.Omega.{arith}
use borrow.Author.Tests.{le-leb, lt-leb, lt-ltb, le-ltb}
use lib.ListN.{length, take, length-append, length-set, length-replicate}
use lib.Seq.{take-suc-set}
use Rattle.step_laws.specs.Tests.{by_test, by_order}
use Rattle.request_lines.specs.Request.{is_good}
use Rattle.answer_lines.specs.Printed.{wrong_line}
use Rattle.listing.specs.Reply.{reply}
use Rattle.line_so_far.specs.OpenLine.{KEPT, start_line, pushed, next_line}
use Rattle.line_so_far.specs.declared.Line.{Line}
use Rattle.listing.specs.Stream.{closing}
use Rattle.request_lines.proofs.Reading.{good_short, reads_wrong}
use Rattle.listing.proofs.Replying.{replied_wrong}

-- s is what is kept of the line `current`, which has the number k
pub record Keeps (s : Line) (current : List ℕ) (k : ℕ) : Type 0 where
  pub number : s.number ≡ k
  pub room : length s.bytes ≡ KEPT
  pub short : length current ≤ KEPT → (s.length ≡ length current) × (take (length current) s.bytes ≡ current)
  pub long : KEPT < length current → s.length ≡ KEPT + 1

pub keeps_start : Keeps start_line [] 1
unfolding start_line
keeps_start =
    record {
      number = refl;
      room = length-replicate {A = ℕ} KEPT 0;
      short = λ h. (refl, refl);
      long =
          λ h. absurd (never h);
    }
  where
    never : 40 < 0 → ⊥
    never h = omega arith

-- a line of more than 40 bytes is not good
long-wrong : (k : ℕ) (current : List ℕ) → KEPT < length current → wrong_line k ≡ reply k current
long-wrong k current h =
    by_test (is_good current) (λ e. absurd (clash (good_short current e)))
    (λ e. replied_wrong k current (sym (reads_wrong current e)))
  where
    clash : length current ≤ 21 → ⊥
    clash m = omega arith

module _ {s : Line} {current : List ℕ} {k : ℕ} (t : Keeps s current k) where
  pub closing_is : closing s ≡ reply k current
  unfolding closing
  closing_is =
      by_order KEPT (length current)
      (λ h. rw (lt-leb s.length KEPT (omega (arith, t.long h)), t.number) (long-wrong k current h))
      (λ h.
      let e = t.short h in
      rw (le-leb s.length KEPT (omega (arith, e.0)), t.number, e.0, e.1) refl)

  pub keeps_next : k + 1 < 2 ^ 64 → Keeps (next_line s) [] (suc k)
  unfolding next_line
  keeps_next h =
      record {
        number = ap (λ n. (n + 1) % 2 ^ 64) t.number ∙ mod-eq_of_lt h ∙ add-one k;
        room = t.room;
        short = λ b. (refl, refl);
        long = λ b. absurd (never b);
      }
    where
      never : 40 < 0 → ⊥
      never b = omega arith

  one_more : (b : ℕ) → length (current ++ (b ∷ [])) ≡ length current + 1
  one_more b = length-append current (b ∷ [])

  room_more : (b : ℕ) → s.length ≡ length current → length current < KEPT → Keeps (pushed s b) (current ++ (b ∷ [])) k
  unfolding pushed
  room_more b e h =
      rw (lt-ltb s.length KEPT (omega arith))
      (record {
        number = t.number;
        room = length-set s.bytes s.length b ∙ t.room;
        short = λ m. (
          ap (λ n. n + 1) e
              ∙ sym (one_more b),
          rw (one_more b, add-one, e) (take-suc-set s.bytes (length current) b (omega (arith, t.room))
              ∙ ap (λ r. r ++ (b ∷ [])) (t.short (omega arith)).1),
        );
        long = λ m. absurd (never m);
      })
    where
      never : KEPT < length (current ++ (b ∷ [])) → ⊥
      never m = omega (arith, one_more b)

  no_room : (b : ℕ) → KEPT ≤ s.length → KEPT ≤ length current → Keeps (pushed s b) (current ++ (b ∷ [])) k
  unfolding pushed
  no_room b e h =
      rw (le-ltb s.length KEPT e)
      (record { number = t.number; room = t.room; short = λ m. absurd (never m); long = λ m. refl })
    where
      never : length (current ++ (b ∷ [])) ≤ KEPT → ⊥
      never m = omega (arith, one_more b)

  pub keeps_push : (b : ℕ) → Keeps (pushed s b) (current ++ (b ∷ [])) k
  keeps_push b =
      by_order (length current) KEPT (λ h. room_more b (t.short (omega arith)).0 h)
      (λ h.
      by_order KEPT (length current) (λ m. no_room b (omega (arith, t.long m)) h)
      (λ m. no_room b (omega (arith, (t.short m).0)) h))

-- where something is kept the line is not empty
pub filled : {s : Line} {b : ℕ} {bs : List ℕ} {k : ℕ} → Keeps s (b ∷ bs) k → s.length ≡ 0 → ⊥
filled {s} {b} {bs} t e =
    by_order KEPT (suc (length bs)) (λ h. absurd (never h (t.long h))) (λ h. absurd (some (t.short h).0))
  where
    never : KEPT < suc (length bs) → s.length ≡ 41 → ⊥
    never h l = omega arith

    some : s.length ≡ suc (length bs) → ⊥
    some l = omega arith
