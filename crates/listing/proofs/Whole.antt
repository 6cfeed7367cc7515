-- Whatever pieces the input comes in, and wherever the output is cut, what is written is the listing of the whole
-- input.
use mathlib.Core.Path.{◌≡◌, refl, sym, ◌∙◌, ap, ap₂}
use mathlib.Core.List.{List, [], ◌∷◌, ◌++◌, append_assoc, append-nil}
use Prim.Native.Nat.{ℕ, suc, ◌+◌, ◌^◌, ◌<◌, ◌≤◌}
use native.Mathlib.Omega.{arith}
use borrow.Author.Tests.{eq-eqb, ne_eqb}
use lib.ListN.{length, take, drop, take-append-drop}
use lib.Seq.{take_all}
use lib.Dec.{eqb}
use Rattle.step_laws.specs.Tests.{by_test}
use Rattle.text.specs.Text.{NEWLINE}
use Rattle.text.proofs.Putting.{put_first}
use Rattle.listing.specs.Reply.{reply}
use Rattle.line_so_far.specs.Heading.{heading}
use Rattle.line_so_far.specs.OpenLine.{start_line, pushed, next_line}
use Rattle.line_so_far.specs.declared.Line.{Line}
use Rattle.listing.specs.Listing.{last_line, lines_from, replies, listing}
use Rattle.listing.specs.Reply.{MOST}
use Rattle.listing.specs.Stream.{closing, step, says, after, printed, ending}
use Rattle.listing.specs.Ran.{Ran}
use Rattle.listing.specs.declared.Progress.{Progress}
use Rattle.listing.proofs.Kept.{Keeps, keeps_start, keeps_next, keeps_push, closing_is, filled}
use Rattle.listing.proofs.Streaming.{after-append, printed-append, takes}

-- the end of the input
at_end : (s : Line) (current : List ℕ) (k : ℕ) → Keeps s current k → ending s ≡ replies k (last_line current)
unfolding ending replies last_line
at_end s [] k t = rw (eq-eqb s.length 0 (t.short (omega arith)).0)
at_end s (b ∷ bs) k t =
    rw (ne_eqb s.length 0 (filled t)) (closing_is t ∙ sym (append-nil (reply k (b ∷ bs))))

from : (bs : List ℕ) (s : Line) (current : List ℕ) (k : ℕ) → Keeps s current k → k + length bs < 2 ^ 64
    → printed s bs ++ ending (after s bs) ≡ replies k (lines_from current bs)
unfolding printed after lines_from step says replies
from [] s current k t h = at_end s current k t
from (b ∷ bs) s current k t h =
    by_test (eqb b NEWLINE)
    (λ e.
    rw e
    (append_assoc (closing s) (printed (next_line s) bs) (ending (after (next_line s) bs))
    ∙ ap₂ ◌++◌ (closing_is t) (from bs (next_line s) [] (suc k) (keeps_next t (omega arith)) (omega arith))))
    (λ e. rw e (from bs (pushed s b) (current ++ (b ∷ [])) k (keeps_push t b) (omega arith)))

-- all of the input at once
pub whole : (input : List ℕ) → 1 + length input < 2 ^ 64
    → heading ++ (printed start_line input ++ ending (after start_line input)) ≡ listing input
unfolding listing
whole input h = ap (λ r. heading ++ r) (from input start_line [] 1 keeps_start h)

-- what a run wrote is what the bytes that it took print
pub flushed : {s : Line} {piece l m : List ℕ} {r : Progress} → Ran s piece l m r
    → take r.made m ≡ printed s (take r.taken piece)
flushed ran = put_first ran.puts ran.fits

-- runs over an input that comes in pieces: what a run did not take is taken by the next one, and what it made is
-- written out
pub data Runs : Line → List ℕ → List ℕ → Line → Type 0 where
  ended : {s : Line} → Runs s [] [] s
  ran : {s s' : Line} {piece l m out : List ℕ} {r : Progress} (rest : List ℕ) → Ran s piece l m r
      → Runs r.line (drop r.taken piece ++ rest) out s' → Runs s (piece ++ rest) (take r.made m ++ out) s'

cut : (s : Line) (piece rest : List ℕ) (t : ℕ) → piece ++ rest ≡ take t piece ++ (drop t piece ++ rest)
cut s piece rest t = ap (λ p. p ++ rest) (sym (take-append-drop t piece))
    ∙ append_assoc (take t piece) (drop t piece) rest

pub runs_print : {s s' : Line} {input out : List ℕ} → Runs s input out s' → (out ≡ printed s input)
    × (s' ≡ after s input)
unfolding printed after
runs_print ended = (refl, refl)
runs_print (ran {s = s} {piece = piece} {r = r} rest one more) =
    let next = runs_print more in
    let t = r.taken in (
      ap₂ ◌++◌ (flushed one) (next.0 ∙ ap (λ x. printed x (drop t piece ++ rest)) one.left)
          ∙ sym (ap (printed s) (cut s piece rest t) ∙ printed-append s (take t piece) (drop t piece ++ rest)),
      next.1
          ∙ ap (λ x. after x (drop t piece ++ rest)) one.left
          ∙ sym (ap (after s) (cut s piece rest t) ∙ after-append s (take t piece) (drop t piece ++ rest)),
    )

-- the heading, what the runs write, and the end
pub listed : {s : Line} {input out : List ℕ} → Runs start_line input out s → 1 + length input < 2 ^ 64
    → heading ++ (out ++ ending s) ≡ listing input
listed {s} {input} {out} rs h =
    let e = runs_print rs in
    ap₂ (λ x y. heading ++ (x ++ ending y)) e.0 e.1 ∙ whole input h

-- the newline that is supplied where the input ends in an open line
pub last : {s : Line} {l m : List ℕ} {r : Progress} → Ran s (NEWLINE ∷ []) l m r → MOST ≤ length l → (s.length ≡ 0 → ⊥)
    → take r.made m ≡ ending s
unfolding ending printed says
last {s} {l} {m} {r} one h some =
    let all : take r.taken (NEWLINE ∷ []) ≡ NEWLINE ∷ [] =
    take_all r.taken (NEWLINE ∷ []) (takes one h (omega arith)) in
    rw (ne_eqb s.length 0 some) (flushed one ∙ ap (printed s) all ∙ append-nil (closing s))
