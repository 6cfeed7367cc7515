-- `listing::stream::put_closing` meets its contract: a line of at most 40 bytes is all kept.
use Rattle.std.proofs.Common.{◌≡◌, ◌<◌, length, inl, inr, ◌∙◌, arith, rules}
use Rattle.std.proofs.lemmas.Slice.{between_from_start}
use borrow.Author.Tests.{le-leb, lt-leb}
use Rattle.listing.specs.Stream.{closing}
use Rattle.listing.proofs.stream.put_closing.Goals as goal

pub returns-in_default-clause-puts : goal.returns-in_default-clause-puts
unfolding closing
returns-in_default-clause-puts c =
    let all : length c.args.line.now.bytes ≡ 40 = search rules in
    let long : 40 < c.args.line.now.length =
    elim c.in_default.ensures.lookup.0 [ inl h ↦ absurd (omega arith) | inr h ↦ omega arith ] in
    rw (lt-leb _ _ long) c.put_wrong.ensures.puts

pub returns-clause-puts : goal.returns-clause-puts
unfolding closing
returns-clause-puts c =
    let all : length c.args.line.now.bytes ≡ 40 = search rules in
    let kept = c.in-Some.ensures.lookup.0 in
    rw (le-leb c.args.line.now.length 40 (omega arith))
    (rw (kept.2 ∙ between_from_start _ _) at c.put_reply.ensures.puts)
