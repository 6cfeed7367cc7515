-- `listing::reply::answer_line` meets its contract: nothing, or the reply at place 0.
use borrow.Author.Tests.{lt-ltb, le-ltb}
use Rattle.text.proofs.Putting.{nothing_put}
use Rattle.listing.proofs.reply.answer_line.Goals as goal

pub returns-then-out-lt-MOST : goal.returns-then-out-lt-MOST
returns-then-out-lt-MOST c = rw (lt-ltb _ _ c.if-out-lt-MOST.true) (nothing_put 0 c.args.out.now)

pub returns : goal.returns
returns c = rw (le-ltb _ _ c.if-out-lt-MOST.false)
    c.put_reply.ensures.puts
