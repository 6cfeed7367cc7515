-- `census_lines::reply::answer_input` meets its contract: nothing, or what is printed for the bounds in the first line
-- (`Told`).
use Rattle.std.proofs.Common.{◌∙◌, ap, arith}
use borrow.Author.Tests.{lt-ltb, le-ltb}
use Rattle.text.proofs.Putting.{nothing_put}
use Rattle.census_lines.specs.Asked.{bounds_in}
use Rattle.census_lines.specs.Printed.{wrong}
use Rattle.census_lines.proofs.Told.{replied, replied_wrong}
use Rattle.census_lines.proofs.reply.answer_input.Goals as goal

pub returns-then-out-lt-MOST : goal.returns-then-out-lt-MOST
returns-then-out-lt-MOST c = record {
  puts = rw (lt-ltb _ _ c.if-out-lt-MOST.true) (nothing_put 0 c.args.out.now);
  upper_bound = omega arith;
}

pub returns-in_default : goal.returns-in_default
unfolding wrong
returns-in_default c =
    let none = c.in_default.ensures ∙ ap bounds_in c.first_line_end-end.ensures.input_value in
    record {
      puts = rw (le-ltb _ _ c.if-out-lt-MOST.false, ← replied_wrong _ none) c.put_text.ensures;
      upper_bound = omega (arith, c.put_text.ensures.place);
    }

pub returns : goal.returns
returns c =
    let put = c.put_reply.ensures in
    let asked = c.in-Some.ensures ∙ ap bounds_in c.first_line_end-end.ensures.input_value in
    record {
      puts = rw (le-ltb _ _ c.if-out-lt-MOST.false, ← replied _ c.in-Some.asked asked) put.puts;
      upper_bound = omega (arith, put.upper_bound);
    }
