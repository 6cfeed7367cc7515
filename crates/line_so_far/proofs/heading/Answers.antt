-- `line_so_far::heading` meets its contract: nothing, or the text that the constant holds.
use Rattle.std.proofs.Common.{arith, le-ltb, lt-ltb}
use Rattle.line_so_far.specs.Heading.{heading}
use Rattle.text.proofs.Putting.{nothing_put}
use Rattle.line_so_far.proofs.heading.Goals as goal

pub returns-then-out-lt12 : goal.returns-then-out-lt12
returns-then-out-lt12 c = record {
  puts = rw (lt-ltb _ 12 c.if-out-lt12.true) (nothing_put 0 c.args.out.now);
  upper_bound = omega arith;
}

pub returns : goal.returns
unfolding heading
returns c =
    let put = c.put_text.ensures in
    record {
      puts = rw (le-ltb _ 12 c.if-out-lt12.false) (put);
      upper_bound = omega (arith, put.place);
    }
