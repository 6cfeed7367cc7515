-- `answer_lines::put_tail` meets its contract: on code 0 the degree is below the number of entries.
use native.Mathlib.Omega.{arith}
use borrow.Author.Tests.{eq-eqb, ne_eqb}
use Rattle.text.specs.Text.{spaced}
use Rattle.answer_lines.specs.Printed.{tail_of}
use Rattle.text.proofs.Putting.{then}
use Rattle.answer_lines.proofs.put_tail.Goals as goal

pub overflow_add-count : goal.overflow_add-count
overflow_add-count c = omega (arith, c.requires.degree_in_bounds c.if-code-eq-DONE.true)

pub put_coefficients-p-requires : goal.put_coefficients-p-requires
put_coefficients-p-requires c =
    let h = c.requires.degree_in_bounds c.if-code-eq-DONE.true in
    (omega arith, omega arith)

pub put-requires : goal.put-requires
put-requires c =
    let h = c.requires.degree_in_bounds
    c.if-code-eq-DONE.true in
    omega (arith, c.put_coefficients-p.ensures.upper_bound)

pub returns-then-code-eq-DONE : goal.returns-then-code-eq-DONE
unfolding tail_of
returns-then-code-eq-DONE c =
    let h = c.requires.degree_in_bounds
    c.if-code-eq-DONE.true in
    let last = c.put.ensures in
    record {
      puts = rw (eq-eqb _ _ c.if-code-eq-DONE.true) (then c.put_coefficients-p.ensures.puts last);
      upper_bound = omega (arith, c.put_coefficients-p.ensures.upper_bound, last.place);
    }

pub returns : goal.returns
unfolding tail_of spaced
returns c =
    let last = c.put-2.ensures in
    record {
      puts = rw (ne_eqb _ _ c.if-code-eq-DONE.false) (last);
      upper_bound = omega (arith, last.place);
    }
