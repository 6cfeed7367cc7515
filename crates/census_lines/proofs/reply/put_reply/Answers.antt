-- `census_lines::reply::put_reply` meets its contract: what the census answers and leaves is what is printed (`Told`).
use Prim.Native.Nat.{◌≤◌}
use mathlib.Core.Path.{◌≡◌}
use native.Mathlib.Omega.{arith}
use Rattle.definitions.specs.Codes.{DONE}
use Rattle.text.proofs.Putting.{then}
use Rattle.census_lines.proofs.Told.{refused, few, delivered}
use Rattle.census_lines.proofs.reply.put_reply.Goals as goal
use Rattle.census_lines.proofs.reply.put_reply.Goals.{After-census-counted}

pub returns-then-code-ne-DONE : goal.returns-then-code-ne-DONE
returns-then-code-ne-DONE c =
    let counted = c.census-counted in record {
      puts = rw (← refused c.args.a c.args.b c.args.rows.now _ counted.result c.requires.0 c.requires.1
          counted.ensures.answer c.if-code-ne-DONE.true) c.put_refusal.ensures.puts;
      upper_bound = omega (arith, c.put_refusal.ensures.upper_bound);
    }

-- on code 0 there are at most 64 rows
few_rows : (c : After-census-counted) → c.census-counted.result.code ≡ DONE → c.census-counted.result.rows ≤ 64
few_rows c done =
    let s = c in
    few s.args.a s.args.b s.args.rows.now _ c.census-counted.result s.requires.0 s.requires.1
    c.census-counted.ensures.answer done

pub put_rows-requires : goal.put_rows-requires
put_rows-requires c =
    let counted = (goal.at.put_rows-requires c).After-census-counted in
    let small = few_rows counted c.if-code-ne-DONE.false in
    let s = c in (
      omega (arith, c.census-counted.auto.rows, s.requires.0),
      omega (
        arith,
        c.put_heading-p.auto.out,
        s.requires.2,
        c.put_heading-p.ensures.upper_bound,
      ),
    )

pub returns : goal.returns
returns c =
    let counted = (goal.at.returns c).After-census-counted in
    let done = c.if-code-ne-DONE.false in record {
      puts = rw (← delivered c.args.a c.args.b c.args.rows.now _ c.census-counted.result c.requires.0 c.requires.1
          c.census-counted.ensures.answer done _ c.census-counted.ensures.leaves)
          (then c.put_heading-p.ensures.puts c.put_rows.ensures.puts);
      upper_bound = omega (arith, few_rows counted done, c.put_heading-p.ensures.upper_bound, c.put_rows.ensures.upper_bound);
    }
