-- `rescue`: the answer and what is left, by the code (Codes).
use mathlib.Core.Path.{◌≡◌, sym, ◌∙◌, ap}
use mathlib.Core.Bool.{false}
use lib.ListN.{length}
use Rattle.definitions.specs.Codes.{DONE}
use Rattle.definitions.specs.Requests.{zeros}
use Rattle.rescuing.specs.Rescue.{rescue_code}
use Rattle.rescuing.proofs.Codes.{refused, done_code, delivered}
use Rattle.rescuing.proofs.rescue.Goals as goal
use Rattle.rescuing.proofs.rescue.Goals.{After-is_short}

-- it is not SHORT, so the code is 0
done : (asked : After-is_short) → asked.is_short.result ≡ false →
    let a = asked.args in
    rescue_code a.shelf.now (length a.out.now) (length a.list.now) (length a.coeffs.now) ≡ DONE
done asked e =
    let a = asked.args in
    done_code a.shelf.now a.out.now a.list.now (length a.coeffs.now)
    (sym e ∙ asked.is_short.ensures.value)

pub returns-then-is_short : goal.returns-then-is_short
returns-then-is_short c =
    let asked = c in
    let a = asked.args in
    let r = refused a.shelf.now a.out.now a.list.now (length a.coeffs.now)
    (sym c.if-is_short.true ∙ asked.is_short.ensures.value) in
    record {
      answer = rw c.from.ensures r.0;
      leaves = r.1;
      lists = r.2;
      clears = c.clear.ensures ∙ ap zeros asked.is_short.ensures.coeffs_len_unchanged;
    }

pub write_all-written-requires : goal.write_all-written-requires
write_all-written-requires c =
    let asked = (goal.at.write_all-written-requires c).After-is_short in
    rw asked.is_short.ensures.coeffs_len_unchanged (done asked c.if-is_short.false)

pub returns : goal.returns
returns c =
    let w = c in
    let asked = (goal.at.returns c).After-is_short in
    let a = asked.args in
    let e = w.write_all-written.ensures in
    let r = delivered a.shelf.now a.out.now a.list.now (length a.coeffs.now)
    (done asked w.if-is_short.false) _ _ _ _ e.kept_value.0 e.kept_value.1 e.out_after e.list_after in
    record {
      answer = r.0;
      leaves = r.1;
      lists = r.2;
      clears = c.clear-2.ensures ∙ ap zeros (e.coeffs_len_unchanged ∙ asked.is_short.ensures.coeffs_len_unchanged);
    }
