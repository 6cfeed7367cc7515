-- `stop_at` meets its contract: each test's code, and after the steps the kept half or zeros (Stopping). What is known
-- once the walk is made, and what `Stopping` takes, is named here once.
use Prim.Native.Nat.{ℕ, ◌+◌, ◌<◌, ◌≤◌}
use mathlib.Core.Path.{◌≡◌, ◌∙◌, ap}
use mathlib.Core.Bool.{false}
use mathlib.Core.List.{List}
use native.Mathlib.Omega.{arith}
use lib.IntN.{ℤ, pos, nat_abs}
use lib.ListN.{length}
use lib.Seq.{length-take-le}
use Rattle.definitions.specs.Numbers.{r_of}
use Rattle.definitions.specs.Steps.{below_one}
use Rattle.definitions.specs.KeptHalf.{half_degree}
use Rattle.definitions.specs.Requests.{divisors_due}
use Rattle.step_laws.specs.Machine.{seen, below_one_lem}
use Rattle.step_laws.specs.WorkingLimit.{Workable, read_limit}
use Rattle.index.proofs.Laws.{parts_few}
use Rattle.std.specs.Prelude.{Result, Ok, Err}
use Rattle.kept_half.specs.Halves.{KeptHalfIs, Over}
use Rattle.kept_half.specs.declared.Ran.{Ran}
use Rattle.kept_half.proofs.Walked as Walked
use Rattle.partial.proofs.Stopping as Stopping
use Rattle.partial.proofs.stop.stop_at.Goals as goal
use Rattle.partial.proofs.stop.stop_at.Goals.{After-over-walk, Else-w-lt1, Start}

module _ (q : After-over-walk) where
  abbrev start : Start
  start = q.before.before

  abbrev kind : ℕ
  kind = start.args.kind

  abbrev n : ℕ
  n = start.args.n

  d_is : q.half_degree-d.result ≡ half_degree kind (r_of n)
  d_is = Walked.half_is kind n start.args.parts start.requires _ q.half_degree-d.ensures

  due_is : q.over-walk.result.due ≡ divisors_due (r_of n)
  due_is = Walked.walk_due kind n start.args.parts start.requires q.over-walk.result q.over-walk.ensures

  abbrev D : ℕ
  D = q.half_degree-d.result

  abbrev old : List ℤ
  old = start.args.buf.now

  -- no more divisors are asked for than are due, and there is room for D + 1 entries
  module _ (few : start.args.j ≤ q.over-walk.result.due) where
    few_due : start.args.j ≤ divisors_due (r_of n)
    few_due = omega (arith, due_is)

    module _ (room : D < length old) where
      part_length : length (lib.ListN.take (D + 1) old) ≡ D + 1
      part_length = length-take-le (D + 1) old (omega arith)

pub over-walk-requires : goal.over-walk-requires
over-walk-requires c = let p = c in parts_few p.args.n p.args.parts p.requires.parts p.requires.good

pub returns-then-walk-j : goal.returns-then-walk-j
returns-then-walk-j c = let q = (goal.at.returns-then-walk-j c).After-over-walk in
    let s = Stopping.too_many (kind q) (n q) (start q).args.j (start q).args.w _ (start q).requires (old q) _ (d_is q)
    (omega (arith, due_is q)) in record {
      value = c.of.ensures ∙ s.0;
      buf_after = s.1;
    }

pub returns-then-w-lt1 : goal.returns-then-w-lt1
returns-then-w-lt1 c = let q = (goal.at.returns-then-w-lt1 c).After-over-walk in
    let s = Stopping.too_low (kind q) (n q) (start q).args.j (start q).args.w _ (start q).requires (old q) _ (d_is q)
    (few_due q (omega arith)) (below_one_lem (start q).args.w (start q).ranges.w c.if-w-lt1.true) in record {
      value = c.of-then-w-lt1.ensures ∙ s.0;
      buf_after = s.1;
    }

-- the working limit is good
module _ (e : Else-w-lt1) where
  abbrev walked : After-over-walk
  walked = e.before.before.before

  abbrev w : ℤ
  w = (start walked).args.w

  good : below_one w ≡ false
  good = below_one_lem w (start walked).ranges.w e.if-w-lt1.false

  limit : {m : ℕ} → m ≡ nat_abs (seen w) → (m ≡ nat_abs w) × (pos m ≡ w) × Workable m
  limit = read_limit w (start walked).ranges.w good

pub returns-then-buf-d : goal.returns-then-buf-d
returns-then-buf-d c = let e = (goal.at.returns-then-buf-d c).Else-w-lt1 in
    let q = walked e in
    let s = Stopping.too_short (kind q) (n q) (start q).args.j (w e) _ (start q).requires (old q) _ (d_is q)
    (few_due q (omega arith)) (good e) (omega arith) in record {
      value = c.of-then-buf-d.ensures ∙ s.0;
      buf_after = s.1;
    }

pub make_kept_half-requires-clause-walk_at_start : goal.make_kept_half-requires-clause-walk_at_start
make_kept_half-requires-clause-walk_at_start c =
    let q = walked (goal.at.make_kept_half-requires-clause-walk_at_start c).Else-w-lt1 in
    Walked.fresh_half (kind q) (n q) _ (start q).requires q.over-walk.result q.over-walk.ensures _ _
    (part_length q (omega arith) (omega arith) ∙ ap (λ k. k + 1) (d_is q)) (few_due q (omega arith))

-- what the steps came to is what n's come to
of_n : (q : After-over-walk) (limit : ℕ) (m : List ℤ) (h : Result Ran Over)
    → KeptHalfIs limit (kind q) q.over-walk.result.r (start q).args.j m h
    → KeptHalfIs limit (kind q) (r_of (n q)) (start q).args.j m h
of_n q = Walked.of_r (kind q) (n q) (start q).args.parts (start q).requires q.over-walk.result q.over-walk.ensures _

pub returns-in-Ok : goal.returns-in-Ok
returns-in-Ok c =
    let e = (goal.at.returns-in-Ok c).Else-w-lt1 in
    let q = walked e in
    let s = Stopping.made_done (kind q) (n q) (start q).args.j (w e) _ (start q).requires (old q) _ (d_is q)
    (few_due q (omega arith)) (good e) (omega arith) _ (limit e c.unsigned_abs.ensures.value).0
    (of_n q _ _ (Ok c.in-Ok.ran) c.in-Ok.ensures) in record { value = s.0; buf_after = s.1 }

pub returns-in-Err : goal.returns-in-Err
returns-in-Err c =
    let e = (goal.at.returns-in-Err c).Else-w-lt1 in
    let q = walked e in
    let s = Stopping.made_over_lem (kind q) (n q) (start q).args.j (w e) _ (start q).requires (old q) _ (d_is q)
    (few_due q (omega arith)) (good e) (omega arith) _ (limit e c.unsigned_abs.ensures.value).0
    (of_n q _ _ (Err _) c.in-Err.ensures) in record {
      value = c.of-in-Err.ensures ∙ s.0;
      buf_after = s.1;
    }
