-- `fill`: the entries from n to b hold their heights, and the additions are those of the indices from n to b; one index
-- more is measured in the entries before it, and its height takes the entry in front of those.
use Rattle.std.proofs.Common.{◌≡◌, ℕ, suc, ◌+◌, ◌*◌, ◌-◌, ◌<◌, ◌≤◌, length, take, drop, set, pos, w64, to_z, arith}
use Rattle.std.proofs.Common.{sym, ◌∙◌, ap, ap₂, subst}
use Rattle.std.proofs.Math.Nat as NatL
use mir.Facts.{to_z_pos}
use Rattle.definitions.specs.Steps.{largest}
use Rattle.definitions.specs.Answer.{height, additions_for}
use Rattle.never_over.proofs.Heights.{height_fits}
use Rattle.counting.specs.Census.{from_to, all_additions}
use Rattle.counting.specs.Passes.{heights_of}
use Rattle.counting.proofs.Indices.{from_none, from_more, heights_none, filled_more}
use Rattle.counting.proofs.Indices.{additions-none, additions_more, additions-few, additions_small}
use Rattle.counting.proofs.filling.fill.Goals as goal
use Rattle.counting.proofs.filling.fill.Goals.{After-measure-measured}

pub loop-n-init : goal.loop-n-init
loop-n-init c =
    let after : c.args.b + 1 ≡ suc c.args.b = omega arith in
    let none = ap (λ n. from_to n c.args.b) after ∙ from_none c.args.b in
    let no : suc c.args.b - (c.args.b + 1) ≡ 0 = omega arith in (
      omega (arith, c.requires.1),
      sym (ap all_additions none ∙ additions-none),
      ap (λ k. take k (drop (c.args.b + 1) c.args.work.now)) no ∙ sym (ap heights_of none ∙ heights_none),
    )

-- what an index measured, at its turn
module _ (c : After-measure-measured) where
  abbrev n : ℕ
  n = c.loop-n.n - 1

  low : 0 < n
  low = omega (arith, c.requires.0)

  small : height 1 n ≤ largest
  small = height_fits n low (omega (arith, c.requires.2)) 1

  told : c.measure-measured.result.height ≡ height 1 n
  told = ap (λ r. r.height) c.measure-measured.ensures.value

  value : to_z w64 c.measure-measured.result.height ≡ pos (height 1 n)
  value = ap (to_z w64) told ∙ to_z_pos w64 (omega (arith, small))

  again : suc n ≡ c.loop-n.n
  again = omega arith

  added : c.measure-measured.result.additions ≡ additions_for 1 n
  added = ap (λ r. r.additions) c.measure-measured.ensures.value

  -- the additions so far
  all-few : all_additions (from_to c.loop-n.n c.args.b) ≤ 4096 * 2097152
  unfolding from_to
  all-few =
      let most : suc c.args.b - c.loop-n.n ≤ 4096 = omega (arith, c.requires.2) in
      NatL.le_trans
      (additions_small c.loop-n.n (suc c.args.b - c.loop-n.n) (omega arith) (omega (arith, c.requires.2)))
      (NatL.mul-le-mul_right 2097152 most)

pub overflow_cast-work : goal.overflow_cast-work
overflow_cast-work c =
    let m = (goal.at.overflow_cast-work c).After-measure-measured in record { sfits = omega (arith, told m, small m) }

pub overflow_add-additions : goal.overflow_add-additions
overflow_add-additions c =
    let m = (goal.at.overflow_add-additions c).After-measure-measured in
    record {
      fits = omega (
        arith,
        added m,
        c.loop-n.invariant.1,
        additions-few (n m) (low m) (omega (arith, c.requires.2)),
        all-few m,
      );
    }

pub loop-n-preserved : goal.loop-n-preserved
loop-n-preserved c =
    let m = (goal.at.loop-n-preserved c).After-measure-measured in
    let l = c.loop-n in
    let made = c.measure-measured in
    let order : n m ≤ c.args.b = omega arith in
    let inside : n m < length made.new.work = omega (arith, made.ensures.work_len_unchanged, c.requires.3) in
    let one = from_more (n m) c.args.b order in (
      omega arith,
      NatL.add_comm l.additions made.result.additions
          ∙ (ap₂ ◌+◌ (added m) (l.invariant.1 ∙ ap (λ k. all_additions (from_to k c.args.b)) (sym (again m)))
          ∙ sym (ap all_additions one ∙ additions_more (n m) _)),
      ap (λ v. take (suc c.args.b - n m) (drop (n m) (set made.new.work (n m) v))) (value m)
          ∙ filled_more made.new.work l.work (n m) c.args.b order inside made.ensures.work_unchanged
          (subst (λ k. take (suc c.args.b - k) (drop k l.work) ≡ heights_of (from_to k c.args.b)) (sym (again m))
          l.invariant.2),
    )

pub returns : goal.returns
returns c =
    let all : c.loop-n.n ≡ c.args.a = omega (arith, c.loop-n.invariant.0) in
    record {
      value = rw all at c.loop-n.invariant.1;
      work_len_unchanged = c.loop-n.auto.work;
      work_after = rw all at c.loop-n.invariant.2;
    }
