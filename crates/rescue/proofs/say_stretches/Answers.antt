-- `rescue::say_stretches` is safe and ends. What it hands over at each turn are the two numbers of the next stretch.
use Rattle.std.proofs.Common.{◌≡◌, ℕ, ◌+◌, ◌*◌, ◌<◌, List, length, get_or, sym, ap, ◌∙◌, arith}
use lib.Seq.{length-take-le, get_or-take}
use Rattle.rescuing.specs.Rescue.{listed}
use Rattle.rescue.proofs.say_stretches.Goals as goal

pub say_stretch-requires : goal.say_stretch-requires
say_stretch-requires c =
    let a = c.args in
    let all = c.requires.list_value in
    let long : length (listed a.shelf.now) ≡ 2 * a.count =
    ap length (sym all) ∙ length-take-le (2 * a.count) a.list.now c.requires.count_in_bounds in
    let at : (k : ℕ) → k < 2 * a.count → get_or a.list.now k 0 ≡ get_or (listed a.shelf.now) k 0 =
    λ k h. sym (get_or-take (2 * a.count) a.list.now k 0 h) ∙ ap (λ (l : List ℕ). get_or l k 0) all in
    record {
      skipped = omega (arith, long);
      starts = at (2 * c.loop-i.i) (omega arith);
      spans = at (2 * c.loop-i.i + 1) (omega arith);
    }
