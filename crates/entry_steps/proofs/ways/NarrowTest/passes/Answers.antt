-- `Narrow`'s test meets its contract: the value of small numbers can be taken.
use Rattle.step_laws.specs.Machine.{seen_both, range_fits}
use Rattle.entry_steps.specs.Sorts.{sort_means}
use Rattle.entry_steps.specs.Passes.{new_value}
use Rattle.entry_steps.proofs.Values.{small_in_range}
use Rattle.entry_steps.proofs.ways.NarrowTest.passes.Goals as goal

pub new_value-v-requires : goal.new_value-v-requires
new_value-v-requires c =
    let p = c.args in
    let s = sort_means p.sort in
    let small = c.requires.1 in
    rw (seen_both c.ranges.x c.ranges.y (new_value s)) (range_fits _ (small_in_range s p.x p.y small.0 small.1))
