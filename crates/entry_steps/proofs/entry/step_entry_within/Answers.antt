-- `entry_steps::entry::step_entry_within` meets its contract: both entries fit, so they are as they were read, and a
-- value that is within w fits, so it is what is put.
use Prim.Native.Nat.{◌-◌}
use Rattle.std.proofs.Common.{rules, SFits, get_or}
use Rattle.std.specs.Int.{w64}
use Rattle.definitions.specs.Integers.{0ℤ}
use Rattle.definitions.specs.Steps.{entries}
use Rattle.step_laws.specs.Machine.{seen_both}
use Rattle.entry_steps.specs.Sorts.{sort_means}
use Rattle.entry_steps.specs.Passes.{new_value}
use Rattle.entry_steps.proofs.Values.{told, value_fits}
use Rattle.entry_steps.proofs.entry.step_entry_within.Goals as goal

pub returns-then-not-passes-clause-value : goal.returns-then-not-passes-clause-value
unfolding entries
returns-then-not-passes-clause-value g c =
    let p = c.args in
    let x : SFits w64 (get_or p.a.now p.i 0ℤ) = search rules in
    let y : SFits w64 (get_or p.a.now (p.i - p.d) 0ℤ) = search rules in
    (told x y (sort_means p.sort) p.w c.passes.ensures c.if-not-passes.true, x)

pub new_value-requires : goal.new_value-requires
new_value-requires g c =
    let p = c.args in
    let x : SFits w64 (get_or p.a.now p.i 0ℤ) = search rules in
    let y : SFits w64 (get_or p.a.now (p.i - p.d) 0ℤ) = search rules in
    let s = sort_means p.sort in
    rw (seen_both x y (new_value s))
    (value_fits c.requires.2 _ (told x y s p.w c.passes.ensures c.if-not-passes.false))

pub returns-clause-value : goal.returns-clause-value
unfolding entries
returns-clause-value g c =
    let p = c.args in
    let x : SFits w64 (get_or p.a.now p.i 0ℤ) = search rules in
    let y : SFits w64 (get_or p.a.now (p.i - p.d) 0ℤ) = search rules in
    (told x y (sort_means p.sort) p.w c.passes.ensures c.if-not-passes.false, x)
