-- `next_above`: nothing is above the bound; and the blocks that were passed over have no magnitude above h.
use Rattle.std.proofs.Common.{arith}
use Rattle.std.proofs.Math.Nat.{le_trans}
use Rattle.definitions.specs.Steps.{entries}
use Rattle.heights.proofs.Looks.{none_join}
use Rattle.peaks.proofs.Blocks.{block_bounded, block_passed}
use Rattle.peaks.proofs.next_above.Goals as goal

pub returns-then-h-bound : goal.returns-then-h-bound
unfolding entries
returns-then-h-bound c = record {
  later = omega arith;
  inside = omega arith;
  passed = record { low = λ k a b. omega (arith, c.requires.bounded k) };
  larger = λ l. omega arith;
}

pub none_in_block-requires : goal.none_in_block-requires
none_in_block-requires c =
    let cut = c.as_chunks.ensures in
    let low = block_bounded c.args.coeffs.now c.args.from _ _ cut.front c.loop-k.k (omega arith) c.args.bound
    c.requires.bounded in
    (omega arith, λ i. le_trans (low i) c.requires.from_in_bounds.2)

pub loop-k-preserved : goal.loop-k-preserved
loop-k-preserved c =
    let cut = c.as_chunks.ensures in
    none_join c.loop-k.invariant
    (block_passed c.args.coeffs.now c.args.from _ _ cut.front c.loop-k.k (omega arith) c.args.h
    (c.none_in_block.ensures c.if-not-none_in_block.false))
