-- `measure::block::block_scalar_len` meets its contract. The loop's invariant: the lines from `at` on reach as far as the whole block
-- does, and `end` is where the lines before it end. The measure is what is left.
use Prim.Native.Nat.{◌-◌}
use lib.ListN.{length}
use Rattle.measure.proofs.Blocks.{Measuring}
use Rattle.measure.proofs.block.block_scalar_len.Given as goal

abbrev pub invariant-loop-at : goal.invariant-loop-at
invariant-loop-at l = Measuring l.rest.bytes.now l.column l.at l.end

abbrev pub decreases-loop-at : goal.decreases-loop-at
decreases-loop-at l = length l.rest.bytes.now - l.at
