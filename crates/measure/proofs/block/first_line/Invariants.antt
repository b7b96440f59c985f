-- `measure::block::first_line` meets its contract. The loop's invariant: what was counted and the line of the rest are the line of the
-- whole; as long as nothing but white space was met, all of it leads. The measure is what is left.
use Prim.Native.Nat.{◌-◌}
use lib.ListN.{length}
use Rattle.measure.proofs.Line.{CountingLine}
use Rattle.measure.proofs.block.first_line.Given as goal

abbrev pub invariant-loop-c : goal.invariant-loop-c
invariant-loop-c l = CountingLine l.tail l.lead l.trimmed l.len

abbrev pub decreases-loop-c : goal.decreases-loop-c
decreases-loop-c l = length l.tail - l.len
