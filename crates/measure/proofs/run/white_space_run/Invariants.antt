-- `measure::run::white_space_run` meets its contract. The loop's invariant: what was counted and the run of the rest are the run of the
-- whole. The measure is what is left.
use Prim.Native.Nat.{◌-◌}
use lib.ListN.{length}
use Rattle.measure.proofs.Runs.{CountingRun}
use Rattle.measure.proofs.run.white_space_run.Given as goal

abbrev pub invariant-loop-c : goal.invariant-loop-c
invariant-loop-c l = CountingRun l.tail.bytes.now l.len l.newline

abbrev pub decreases-loop-c : goal.decreases-loop-c
decreases-loop-c l = length l.tail.bytes.now - l.len
