-- `replay::stream::read_full` meets its contract and ends: each turn reads a byte at least. The loop's invariant: what was read lies within the
-- buffer, and stands in its first bytes. The measure is the room that is left.
use Rattle.std.proofs.Common.{◌-◌, ◌≤◌, length, take}
use Rattle.std.specs.Io.KnownBytes.{Consumes}
use Rattle.replay.proofs.stream.read_full.Given as goal

abbrev pub invariant-loop-done : goal.invariant-loop-done
invariant-loop-done g l =
    (l.done ≤ length l.buffer) × Consumes (g.R.Read.remaining l.initial.list) (g.R.Read.remaining l.list) (take l.done l.buffer)

abbrev pub decreases-loop-done : goal.decreases-loop-done
decreases-loop-done g l = length l.buffer - l.done
