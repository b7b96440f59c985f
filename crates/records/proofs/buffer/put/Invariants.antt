-- `put` meets its contract: the first i numbers are stored.
use Rattle.std.proofs.Common.{◌≡◌}
use lib.Seq.{paste}
use Rattle.records.proofs.buffer.put.Given as goal

abbrev pub invariant-loop-i : goal.invariant-loop-i
invariant-loop-i l = l.buffer ≡ paste l.initial.buffer l.at l.numbers l.i
