-- `event::number::number_at` meets its contract. The loop's invariant: `n` is the number in the bytes so far.
use Rattle.std.proofs.Common.{◌≡◌}
use Rattle.event.specs.Number.{number_at}
use Rattle.event.proofs.number.number_at.Given as goal

abbrev pub invariant-loop-byte : goal.invariant-loop-byte
invariant-loop-byte l = l.n ≡ number_at l.events l.at l.byte-index
