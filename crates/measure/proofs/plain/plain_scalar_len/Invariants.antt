-- `measure::plain::plain_scalar_len` meets its contract. The outer loop's invariant: what is left of the value, matched with what is
-- left of the rest, reaches as far as the whole match does. The inner loop's: the character's bytes up to k are equal in both. The measure
-- is what is left of the value.
use Rattle.std.proofs.Common.{length, ◌-◌}
use Rattle.measure.proofs.Matches.{Equal, Matching}
use Rattle.measure.proofs.plain.plain_scalar_len.Given as goal

abbrev pub invariant-loop-k : goal.invariant-loop-k
invariant-loop-k l = Equal l.text l.at l.value l.v l.k

abbrev pub invariant-characters : goal.invariant-characters
invariant-characters l = Matching l.text l.value l.at l.end l.known l.v

abbrev pub decreases-characters : goal.decreases-characters
decreases-characters l = length l.value - l.v
