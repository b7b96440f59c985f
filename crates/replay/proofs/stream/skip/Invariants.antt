-- `replay::stream::skip` is safe and ends: each turn reads a byte at least. The measure is what is left to read.
use Rattle.replay.proofs.stream.skip.Given as goal

abbrev pub decreases-loop-left : goal.decreases-loop-left
decreases-loop-left g l = l.left
