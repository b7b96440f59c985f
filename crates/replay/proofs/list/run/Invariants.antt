-- `replay::list::run` ends: each turn leaves one fewer.
use Rattle.replay.proofs.list.run.Given as goal

abbrev pub decreases-loop-tally : goal.decreases-loop-tally
decreases-loop-tally g l = l.tally.left
