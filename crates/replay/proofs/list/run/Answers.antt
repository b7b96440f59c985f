use Rattle.replay.specs.TallyLaws.{fewer_left}
use Rattle.replay.proofs.list.run.Goals as goal

pub loop-tally-smaller : goal.loop-tally-smaller
loop-tally-smaller g c = fewer_left _ _ c.after.ensures c.loop-tally-test.true
