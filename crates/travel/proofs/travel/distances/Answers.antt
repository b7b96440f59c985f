-- `travel::travel::distances` meets its contract: by one marker more, and at the end by none that is left.
use Rattle.std.proofs.Common.{arith}
use Rattle.travel.proofs.TravelLaws.{distances_at, distances_end}
use Rattle.travel.proofs.travel.distances.Goals as goal

pub loop-marker-preserved : goal.loop-marker-preserved
loop-marker-preserved c =
    let l = c.loop-marker in
    let p = l.invariant in
    let total = p.total in
    let inside = p.inside in
    let most = p.most in
    let index = c.min-index.ensures in
    let apart = c.abs_diff.ensures in
    let next = distances_at c.args.chars l.from c.args.markers.now l.marker-index c.loop-marker-test.true in
    record { total = rw index (omega arith); inside = omega arith; most = omega arith }

pub returns : goal.returns
returns c =
    let l = c.loop-marker in
    let total = l.invariant.total in
    let left = distances_end c.args.chars l.from c.args.markers.now l.marker-index c.loop-marker-test.false in
    omega arith
