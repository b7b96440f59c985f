use Rattle.std.proofs.Common.{refl, ◌+◌, arith, take, length-take}
use Rattle.text.specs.Starts.{starts}
use Rattle.text.proofs.Starts.{starts_next, starts_most}
use Rattle.text.proofs.offset.char_starts.Goals as goal

pub loop-b-init : goal.loop-b-init
unfolding starts
loop-b-init c = refl

pub overflow_add-n : goal.overflow_add-n
overflow_add-n c =
    let w = c.loop-b in
    let s = c.args.s.now in
    let e = starts_next s w.b-index c.loop-b-test.true in
    let m = starts_most (take (w.b-index + 1) s) in
    let l = length-take (w.b-index + 1) s in
    let n = w.invariant in
    let b = c.begun-n.ensures in
    omega arith

pub loop-b-preserved : goal.loop-b-preserved
loop-b-preserved c =
    let w = c.loop-b in
    let e = starts_next c.args.s.now w.b-index c.loop-b-test.true in
    let n = w.invariant in
    let b = c.begun-n.ensures in
    omega arith
