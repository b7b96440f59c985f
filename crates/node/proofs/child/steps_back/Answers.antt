use Rattle.std.proofs.Common.{◌≡◌, ◌-◌, ◌+◌, ◌∙◌, sym, arith}
use Rattle.node.proofs.Steps.{step_on}
use Rattle.node.proofs.child.steps_back.Goals as goal

pub loop-preserved : goal.loop-preserved
loop-preserved c =
    let n : c.args.k - (c.loop.counter + 1) ≡ c.args.k - c.loop.counter - 1 = omega arith in
    let s = step_on c.args.records.now (c.args.k - c.loop.counter) c.loop.at c.in_ok-at.at (omega arith) (sym c.in_ok-at.ensures) in
    rw n (sym s ∙ c.loop.invariant)
