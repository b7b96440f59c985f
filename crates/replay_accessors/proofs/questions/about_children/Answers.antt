use Rattle.std.proofs.Common.{◌≡◌, ◌-◌, min, arith}
use Rattle.replay_accessors.proofs.questions.about_children.Goals as goal

pub returns : goal.returns
returns c =
    let count = c.len_or_zero-count.result in
    let down = c.loop-i.invariant.0 in
    let asked : count - c.loop-i.i ≡ min count c.args.limit = omega arith in
    rw (c.loop-i.invariant.1, asked, c.at_index.ensures, c.len_or_zero-count.ensures)
