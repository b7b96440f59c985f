use Rattle.std.proofs.Common.{arith, sym, ◌∙◌}
use Rattle.utf8.proofs.SomeChar.{some_ends_within, some_advances, utf8_after, utf8_at_none}
use Rattle.utf8.proofs.utf8.is_utf8_by_characters.Goals as goal

pub overflow_add-i : goal.overflow_add-i
overflow_add-i c = let within = some_ends_within c.args.s.now c.loop-c.i (sym c.in-Some.is ∙ c.first_char.ensures) in omega arith

pub loop-c-smaller : goal.loop-c-smaller
loop-c-smaller c =
    let read = sym c.in-Some.is ∙ c.first_char.ensures in
    let within = some_ends_within c.args.s.now c.loop-c.i read in
    let more = some_advances c.args.s.now c.loop-c.i read in
    omega arith

pub loop-c-preserved : goal.loop-c-preserved
loop-c-preserved c =
    let read = sym c.in-Some.is ∙ c.first_char.ensures in
    (some_ends_within c.args.s.now c.loop-c.i read, utf8_after c.args.s.now c.loop-c.i read ∙ c.loop-c.invariant.1)

pub returns : goal.returns
returns c = utf8_at_none c.args.s.now c.loop-c.i c.loop-c.invariant.0 (sym c.in_default.is ∙ c.first_char.ensures) ∙ c.loop-c.invariant.1
