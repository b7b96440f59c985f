use Rattle.std.proofs.Common.{sym, ◌∙◌, arith}
use Rattle.utf8.proofs.Utf8Laws.{CharAt, utf8_sound}
use Rattle.measure.proofs.Read.{some_read, none_read}
use Rattle.measure.proofs.Runs.{run_begins, run_at_end, counting_stops, counting_goes_on}
use Rattle.measure.proofs.run.white_space_run.Goals as goal
use Rattle.measure.proofs.run.white_space_run.Goals.{In-Some}

char_here : (c : In-Some) → CharAt c.args.tail.bytes.now c.loop-c.len c.in-Some.c
char_here c = some_read (utf8_sound _ c.args.tail.utf8) c.loop-c.invariant.boundary c.in-Some.ensures

pub loop-c-init : goal.loop-c-init
loop-c-init c = run_begins (utf8_sound _ c.args.tail.utf8)

pub overflow_add-len : goal.overflow_add-len
overflow_add-len c = let k = char_here (goal.at.overflow_add-len c).In-Some in omega arith

pub loop-c-smaller : goal.loop-c-smaller
loop-c-smaller c = let k = char_here (goal.at.loop-c-smaller c).In-Some in omega arith

pub loop-c-preserved : goal.loop-c-preserved
loop-c-preserved c = counting_goes_on c.loop-c.invariant (char_here (goal.at.loop-c-preserved c).In-Some) (sym c.is_white_space.ensures ∙ c.if-not-is_white_space.false)

pub returns-then-not-is_white_space : goal.returns-then-not-is_white_space
returns-then-not-is_white_space c = counting_stops c.loop-c.invariant (char_here (goal.at.returns-then-not-is_white_space c).In-Some) (sym c.is_white_space.ensures ∙ c.if-not-is_white_space.true)

pub returns-in_default : goal.returns-in_default
returns-in_default c = run_at_end c.loop-c.invariant (none_read (utf8_sound _ c.args.tail.utf8) c.loop-c.invariant.boundary c.in_default.ensures)
