use mathlib.Core.Path.{sym, ◌∙◌}
use native.Mathlib.Omega.{arith}
use Rattle.utf8.proofs.Utf8Laws.{CharAt, utf8_sound}
use Rattle.measure.proofs.Read.{some_read, none_read}
use Rattle.measure.proofs.Line.{line_begins, line_at_end, line_stops, line_leads, line_spaces, line_goes_on, line_letters}
use Rattle.measure.proofs.block.first_line.Goals as goal
use Rattle.measure.proofs.block.first_line.Goals.{In-Some}

char_here : (c : In-Some) → CharAt c.args.tail.bytes.now c.loop-c.len c.in-Some.c
char_here c = some_read (utf8_sound _ c.args.tail.utf8) c.loop-c.invariant.boundary c.in-Some.ensures

pub loop-c-init : goal.loop-c-init
loop-c-init c = line_begins (utf8_sound _ c.args.tail.utf8)

pub returns-then-c-eq-NEWLINE : goal.returns-then-c-eq-NEWLINE
returns-then-c-eq-NEWLINE c = line_stops c.loop-c.invariant (char_here (goal.at.returns-then-c-eq-NEWLINE c).In-Some) c.if-c-eq-NEWLINE.true

pub overflow_add-len : goal.overflow_add-len
overflow_add-len c = let k = char_here (goal.at.overflow_add-len c).In-Some in omega arith

pub loop-c-smaller-then-trimmed-eq0 : goal.loop-c-smaller-then-trimmed-eq0
loop-c-smaller-then-trimmed-eq0 c = let k = char_here (goal.at.loop-c-smaller-then-trimmed-eq0 c).In-Some in omega arith

pub loop-c-preserved-then-trimmed-eq0 : goal.loop-c-preserved-then-trimmed-eq0
loop-c-preserved-then-trimmed-eq0 c =
    line_leads c.loop-c.invariant (char_here (goal.at.loop-c-preserved-then-trimmed-eq0 c).In-Some) c.if-c-eq-NEWLINE.false (sym c.is_white_space.ensures ∙ c.if-is_white_space.true) c.if-trimmed-eq0.true

pub loop-c-smaller-else-trimmed-eq0 : goal.loop-c-smaller-else-trimmed-eq0
loop-c-smaller-else-trimmed-eq0 c = let k = char_here (goal.at.loop-c-smaller-else-trimmed-eq0 c).In-Some in omega arith

pub loop-c-preserved-else-trimmed-eq0 : goal.loop-c-preserved-else-trimmed-eq0
loop-c-preserved-else-trimmed-eq0 c =
    line_spaces c.loop-c.invariant (char_here (goal.at.loop-c-preserved-else-trimmed-eq0 c).In-Some) c.if-c-eq-NEWLINE.false (sym c.is_white_space.ensures ∙ c.if-is_white_space.true) c.if-trimmed-eq0.false

pub letters-len-requires : goal.letters-len-requires
letters-len-requires c = let k = char_here (goal.at.letters-len-requires c).In-Some in (omega arith, omega arith)

pub loop-c-preserved : goal.loop-c-preserved
loop-c-preserved c =
    let k = char_here (goal.at.loop-c-preserved c).In-Some in
    let on = line_goes_on c.loop-c.invariant k c.if-c-eq-NEWLINE.false (sym c.is_white_space.ensures ∙ c.if-is_white_space.false) in
    line_letters (utf8_sound _ c.args.tail.utf8) (λ z. omega arith) on c.letters-len.ensures.letters

pub returns-in_default : goal.returns-in_default
returns-in_default c = line_at_end c.loop-c.invariant (none_read (utf8_sound _ c.args.tail.utf8) c.loop-c.invariant.boundary c.in_default.ensures)
