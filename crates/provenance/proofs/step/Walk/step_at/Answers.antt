-- `step_at` meets its contract: the four steps in turn, the first as the run tells it.
use Rattle.std.proofs.Common.{refl, ◌∙◌, drop, arith}
use lib.ListN.{drop_of_length-le}
use lib.Seq.{drop-cons}
use Rattle.style.specs.Style.{style_number, is_block}
use Rattle.provenance.specs.Grammar.{rules_of}
use Rattle.letters.proofs.Chunks.{part_is}
use Rattle.provenance.specs.EscapeLaws.{escape_nowhere}
use Rattle.provenance.proofs.Steps.{found, found_inside, step_break, step_escape, step_end, step_byte}
use Rattle.provenance.proofs.step.Walk.step_at.Goals as goal

pub break_step-requires-clause-bounds : goal.break_step-requires-clause-bounds
break_step-requires-clause-bounds c =
    let a = c.args in
    let h = c.if-run-gt0.true in
    let i = found_inside (is_block (style_number a.self.style)) a.self.src.now (drop a.v a.self.value.now) a.s a.run (c.requires.tells.fits h) h in
    (omega arith, omega arith)

pub break_step-requires-clause-run_value : goal.break_step-requires-clause-run_value
break_step-requires-clause-run_value c =
    let a = c.args in
    let h = c.if-run-gt0.true in
    (found (is_block (style_number a.self.style)) (drop a.s a.self.src.now) (drop a.v a.self.value.now) a.run (c.requires.tells.fits h) h).1

pub returns-then-run-gt0 : goal.returns-then-run-gt0
returns-then-run-gt0 c =
    let a = c.args in
    let h = c.if-run-gt0.true in
    step_break (rules_of (style_number a.self.style) a.self.column) (drop a.s a.self.src.now) (drop a.v a.self.value.now) a.run (c.requires.tells.fits h) h _ c.break_step.ensures

pub returns-then-self-s : goal.returns-then-self-s
returns-then-self-s c =
    let a = c.args in
    let z = c.requires.tells.falls (omega arith) in
    let n = drop_of_length-le a.self.src.now c.if-self-s.true in
    step_end (rules_of (style_number a.self.style) a.self.column) (drop a.s a.self.src.now) (drop a.v a.self.value.now) z _ refl (rw n (escape_nowhere (style_number a.self.style))) n _
    (rw (part_is a.self.value.now a.v) at c.end_step.ensures)

pub returns-in-Some : goal.returns-in-Some
returns-in-Some c =
    let a = c.args in
    let z = c.requires.tells.falls (omega arith) in
    step_escape (rules_of (style_number a.self.style) a.self.column) (drop a.s a.self.src.now) (drop a.v a.self.value.now) z _ _ (rw (part_is a.self.src.now a.s) at c.escape_of.ensures) c.in-Some.is

pub returns : goal.returns
returns c =
    let a = c.args in
    let z = c.requires.tells.falls (omega arith) in
    c.then_some.ensures
    ∙ step_byte (rules_of (style_number a.self.style) a.self.column) (drop a.s a.self.src.now) (drop a.v a.self.value.now) z _ (rw (part_is a.self.src.now a.s) at c.escape_of.ensures) c.in_default.is
    _ _ _ _ (drop-cons a.self.src.now a.s 0 c.if-self-s.false) (drop-cons a.self.value.now a.v 0 c.requires.v_in_bounds)
