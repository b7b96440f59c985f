-- `break_run` meets its contract: a break opens only inside the source, where a byte is read as it stands.
use Rattle.std.proofs.Common.{◌<◌, ◌∙◌, length, arith}
use Rattle.style.specs.Style.{style_number, is_block}
use Rattle.provenance.proofs.Steps.{opens_inside, opens_told}
use Rattle.provenance.proofs.step.Walk.break_run.Goals as goal
use Rattle.provenance.proofs.step.Walk.break_run.Goals.{Then-opens_break}

inside : (c : Then-opens_break) → c.args.s < length c.args.self.src.now
inside c =
    let a = c.args in
    opens_inside (is_block (style_number a.self.style)) a.self.src.now a.s _
    (opens_told _ _ (is_block (style_number a.self.style)) _ _ _ _ c.opens_break.ensures c.is_block.ensures c.byte_at.ensures c.byte_at-then-known-s.ensures ∙ c.if-opens_break.true)

pub slice_bounds-white_run-count : goal.slice_bounds-white_run-count
slice_bounds-white_run-count c = let h = inside (goal.at.slice_bounds-white_run-count c).Then-opens_break in omega arith

pub slice_bounds-white_run-start : goal.slice_bounds-white_run-start
slice_bounds-white_run-start c = let h = inside (goal.at.slice_bounds-white_run-start c).Then-opens_break in omega arith
