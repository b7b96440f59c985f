use mathlib.Core.Path.{◌≡◌}
use mathlib.Core.List.{List}
use Prim.Native.Nat.{ℕ}
use native.Mathlib.Omega.{arith}
use lib.ListN.{drop}
use Rattle.utf8.specs.Utf8.{Utf8}
use Rattle.utf8.specs.Characters.{codes}
use Rattle.utf8.proofs.Utf8Laws.{boundary_start, utf8_sound}
use Rattle.measure.specs.Counted.{line_of}
use Rattle.measure.proofs.Blocks.{Fitting, line_fits, block_begins, block_at-end, block_ends, block_blank, block_content}
use Rattle.measure.proofs.block.block_scalar_len.Goals as goal
use Rattle.measure.proofs.block.block_scalar_len.Goals.{After-first_line-line, then-line-gt0+else-line-column, else-line-gt0}

-- a line was read; what stands there
module _ (c : After-first_line-line) where
  abbrev rest_now : List ℕ
  rest_now = c.args.rest.bytes.now

  abbrev at_now : ℕ
  at_now = c.loop-at.at

  rest_utf8 : Utf8 rest_now
  rest_utf8 = utf8_sound _ c.args.rest.utf8

  line_here : c.first_line-line.result ≡ line_of (codes (drop at_now rest_now))
  line_here = rw c.rest_from.ensures at c.first_line-line.ensures

  fits_here : Fitting rest_now at_now c.first_line-line.result
  fits_here = line_fits rest_utf8 (c.loop-at.invariant.place c.loop-at-test.true) line_here

pub overflow_add-at : goal.overflow_add-at
overflow_add-at c = let f = line_fits (utf8_sound _ c.args.rest.utf8) (boundary_start (utf8_sound _ c.args.rest.utf8)) c.first_line-first.ensures in omega arith

pub loop-at-init : goal.loop-at-init
loop-at-init c = block_begins c.args.column (utf8_sound _ c.args.rest.utf8) c.first_line-first.ensures

pub returns-then-line-column : goal.returns-then-line-column
returns-then-line-column c =
    block_ends (rest_utf8 (goal.at.returns-then-line-column c).After-first_line-line) c.loop-at.invariant c.loop-at-test.true (line_here (goal.at.returns-then-line-column c).After-first_line-line) c.if-line-gt0.true c.if-line-column.true

pub overflow_add-end : goal.overflow_add-end
overflow_add-end c = let f = fits_here (goal.at.overflow_add-end c).After-first_line-line in omega arith

pub overflow_add-at-in-loop-at : goal.overflow_add-at-in-loop-at
overflow_add-at-in-loop-at c = let f = fits_here (goal.at.overflow_add-at-in-loop-at c).After-first_line-line in omega arith

pub overflow_add-at-in-loop-at-2 : goal.overflow_add-at-in-loop-at-2
overflow_add-at-in-loop-at-2 c = let f = fits_here (goal.at.overflow_add-at-in-loop-at-2 c).After-first_line-line in omega arith

pub loop-at-preserved : goal.loop-at-preserved
loop-at-preserved c =
    let r = c.loop-at.invariant in
    let h = c.loop-at-test.true in
    let at = (goal.at.loop-at-preserved c).After-first_line-line in
    elim c.if-line-gt0.branch [
      | then-line-gt0+else-line-column w ↦ rw w.end-is (block_content (rest_utf8 at) r h (line_here at) w.if-line-gt0.true w.if-line-column.false)
      | else-line-gt0 w ↦ rw w.end-is (block_blank (rest_utf8 at) r h (line_here at) w.if-line-gt0.false)
    ]

pub returns : goal.returns
returns c = block_at-end c.loop-at.invariant c.loop-at-test.false
