-- `provenance::scalar::scalar_provenance` meets its contract: the rest of the text is handed on where the walk can start.
use mathlib.Core.Path.{sym, ◌∙◌}
use native.Mathlib.Omega.{arith}
use lib.ListN.{length, length-drop}
use Rattle.utf8.proofs.Utf8Laws.{is_boundary_lem}
use Rattle.letters.proofs.Chunks.{part_is}
use Rattle.provenance.specs.NumberLaws.{any_number}
use Rattle.provenance.proofs.Starts.{cannot_start, can_start}
use Rattle.provenance.proofs.scalar.scalar_provenance.Goals as goal

pub returns-then-not-is_boundary : goal.returns-then-not-is_boundary
returns-then-not-is_boundary c =
    let a = c.args in
    let e = cannot_start a.text.now a.start a.len a.value.now a.style a.column a.pieces.now c.requires.pieces_zero c.walk_start-first.result c.walk_start-first.ensures (sym c.is_boundary.ensures ∙ c.if-not-is_boundary.true) in
    record { value = e.0; pieces_after = e.1 }

pub slice_bounds-walk-count : goal.slice_bounds-walk-count
slice_bounds-walk-count c = let h = (is_boundary_lem (sym c.is_boundary.ensures ∙ c.if-not-is_boundary.false)).within in omega arith

pub slice_bounds-walk-start : goal.slice_bounds-walk-start
slice_bounds-walk-start c = let h = (is_boundary_lem (sym c.is_boundary.ensures ∙ c.if-not-is_boundary.false)).within in omega arith

pub walk_scalar_provenance-requires : goal.walk_scalar_provenance-requires
walk_scalar_provenance-requires c =
    let a = c.args in
    let h = (is_boundary_lem (sym c.is_boundary.ensures ∙ c.if-not-is_boundary.false)).within in
    let d = length-drop c.walk_start-first.result a.text.now in
    record { short = rw (part_is a.text.now c.walk_start-first.result) (omega arith, omega arith, omega arith); pieces_zero = c.requires.pieces_zero }

pub returns : goal.returns
returns c =
    let a = c.args in
    let w = c.walk_scalar_provenance in
    let p = part_is a.text.now c.walk_start-first.result in
    let n = any_number a.style a.column in
    let e = can_start a.text.now a.start a.len a.value.now a.style a.column (length a.pieces.now) c.walk_start-first.result c.walk_start-first.ensures (sym c.is_boundary.ensures ∙ c.if-not-is_boundary.false)
    w.result w.new.pieces (rw (p, c.of.ensures, ← n) at w.ensures.value, rw (p, c.of.ensures, ← n) at w.ensures.pieces_after) in
    record { value = e.0; pieces_after = e.1 }
