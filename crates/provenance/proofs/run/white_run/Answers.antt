use Rattle.std.proofs.Common.{refl, sym, ap, ◌∙◌, ℕ, arith}
use Rattle.provenance.specs.Counted.{run_with}
use Rattle.provenance.proofs.Runs.{scan_begins, scan_ends, scan_stops, scan_newline, scan_other}
use Rattle.provenance.proofs.run.white_run.Goals as goal
use Rattle.provenance.proofs.run.white_run.Goals.{then-b-eq-NEWLINE, else-b-eq-NEWLINE}

pub loop-b-init : goal.loop-b-init
loop-b-init c = record { counted = refl; newlines = omega arith; so_far = scan_begins _ }

pub loop-b-preserved : goal.loop-b-preserved
loop-b-preserved c =
    let l = c.loop-b in
    let i = l.invariant in
    let fewer = i.newlines in
    let white = sym c.is_white_space_byte.ensures ∙ c.if-not-is_white_space_byte.false in
    elim c.if-b-eq-NEWLINE.branch [
      | then-b-eq-NEWLINE w ↦ rw (w.run-is, i.counted) (record { counted = refl; newlines = omega arith; so_far = sym (scan_newline _ l.b-index _ _ c.loop-b-test.true w.if-b-eq-NEWLINE.true) ∙ i.so_far })
      | else-b-eq-NEWLINE w ↦ rw (w.run-is, i.counted) (record { counted = refl; newlines = omega arith; so_far = sym (scan_other _ l.b-index _ _ c.loop-b-test.true white w.if-b-eq-NEWLINE.false) ∙ i.so_far })
    ]

pub returns-after-loop-b : goal.returns-after-loop-b
returns-after-loop-b c =
    let l = c.loop-b in
    ap (λ (n : ℕ). run_with n l.run.newlines l.run.last) l.invariant.counted ∙ sym (scan_ends _ l.b-index _ _ c.loop-b-test.false) ∙ l.invariant.so_far

pub returns-then-not-is_white_space_byte : goal.returns-then-not-is_white_space_byte
returns-then-not-is_white_space_byte c =
    let l = c.loop-b in
    ap (λ (n : ℕ). run_with n l.run.newlines l.run.last) l.invariant.counted
    ∙ sym (scan_stops _ l.b-index _ _ c.loop-b-test.true (sym c.is_white_space_byte.ensures ∙ c.if-not-is_white_space_byte.true))
    ∙ l.invariant.so_far
