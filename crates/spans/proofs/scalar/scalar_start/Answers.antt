-- `scalar_start` meets its contract: past a colon stands a boundary too.
use Rattle.std.proofs.Common.{arith}
use Rattle.utf8.proofs.Utf8Laws.{utf8_sound}
use Rattle.spans.specs.Scalar.{colon}
use Rattle.spans.proofs.SpanLaws.{step_boundary}
use Rattle.spans.proofs.scalar.scalar_start.Goals as goal
use Rattle.spans.proofs.scalar.scalar_start.Goals.{then-awaited+then-eq+then-is_empty, else-awaited}

pub invariant_of-at : goal.invariant_of-at
invariant_of-at c =
    let a = c.args.at in
    elim c.if-awaited.branch [
      | then-awaited+then-eq+then-is_empty w ↦
          let on = step_boundary a.text.bytes.now colon a.at (utf8_sound _ a.text.utf8) (omega arith) (omega arith) a.boundary in
          rw w.result-is (record { boundary = rw w.step_past.ensures on })
      | else-awaited w ↦ rw w.result-is (record { boundary = a.boundary })
    ]
