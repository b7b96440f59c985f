-- `quarto_yaml_scalar` is `scalar` in 32 bits: its counts are 1 and what is let in of pieces.
use Rattle.std.proofs.Common.{ap, arith, length}
use Rattle.records.specs.Layout.{piece_limit}
use Rattle.records.specs.Record.{node_numbers}
use Rattle.spans.specs.Scalar.{mark}
use Rattle.parser.proofs.BoundLaws.{scalar_bounded}
use Rattle.quarto_yaml.proofs.Rows.{told_fits}
use Rattle.quarto_yaml.specs.Answer.{three, scalar_outcome}
use Rattle.quarto_yaml.proofs.build.quarto_yaml_scalar.Goals as goal

pub overflow_cast-result : goal.overflow_cast-result
overflow_cast-result c =
    let a = c.args in
    let f =
    told_fits 1 piece_limit (scalar_outcome a.text.now a.index a.column a.style a.empty_span a.value.now a.pieces.now) _ (omega arith) (omega arith)
    (scalar_bounded a.text.now (mark a.index a.column a.style a.empty_span) a.value.now (length a.pieces.now))
    c.scalar.ensures.answer
    in
    let h = rw c.in-Ok.is at f in
    record { fits = omega arith }

pub returns-in-Err : goal.returns-in-Err
unfolding node_numbers
returns-in-Err c =
    let told = c.in-Err.ensures in
    record { answer = rw c.into-in-Err.ensures (ap three told.answer); one_record = ap node_numbers told.one_record; all_pieces = told.all_pieces }
