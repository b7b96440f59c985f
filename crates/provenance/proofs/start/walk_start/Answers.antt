use Rattle.std.proofs.Common.{◌≤◌, length, length-drop, drop, arith}
use Rattle.letters.proofs.Chunks.{part_is}
use Rattle.provenance.specs.Start.{header_end}
use Rattle.provenance.specs.RunLaws.{header_within}
use Rattle.provenance.proofs.start.walk_start.Goals as goal

pub overflow_add-result-then-at_empty_block_header : goal.overflow_add-result-then-at_empty_block_header
overflow_add-result-then-at_empty_block_header c =
    let a = c.args in
    let d = length-drop a.start a.text.now in
    let e = rw (part_is a.text.now a.start) at c.header_end.ensures in
    let w : header_end (drop a.start a.text.now) a.len ≤ length (drop a.start a.text.now) = header_within (drop a.start a.text.now) a.len (omega arith) in
    omega arith
