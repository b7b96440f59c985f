-- `node::marker::scan_error` meets its contract: the offsets of two indices in turn, of a text that is admitted.
use Rattle.std.proofs.Common.{arith}
use Rattle.text.proofs.OffsetLaws.{stands_start, cursor_stands}
use Rattle.node.proofs.Offsets.{offset_few}
use Rattle.node.proofs.marker.scan_error.Goals as goal

pub byte_offset_of_char-from-requires : goal.byte_offset_of_char-from-requires
byte_offset_of_char-from-requires c = stands_start c.in_ok-text.text.content.bytes.now

pub byte_offset_of_char-to-requires : goal.byte_offset_of_char-to-requires
byte_offset_of_char-to-requires c = rw c.byte_offset_of_char-from.ensures (cursor_stands c.in_ok-text.text.content.bytes.now _)

pub overflow_cast-result : goal.overflow_cast-result
overflow_cast-result c =
    let t = c.in_ok-text.text.content in
    omega (arith, offset_few t.bytes.now _ _ t.within t.utf8 c.byte_offset_of_char-from.ensures)

pub overflow_cast-result-2 : goal.overflow_cast-result-2
overflow_cast-result-2 c =
    let t = c.in_ok-text.text.content in
    omega (arith, offset_few t.bytes.now _ _ t.within t.utf8 c.byte_offset_of_char-to.ensures)
