-- `one_scalar` meets its contract: the machine's scalar from the empty state, by what its walk answers.
use mathlib.Core.Path.{ap}
use lib.ListN.{length}
use Rattle.utf8.proofs.Utf8Laws.{utf8_sound}
use Rattle.spans.specs.Scalar.{mark_of}
use Rattle.text.proofs.OffsetLaws.{stands_start}
use Rattle.parser.proofs.Starts.{cursor_offset, cursor_boundary}
use Rattle.parser.proofs.Wholes.{alone_counted, one_told}
use Rattle.parser.proofs.one.one_scalar.Goals as goal

pub byte_offset_of_char-cursor-requires : goal.byte_offset_of_char-cursor-requires
byte_offset_of_char-cursor-requires c = stands_start c.args.text.content.bytes.now

pub invariant_of-start : goal.invariant_of-start
invariant_of-start c = record { boundary = cursor_boundary (utf8_sound _ c.args.text.content.utf8) c.args.m.index _ c.byte_offset_of_char-cursor.ensures }

pub alone-requires : goal.alone-requires
alone-requires c =
    let x = c.walk_scalar in
    alone_counted (length c.args.pieces.now) c.requires.pieces_zero.1 x.new.pieces x.auto.pieces _ x.result.walked (ap (λ z. z.walked) x.ensures.value) x.ensures.pieces_after

pub returns : goal.returns
returns c =
    let a = c.args in
    let text = a.text.content.bytes.now in
    let cur = c.byte_offset_of_char-cursor in
    let e = cursor_offset text a.m.index cur.result cur.ensures in
    let r = c.resolve_scalar-resolved in
    let x = c.walk_scalar in
    rw c.alone.ensures
    (one_told (length a.pieces.now) c.requires.pieces_zero.1 x.new.pieces x.auto.pieces text (mark_of a.m) a.value.bytes.now cur.result.offset r.result x.result
    c.requires.style_known e r.ensures x.ensures.value x.ensures.pieces_after)
