-- `on_end` meets its contract: rows 4 and 7 by the innermost collection and the counts; then that collection's record is complete.
use mathlib.Core.Path.{sym, ◌∙◌}
use Prim.Native.Nat.{◌/◌, ◌<◌}
use native.Mathlib.Omega.{arith}
use borrow.Author.Tests.{leb-false}
use lib.ListN.{length}
use Rattle.records.specs.Record.{record_width}
use Rattle.utf8.proofs.Utf8Laws.{utf8_sound}
use Rattle.text.proofs.OffsetLaws.{cursor_stands}
use Rattle.spans.proofs.SpanLaws.{collection_node_boundary}
use Rattle.parser.proofs.Turns.{room_refused, in_room, matched, inner_on, inner_rooted, rooted_chain, popped, moved_on}
use Rattle.parser.proofs.Gates.{gate_open}
use Rattle.parser.proofs.Starts.{cursor_offset, cursor_within}
use Rattle.parser.proofs.on_event.Builder.on_end.Goals as goal

pub returns-in_err-within_room : goal.returns-in_err-within_room
returns-in_err-within_room c = λ pieces size pieces_size st h t.
    let a = c.args in
    rw (matched h c.in-Some.open _ c.in-Some.ensures _ a.index a.collection (sym c.closes_open.ensures ∙ c.if-not-closes_open.false))
    (room_refused h _ _ _ (sym c.within_room.ensures ∙ c.in_err-within_room.was) c.from_residual.ensures.1 _ _ _)

pub collection_node-x-requires-clause-at_in_bounds :
    goal.collection_node-x-requires-clause-at_in_bounds
collection_node-x-requires-clause-at_in_bounds c =
    let text = c.args.text.content in
    (cursor_within text.bytes.now c.args.index _ (utf8_sound _ text.utf8) text.within c.byte_offset_of_char-self.ensures).0

-- the trees since it was opened are its children, and there is room for its record
pub push_complete-requires-clause-chain : goal.push_complete-requires-clause-chain
push_complete-requires-clause-chain c =
    let h = c.requires.1.held in
    let a = c.args in
    let is = c.in-Some.ensures in
    let cur = c.byte_offset_of_char-self in
    let free : a.self.now.nodes < length a.records.now / record_width =
    leb-false _ _ (gate_open _ _ _ (sym c.within_room.ensures ∙ c.in_ok-within_room.was)) in
    let size = h.size_is in
    rooted_chain (popped h c.in-Some.open _ is cur.result (rw cur.ensures (cursor_stands a.text.content.bytes.now a.index))) _ _
    (inner_rooted h c.in-Some.open _ is cur.result.offset c.requires.1.nested) (omega arith)

pub returns : goal.returns
returns c = λ pieces size pieces_size st h t.
    let a = c.args in
    let text = a.text.content.bytes.now in
    let o = c.in-Some.open in
    let is = c.in-Some.ensures in
    let free = sym c.within_room.ensures ∙ c.in_ok-within_room.was in
    let cur = c.byte_offset_of_char-self in
    let e = cursor_offset text a.index cur.result cur.ensures in
    let on = inner_on h o _ is in
    let off = popped h o _ is cur.result (rw cur.ensures (cursor_stands text a.index)) in
    let x = c.collection_node-x.ensures in
    rw (matched h o _ is _ a.index a.collection (sym c.closes_open.ensures ∙ c.if-not-closes_open.false), in_room h _ _ free, ← e, ← x)
    (moved_on off _ _ _ _ (c.push_complete.ensures text size pieces_size _ pieces (rw x (collection_node_boundary text o cur.result.offset a.self.now.nodes on.0 on.1))
    (rw x (inner_rooted h o _ is cur.result.offset t)) off))
