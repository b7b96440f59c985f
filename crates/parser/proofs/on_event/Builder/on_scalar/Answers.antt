-- `on_scalar` meets its contract: rows 5 and 7 by the counts; its record and its walk in the free part of the pieces are those of the
-- definitions, and the walk decides the rest.
use mathlib.Core.Path.{◌≡◌, sym, ap, ◌∙◌}
use Prim.Native.Nat.{◌*◌, ◌≤◌}
use lib.ListN.{length}
use Rattle.utf8.proofs.Utf8Laws.{utf8_sound}
use Rattle.text.proofs.OffsetLaws.{cursor_stands}
use Rattle.utf8.specs.Boundary.{Boundary}
use Rattle.event.specs.Read.{part_of}
use Rattle.spans.specs.Scalar.{list_at, event_scalar, event_node}
use Rattle.spans.proofs.SpanLaws.{offset_start, event_node_boundary}
use Rattle.parser.specs.Machine.{awaits_value, scalar_kept, on_scalar}
use Rattle.parser.proofs.Pieces.{put_tail, free_zero, free_len}
use Rattle.parser.proofs.Starts.{cursor_offset, cursor_boundary}
use Rattle.parser.proofs.Turns.{root_refused, past_root, room_refused, in_room, moved_cursor, walk_counted, event_node_leaf}
use Rattle.parser.proofs.on_event.Builder.on_scalar.Goals as goal

pub returns-in_err-before_root : goal.returns-in_err-before_root
unfolding on_scalar
returns-in_err-before_root c = λ size pieces_size st h t. root_refused h _ _ _ (sym c.before_root.ensures ∙ c.in_err-before_root.was) c.from_residual.ensures.1 _ _ _

pub returns-in_err-within_room : goal.returns-in_err-within_room
unfolding on_scalar
returns-in_err-within_room c = λ size pieces_size st h t.
    rw (past_root h _ _ (sym c.before_root.ensures ∙ c.in_ok-before_root.was))
    (room_refused h _ _ _ (sym c.within_room.ensures ∙ c.in_err-within_room.was) c.from_residual-in_err-within_room.ensures.1 _ _ _)

pub invariant_of-at : goal.invariant_of-at
invariant_of-at c = record { boundary = cursor_boundary (utf8_sound _ c.args.text.content.utf8) c.args.e.mark.index _ c.byte_offset_of_char-self.ensures }

pub event_scalar-x-requires-clause-pieces_zero : goal.event_scalar-x-requires-clause-pieces_zero
event_scalar-x-requires-clause-pieces_zero c = free_zero c.requires.ready.held.pieces_held

pub keep_scalar-requires-clause-counted : goal.keep_scalar-requires-clause-counted
keep_scalar-requires-clause-counted c =
    let ready = c.requires.ready in
    let x = c.event_scalar-x in
    let y = x.new.pieces in
    let same = x.auto.pieces in
    walk_counted ready.held y (same ∙ free_len ready.held.pieces_held) x.result.node _ x.result.walked
    (rw (← same) at (ap (λ z. z.walked) x.ensures.value)) (rw (← same) at x.ensures.pieces_after)

pub returns : goal.returns
unfolding on_scalar scalar_kept
returns c = λ size pieces_size st h t.
    let a = c.args in
    let text = a.text.content.bytes.now in
    let u = utf8_sound text a.text.content.utf8 in
    let on = sym c.before_root.ensures ∙ c.in_ok-before_root.was in
    let free = sym c.within_room.ensures ∙ c.in_ok-within_room.was in
    let cur = c.byte_offset_of_char-self in
    let e = cursor_offset text a.e.mark.index cur.result cur.ensures in
    let moved = moved_cursor h cur.result (rw cur.ensures (cursor_stands text a.e.mark.index)) in
    let waits = c.expecting_value-awaited in
    let awaits : waits.result ≡ awaits_value st.opens = waits.ensures ∙ ap awaits_value (sym h.opens_are) in
    let x = c.event_scalar-x in
    let y = x.new.pieces in
    let same = x.auto.pieces in
    let scalar = event_scalar text a.events.now cur.result.offset waits.result a.e in
    let node : x.result.node ≡ event_node text a.events.now scalar a.e.tag = ap (λ z. z.node) x.ensures.value in
    let starts : Boundary text scalar.start =
    offset_start text u (part_of a.events.now a.e.value) a.e.mark.style waits.result cur.result.offset (cursor_boundary u a.e.mark.index _ cur.ensures) in
    let fits : 4 * a.self.now.used ≤ length a.pieces.now = rw h.pieces_size_is h.pieces_fit in
    rw (past_root h _ _ on, in_room h _ _ free, ← awaits, ← e, ← node, put_tail (4 * a.self.now.used) a.pieces.now y fits)
    (c.keep_scalar.ensures text size pieces_size st a.pieces.now (list_at text scalar) y
    (rw node (event_node_boundary text a.events.now scalar a.e.tag starts)) (rw node (event_node_leaf text a.events.now scalar a.e.tag)) moved t (same ∙ free_len h.pieces_held)
    (rw (← same) at (ap (λ z. z.walked) x.ensures.value)) (rw (← same) at x.ensures.pieces_after))
