-- `on_alias` meets its contract: rows 5 and 7 by the counts; then its record is complete.
use mathlib.Core.Path.{◌≡◌, refl, sym, ◌∙◌}
use Prim.Native.Nat.{ℕ}
use native.Mathlib.Omega.{arith}
use Rattle.utf8.proofs.Utf8Laws.{utf8_sound}
use Rattle.schema.specs.Record.{two_numbers}
use Rattle.schema.specs.declared.record.Payload.{Payload}
use Rattle.text.proofs.OffsetLaws.{cursor_stands}
use Rattle.parser.proofs.Turns.{root_refused, past_root, room_refused, in_room, moved_cursor, moved_on, leaf_rooted}
use Rattle.parser.proofs.Starts.{cursor_offset, cursor_boundary, cursor_within}
use Rattle.parser.specs.Machine.{on_alias}
use Rattle.parser.proofs.on_event.Builder.on_alias.Goals as goal

pub returns-in_err-before_root : goal.returns-in_err-before_root
unfolding on_alias
returns-in_err-before_root c = λ pieces size pieces_size st h t. root_refused h _ _ _ (sym c.before_root.ensures ∙ c.in_err-before_root.was) c.from_residual.ensures.1 _ _ _

pub returns-in_err-within_room : goal.returns-in_err-within_room
unfolding on_alias
returns-in_err-within_room c = λ pieces size pieces_size st h t.
    rw (past_root h _ _ (sym c.before_root.ensures ∙ c.in_ok-before_root.was))
    (room_refused h _ _ _ (sym c.within_room.ensures ∙ c.in_err-within_room.was) c.from_residual-in_err-within_room.ensures.1 _ _ _)

pub overflow_cast-at : goal.overflow_cast-at
overflow_cast-at c =
    let text = c.args.text.content in
    omega (arith, (cursor_within text.bytes.now c.args.index _ (utf8_sound _ text.utf8) text.within c.byte_offset_of_char-self.ensures).1)

same_numbers : (x : Payload) (m n : ℕ) → x.first ≡ m → x.second ≡ n → x ≡ two_numbers m n
same_numbers x m n h k = rw (← h, ← k)

pub returns : goal.returns
unfolding on_alias
returns c = λ pieces size pieces_size st h t.
    let a = c.args in
    let text = a.text.content.bytes.now in
    let on = sym c.before_root.ensures ∙ c.in_ok-before_root.was in
    let free = sym c.within_room.ensures ∙ c.in_ok-within_room.was in
    let cur = c.byte_offset_of_char-self in
    let e = cursor_offset text a.index cur.result cur.ensures in
    let nothing = same_numbers c.default.result 0 0 c.default.ensures.0 c.default.ensures.1 in
    let moved = moved_cursor h cur.result (rw cur.ensures (cursor_stands text a.index)) in
    rw (past_root h _ _ on, in_room h _ _ free, ← e)
    (moved_on h _ _ _ _ (rw (c.into.ensures, nothing) at (c.push_complete.ensures text size pieces_size st pieces (cursor_boundary (utf8_sound _ a.text.content.utf8) a.index _ cur.ensures)
    (leaf_rooted _ st (record { count = refl; parent = refl }) t) moved)))
