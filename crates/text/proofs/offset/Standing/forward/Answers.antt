use Rattle.std.proofs.Common.{◌≡◌, arith, subst, ℕ}
use Rattle.utf8.proofs.Utf8Laws.{utf8_sound, char_room}
use Rattle.text.specs.Offset.{Stands}
use Rattle.text.proofs.OffsetLaws.{stands_boundary, stands_next, stands_cursor, stands_end}
use Rattle.text.proofs.offset.Standing.forward.Goals as goal

pub returns-then-text-offset : goal.returns-then-text-offset
returns-then-text-offset c =
    stands_end (utf8_sound _ c.args.self.text.utf8) c.loop-chars.invariant.0 c.if-text-offset.true c.args.target c.loop-chars.invariant.1

pub invariant_of-char_len : goal.invariant_of-char_len
invariant_of-char_len c = record { boundary = stands_boundary (utf8_sound _ c.args.self.text.utf8) c.loop-chars.invariant.0 }

pub overflow_add-offset : goal.overflow_add-offset
overflow_add-offset c =
    let room = char_room _ c.loop-chars.offset c.if-text-offset.false in
    let len = c.char_len-offset.ensures in
    omega arith

pub loop-chars-preserved : goal.loop-chars-preserved
loop-chars-preserved c =
    let t = c.loop-chars-test.true in
    (rw c.char_len-offset.ensures (stands_next (utf8_sound _ c.args.self.text.utf8) c.loop-chars.invariant.0 c.if-text-offset.false), omega arith)

pub returns : goal.returns
returns c =
    let t = c.loop-chars-test.false in
    let m = c.loop-chars.invariant.1 in
    let e : c.loop-chars.chars ≡ c.args.target = omega arith in
    stands_cursor (subst (λ (k : ℕ). Stands c.args.self.text.bytes.now k c.loop-chars.offset) e c.loop-chars.invariant.0)
