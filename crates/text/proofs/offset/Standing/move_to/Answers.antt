-- `text::offset::Standing::move_to` meets its contract: the cursor at an index stands.
use Rattle.text.specs.Offset.{Stands}
use Rattle.text.proofs.OffsetLaws.{cursor_stands}
use Rattle.text.proofs.offset.Standing.move_to.Goals as goal

pub invariant_of-self : goal.invariant_of-self
invariant_of-self c =
    let s = c.args.self.now.text.bytes.now in
    let h : Stands s c.moved_to-self.result.chars c.moved_to-self.result.offset = rw c.moved_to-self.ensures (cursor_stands s c.args.target) in
    record { ascii_value = c.args.self.now.ascii_value; counted = h.counted; placed = h.placed }
