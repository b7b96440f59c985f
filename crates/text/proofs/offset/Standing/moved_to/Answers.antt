-- `text::offset::Standing::moved_to` meets its contract: in ASCII an index is its own offset, else the cursor moves there.
use Rattle.std.proofs.Common.{sym, ◌∙◌}
use Rattle.text.proofs.OffsetLaws.{ascii_cursor}
use Rattle.text.proofs.offset.Standing.moved_to.Goals as goal

pub returns-then-self : goal.returns-then-self
returns-then-self c =
    let s = c.args.self.text.bytes.now in
    sym (ascii_cursor s c.args.target (sym c.args.self.ascii_value ∙ c.if-self.true) ∙ rw (sym c.min-place.ensures))
