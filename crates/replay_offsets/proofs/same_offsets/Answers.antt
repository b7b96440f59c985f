use Rattle.std.proofs.Common.{rules}
use Rattle.text.proofs.OffsetLaws.{stands_start, cursor_stands}
use Rattle.replay_offsets.proofs.same_offsets.Goals as goal

pub loop-alias-init : goal.loop-alias-init
loop-alias-init c = (search rules, tt, stands_start c.args.text.content.bytes.now)

pub loop-alias-preserved : goal.loop-alias-preserved
loop-alias-preserved c = (search rules, tt, rw c.byte_offset_of_char-cursor.ensures (cursor_stands c.args.text.content.bytes.now _))
