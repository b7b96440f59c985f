-- `travel::travel::char_count` meets its contract: the cursor at the text's end has passed all characters.
use Rattle.std.proofs.Common.{◌∙◌, ap}
use Rattle.text.specs.declared.offset.Cursor.{Cursor}
use Rattle.text.proofs.OffsetLaws.{stands_start}
use Rattle.travel.proofs.TravelLaws.{end_chars}
use Rattle.travel.proofs.travel.char_count.Goals as goal

pub byte_offset_of_char-requires : goal.byte_offset_of_char-requires
byte_offset_of_char-requires c = stands_start c.args.text.content.bytes.now

pub returns : goal.returns
returns c = ap (λ (x : Cursor). x.chars) c.byte_offset_of_char.ensures ∙ end_chars c.args.text.content.bytes.now
