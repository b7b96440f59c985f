-- `utf8::utf8::Place::char_len` meets its contract: the first byte's range says the length.
use Rattle.std.proofs.Common.{sym, arith}
use Rattle.utf8.proofs.Leads.{one_there, two_there, three_there, four_there}
use Rattle.utf8.proofs.Utf8Laws.{utf8_sound}
use Rattle.utf8.proofs.utf8.Place.char_len.Goals as goal

pub returns-in-0-to-127 : goal.returns-in-0-to-127
returns-in-0-to-127 c = sym (one_there _ _ (utf8_sound _ c.args.self.text.utf8) c.args.self.boundary c.requires (omega arith))

pub returns-in-128-to-223 : goal.returns-in-128-to-223
returns-in-128-to-223 c = sym (two_there _ _ (utf8_sound _ c.args.self.text.utf8) c.args.self.boundary c.requires (omega arith) (omega arith))

pub returns-in-224-to-239 : goal.returns-in-224-to-239
returns-in-224-to-239 c = sym (three_there _ _ (utf8_sound _ c.args.self.text.utf8) c.args.self.boundary c.requires (omega arith) (omega arith) (omega arith))

pub returns-in_default : goal.returns-in_default
returns-in_default c = sym (four_there _ _ (utf8_sound _ c.args.self.text.utf8) c.args.self.boundary c.requires (omega arith) (omega arith))
