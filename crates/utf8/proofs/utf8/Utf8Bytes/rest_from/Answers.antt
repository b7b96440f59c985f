-- `utf8::utf8::Utf8Bytes::rest_from` keeps the type's invariant: what stands behind a place between two characters is UTF-8.
use Rattle.std.proofs.Common.{◌-◌, ap, ◌∙◌, length, drop, arith, length-drop}
use Rattle.std.proofs.Math.Seq.{take_all}
use Rattle.utf8.specs.Characters.{is_utf8}
use Rattle.utf8.proofs.Utf8Laws.{utf8_sound, utf8_complete, boundary_splits}
use Rattle.utf8.proofs.utf8.Utf8Bytes.rest_from.Goals as goal

pub invariant_of-result : goal.invariant_of-result
invariant_of-result c =
    let s = c.args.self.bytes.now in
    let i = c.args.at in
    let all = take_all (length s - i) (drop i s) (let e = length-drop i s in omega arith) in
    record { utf8 = ap is_utf8 all ∙ utf8_complete (boundary_splits (utf8_sound _ c.args.self.utf8) c.requires).back }
