-- `fill_or_clear` meets its contract: the pieces that fit are those that fit in the part that is used; a refusal clears both buffers.
use mathlib.Core.Path.{◌≡◌, sym, ◌∙◌}
use Prim.Native.Nat.{◌≤◌}
use native.Mathlib.Omega.{arith}
use lib.ListN.{length, take}
use lib.Seq.{length-take-le}
use Rattle.parser.proofs.Wholes.{room_used, settled_built}
use Rattle.parser.proofs.build.fill_or_clear.Goals as goal

pub returns-else-is_err : goal.returns-else-is_err
returns-else-is_err c =
    let a = c.args in
    let p = a.pieces.now in
    let n = c.usable-n in
    let e = n.ensures in
    let l : n.result ≤ length p = omega arith in
    let part : length (take n.result p) ≡ n.result = length-take-le n.result p l in
    let filled = c.fill-r in
    settled_built (length a.records.now) (length p) n.result e _ _ p (filled.auto.pieces ∙ part) c.requires.1 _ filled.result
    (sym c.is_err.ensures.value ∙ c.if-is_err.false) (rw (part, room_used (length p) n.result e) at filled.ensures)
