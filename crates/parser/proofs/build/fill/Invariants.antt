-- `fill` meets its contract: at the head of the loop the run from the state held, at this place and number, is the whole run (`Heads`);
-- each event takes at least a byte, so the bytes left go down.
use Prim.Native.Nat.{◌-◌}
use lib.ListN.{length}
use Rattle.parser.proofs.Heads.{Head}
use Rattle.parser.proofs.build.fill.Given as goal

abbrev pub invariant-loop-at : goal.invariant-loop-at
invariant-loop-at l =
    Head l.document.text.content.bytes.now l.document.events.now (length l.initial.records) (length l.initial.pieces) l.builder l.records l.pieces l.at l.number

abbrev pub decreases-loop-at : goal.decreases-loop-at
decreases-loop-at l =
    length l.document.events.now - l.at
