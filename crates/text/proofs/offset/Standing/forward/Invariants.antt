-- `text::offset::Standing::forward` meets its contract. The loop's invariant: the cursor stands at the turn's character index.
use Rattle.std.proofs.Common.{◌≤◌}
use Rattle.text.specs.Offset.{Stands}
use Rattle.text.proofs.offset.Standing.forward.Given as goal

abbrev pub invariant-loop-chars : goal.invariant-loop-chars
invariant-loop-chars l = Stands l.self.text.bytes.now l.chars l.offset × (l.chars ≤ l.target)
