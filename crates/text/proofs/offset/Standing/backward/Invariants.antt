-- `text::offset::Standing::backward` meets its contract. The loop's invariant: the cursor stands as many characters past the target as there
-- are turns left.
use Rattle.std.proofs.Common.{◌+◌, ◌-◌, ◌≤◌}
use Rattle.text.specs.Offset.{Stands}
use Rattle.text.proofs.offset.Standing.backward.Given as goal

abbrev pub invariant-loop : goal.invariant-loop
invariant-loop l = Stands l.self.text.bytes.now (l.target + (l.end - l.counter)) l.offset × (l.target ≤ l.self.cursor.chars)
