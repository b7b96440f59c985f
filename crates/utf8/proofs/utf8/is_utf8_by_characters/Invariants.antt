-- `utf8::utf8::is_utf8_by_characters` meets its contract. The loop's invariant: the rest from `i` on is UTF-8 exactly when all is. The
-- measure is what is left.
use Rattle.std.proofs.Common.{◌≡◌, ◌-◌, ◌≤◌, length, drop}
use Rattle.utf8.specs.Characters.{is_utf8}
use Rattle.utf8.proofs.utf8.is_utf8_by_characters.Given as goal

abbrev pub invariant-loop-c : goal.invariant-loop-c
invariant-loop-c l = (l.i ≤ length l.s) × (is_utf8 (drop l.i l.s) ≡ is_utf8 l.s)

abbrev pub decreases-loop-c : goal.decreases-loop-c
decreases-loop-c l = length l.s - l.i
