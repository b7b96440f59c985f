-- `utf8::utf8::Place::last_start` meets its contract. The loop's invariant: all bytes behind `start` continue a character. The measure is `start`.
use Rattle.std.specs.Prelude.{◌≡◌, ℕ, ◌<◌, true, take, get_or}
use Rattle.utf8.specs.Class.{is_continuation}
use Rattle.utf8.proofs.utf8.Place.last_start.Given as goal

abbrev pub invariant-loop-s : goal.invariant-loop-s
invariant-loop-s l = record {
  within : l.start < l.self.at;
  behind : (k : ℕ) → l.start < k → k < l.self.at → is_continuation (get_or (take l.self.at l.self.text.bytes.now) k 0) ≡ true;
}

abbrev pub decreases-loop-s : goal.decreases-loop-s
decreases-loop-s l = l.start
