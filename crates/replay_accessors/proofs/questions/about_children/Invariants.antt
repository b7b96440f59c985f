-- `replay_accessors::questions::about_children` meets its contract: the indices from the last one down to `i` were asked.
use Rattle.std.proofs.Common.{◌≡◌, ◌≤◌, ◌-◌}
use Rattle.replay_accessors.specs.Matched.{matched_of}
use Rattle.replay_accessors.specs.Questions.{from_last}
use Rattle.replay_accessors.proofs.questions.about_children.Given as goal

abbrev pub invariant-loop-i : goal.invariant-loop-i
invariant-loop-i l = (l.count - l.limit ≤ l.i) × (matched_of l.m ≡ from_last l.records l.n l.count (matched_of l.initial.m) (l.count - l.i))
