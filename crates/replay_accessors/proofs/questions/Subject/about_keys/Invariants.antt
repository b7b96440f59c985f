-- `replay_accessors::questions::Subject::about_keys` meets its contract: the keys before `at` were asked. The measure is what is left.
use Rattle.std.proofs.Common.{◌≡◌, ◌+◌, ◌*◌, ◌/◌, ◌≤◌, length}
use Rattle.replay_accessors.specs.Matched.{matched_of}
use Rattle.replay_accessors.specs.Questions.{first_keys}
use Rattle.replay_accessors.proofs.questions.Subject.about_keys.Given as goal

abbrev pub invariant-loop-at : goal.invariant-loop-at
invariant-loop-at l =
    (l.at ≡ l.at / 8 * 8) × (l.at ≤ length l.self.keys.now + 7) × (matched_of l.m ≡ first_keys l.self.records.now l.self.events.now l.n l.self.keys.now (matched_of l.initial.m) (l.at / 8))
