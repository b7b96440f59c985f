-- `replay_accessors::matched::Matcher::numbers` meets its contract: the numbers so far are matched.
use Rattle.std.proofs.Common.{◌≡◌, take}
use Rattle.replay_accessors.specs.Matched.{matched_of, match_all}
use Rattle.replay_accessors.proofs.matched.Matcher.numbers.Given as goal

abbrev pub invariant-loop-x : goal.invariant-loop-x
invariant-loop-x l = matched_of l.self ≡ match_all (matched_of l.initial.self) (take l.x-index l.xs)
