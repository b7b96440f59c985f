-- `replay::case::same_numbers` meets its contract. The loop's invariant: the rest of the buffer and of the list compare as the whole does.
use Rattle.std.proofs.Common.{◌≡◌, drop}
use Rattle.replay.specs.Case.{same_numbers}
use Rattle.replay.proofs.case.same_numbers.Given as goal

abbrev pub invariant-loop-n : goal.invariant-loop-n
invariant-loop-n l = same_numbers (drop l.n-index l.buffer) l.list.rest.now ≡ same_numbers l.buffer l.initial.list.rest.now
