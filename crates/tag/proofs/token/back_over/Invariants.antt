-- `tag::token::back_over` meets its contract. The loop's invariant: from `at` the way back over the characters of the kind ends where it
-- does from the place. The measure is `at`.
use Rattle.std.specs.Prelude.{ℕ, Bool}
use Rattle.utf8.specs.Boundary.{Boundary}
use Rattle.tag.specs.Back.{Tells}
use Rattle.tag.proofs.Steps.{Going}
use Rattle.tag.proofs.token.back_over.Given as goal

abbrev pub invariant-loop-c : goal.invariant-loop-c
invariant-loop-c g l = record {
  edge : Boundary l.text.bytes.now l.at;
  going : (test : ℕ → Bool) → Tells (goal.F-post g l.kind) test → Going test l.text.bytes.now l.place.at l.at;
}

abbrev pub decreases-loop-c : goal.decreases-loop-c
decreases-loop-c g l = l.at
