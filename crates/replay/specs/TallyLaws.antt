-- A run ends: after every case one turn fewer is left.
use Rattle.std.specs.Prelude.{◌≡◌, refl, ◌<◌, Option, Some, None, Result, Ok, Err}
use Rattle.std.proofs.Common.{arith}
use Rattle.replay.specs.Tally.{counted_of, turned, after_of}
use Rattle.replay.specs.declared.stream.CaseError.{CaseError}
use Rattle.replay.specs.declared.stream.CaseError.TheVariants.{TooLarge as PassedOver, Broken}
use Rattle.replay.specs.declared.tally.Tally.{Tally}
use Rattle.replay.specs.declared.tally.Verdict.{Verdict}
use Rattle.replay.specs.declared.tally.Verdict.TheVariants.{Same, Panicked, TooLarge, Different}

counted_left : (t : Tally) (v : Verdict) → (counted_of t v).left ≡ t.left
counted_left t Same = refl
counted_left t Panicked = refl
counted_left t TooLarge = refl
counted_left t Different = refl

pub fewer_left : (t : Tally) (read : Result (Option Verdict) CaseError) {r : Tally} → r ≡ after_of t read → 0 < t.left → r.left < t.left
unfolding after_of
fewer_left t (Ok (Some v)) e h = rw e (omega (arith, counted_left (turned t) v))
fewer_left t (Ok None) e h = rw e h
fewer_left t (Err PassedOver) e h = rw e (omega arith)
fewer_left t (Err Broken) e h = rw e h
