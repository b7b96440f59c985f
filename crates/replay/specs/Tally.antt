-- How cases are judged and counted: each by its verdict, in one count alone.
use Rattle.std.specs.Prelude.{ℕ, ◌+◌, ◌-◌, ◌^◌, min, Bool, true, false, cond, Option, Some, None, Result, Ok, Err}
use Rattle.replay.specs.declared.case.Returned.{Returned}
use Rattle.replay.specs.declared.stream.CaseError.{CaseError}
use Rattle.replay.specs.declared.stream.CaseError.TheVariants.{TooLarge as PassedOver, Broken}
use Rattle.replay.specs.declared.tally.Tally.{Tally}
use Rattle.replay.specs.declared.tally.Verdict.{Verdict}
use Rattle.replay.specs.declared.tally.Verdict.TheVariants.{Same, Panicked, TooLarge, Different}

abbrev pub judged_of : Bool → Verdict
judged_of same = cond same Same Different

-- the original's panic comes first, then the room
abbrev pub verdict_of : Option Returned → Option Bool → Verdict
verdict_of None same = Panicked
verdict_of (Some r) None = TooLarge
verdict_of (Some r) (Some same) = judged_of same

-- a count stays at its largest value
abbrev pub one_more : ℕ → ℕ
one_more n = min (n + 1) (2 ^ 64 - 1)

abbrev pub counted_of : Tally → Verdict → Tally
counted_of t Same = record t { same = one_more t.same }
counted_of t Panicked = record t { panicked = one_more t.panicked }
counted_of t TooLarge = record t { too_large = one_more t.too_large }
counted_of t Different = record t { different = one_more t.different }

-- no more cases
abbrev pub closed_of : Tally → Bool → Tally
closed_of t broken = record t { left = 0; broken = broken }

-- one turn fewer is left
abbrev pub turned : Tally → Tally
turned t = record t { left = t.left - 1 }

abbrev pub counted_next : Tally → Result (Option Verdict) CaseError → Tally
counted_next t (Ok (Some v)) = counted_of t v
counted_next t (Ok None) = closed_of t false
counted_next t (Err PassedOver) = counted_of t TooLarge
counted_next t (Err Broken) = closed_of t true

-- a case counts by its verdict, one that was passed over as too large; the end and a list that is cut off close the count
unfoldable pub after_of : Tally → Result (Option Verdict) CaseError → Tally
after_of t read = counted_next (turned t) read
