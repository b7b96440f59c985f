-- White-space runs as the walk looks at them (S11), so that none is looked at twice. This is no part of the grammar: `step_at` answers the
-- grammar's step.
use Rattle.std.specs.Prelude.{ℕ, ◌+◌, ◌<◌, ◌≡◌, Bool, cond, List, ltb, eqb, get_or}
use Rattle.provenance.specs.declared.run.Run.{Run}
use Rattle.provenance.specs.Counted.{no_run, counted_run}
use Rattle.provenance.specs.Grammar.{opens_break}

-- the run that step 1 looks at, in numbers; none where the two bytes do not let it begin
unfoldable pub break_run : Bool → List ℕ → List ℕ → Run
break_run block src val = cond (opens_break block (get_or src 0 0) (get_or val 0 0)) (counted_run src) no_run

-- `run` says of these places what step 1 needs: the run, or that there is no newline to be met
pub record Tells (run : Run) (block : Bool) (src val : List ℕ) : Type 0 where
  pub fits : 0 < run.newlines → run ≡ break_run block src val
  pub falls : run.newlines ≡ 0 → (break_run block src val).newlines ≡ 0

-- no run of the source that starts before `known` holds a newline: how far this is known after the run at s was looked at
unfoldable pub known_after : ℕ → ℕ → Run → ℕ
known_after known s run = cond (ltb 0 run.newlines) known (cond (eqb run.len 0) known (s + run.len))
