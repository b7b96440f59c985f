-- `letters::chunk::passing` meets its contract. The loops' invariants: every place of the chunks passed passes, and of those of this chunk that
-- were tested each before `first`.
use Rattle.std.proofs.Common.{ℕ, ◌+◌, ◌*◌, ◌<◌, ◌≤◌, true}
use Rattle.letters.proofs.chunk.passing.Given as goal

abbrev pub invariant-loop-k : goal.invariant-loop-k
invariant-loop-k g l = (i : ℕ) → i < l.k * g.row.N → goal.F-post g l.passes i true

abbrev pub invariant-loop-j : goal.invariant-loop-j
invariant-loop-j g l = (l.first ≤ g.row.N) × ((j : ℕ) → j < l.j → j < l.first → goal.F-post g l.passes (l.start + j) true)
