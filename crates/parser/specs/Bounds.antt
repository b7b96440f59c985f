-- What it is for a call's outcome to be in bounds.
use Rattle.std.specs.Prelude.{ℕ, ◌≤◌, length}
use Rattle.parser.specs.Machine.{Outcome, built, refused}

-- the last number of the table
abbrev pub last_number : ℕ
last_number = 9

-- at most n nodes and r pieces; a number of the table and a place of at most n
abbrev pub Bounded : ℕ → ℕ → Outcome → Type 0
Bounded n r (built xs ps) = (length xs ≤ n) × (length ps ≤ r)
Bounded n r (refused number place) = (number ≤ last_number) × (place ≤ n)
