-- What is read of a list, where its bytes are known: they begin with it, and lose it.
use Rattle.std.specs.Prelude.{◌≡◌, ℕ, List, ◌++◌, length, Option}
use Rattle.std.specs.Io.KnownBytes.{Consumes}
use Rattle.replay.specs.Case.{number}

-- the four bytes of a size
abbrev pub TakesSize : Option (List ℕ) → Option (List ℕ) → ℕ → Type 0
TakesSize old new size = (head : List ℕ) × (length head ≡ 4) × (number head 0 ≡ size) × Consumes old new head

-- those of a case's size, and then the case
abbrev pub TakesCase : Option (List ℕ) → Option (List ℕ) → List ℕ → Type 0
TakesCase old new case = (head : List ℕ) × (length head ≡ 4) × (number head 0 ≡ length case) × Consumes old new (head ++ case)
