-- What fits 32 bits: what the private functions ask of an answer before they cast it. Nothing of 01 rests on it.
use Rattle.std.specs.Prelude.{ℕ, ◌≤◌, List, [], ◌∷◌, Option, Some, None}
use Rattle.quarto_yaml.specs.None.{largest}

-- every number of a row is one of 32 bits
abbrev pub Fit : List ℕ → Type 0
Fit [] = Unit {0}
Fit (n ∷ row) = (n ≤ largest) × Fit row

-- what there is, if anything, has the property
abbrev pub Each : {A : Type 0} → (A → Type 0) → Option A → Type 0
Each P None = Unit {0}
Each P (Some a) = P a

abbrev pub AtMost : ℕ → Option ℕ → Type 0
AtMost m = Each (λ (n : ℕ). n ≤ m)
