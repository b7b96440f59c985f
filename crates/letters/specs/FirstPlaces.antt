-- The first places of a chunk or a text, of which something is known.
use Rattle.std.specs.Prelude.{ℕ, ◌≤◌, ◌<◌}

-- the first n of `len` places have P
pub record FirstPlaces (P : ℕ → Type 0) (len n : ℕ) : Type 0 where
  pub within : n ≤ len
  pub each : (j : ℕ) → j < n → P j
