-- Bytes inside quotes that are passed over many at a time by the quoted measure.
use Rattle.std.specs.Prelude.{ℕ, ◌≡◌, List, length, get_or}
use Rattle.letters.specs.FirstPlaces.{FirstPlaces}

-- a byte that is passed by itself: neither the mark nor a backslash
abbrev pub Ordinary : ℕ → ℕ → Type 0
Ordinary quote b = (b ≡ quote → ⊥) × (b ≡ 92 → ⊥)

-- the first n bytes are
abbrev pub Unmarked : ℕ → List ℕ → ℕ → Type 0
Unmarked quote s = FirstPlaces (λ j. Ordinary quote (get_or s j 0)) (length s)
