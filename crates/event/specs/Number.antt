-- Numbers in the event bytes: all high byte first (E1). `high_first` writes a number in so many bytes, `number_at` reads one. Both go by
-- the width, so each law of them (proofs/NumberLaws.antt) serves the two widths that events have.
use Rattle.std.specs.Prelude.{ℕ, zero, suc, ◌+◌, ◌*◌, ◌/◌, ◌%◌, List, [], ◌∷◌, ◌++◌, get_or}

-- the bytes of a number
unfoldable pub high_first : ℕ → ℕ → List ℕ
high_first zero n = []
high_first (suc w) n = high_first w (n / 256) ++ (n % 256 ∷ [])

-- the number in the bytes from a place on
unfoldable pub number_at : List ℕ → ℕ → ℕ → ℕ
number_at s i zero = 0
number_at s i (suc w) = number_at s i w * 256 + get_or s (i + w) 0
