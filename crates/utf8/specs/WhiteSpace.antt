-- White space by code points, for spans and tags (W1): Unicode's White_Space, in the ranges of document 01. The walk's white space
-- goes by bytes: `Class.is_white_space_byte`.
use Rattle.std.specs.Prelude.{ℕ, Bool, false, ◌||◌, List, [], ◌∷◌}
use Rattle.utf8.specs.Class.{inside}

-- the code points from `low` to `high`, both counted in
pub record Range : Type 0 where
  pub low : ℕ
  pub high : ℕ

abbrev pub range : ℕ → ℕ → Range
range a b = record { low = a; high = b }

abbrev pub only : ℕ → Range
only a = range a a

unfoldable pub white_space : List Range
white_space =
    range 0x9 0xd ∷ only 0x20 ∷ only 0x85 ∷ only 0xa0 ∷ only 0x1680 ∷ range 0x2000 0x200a
    ∷ only 0x2028 ∷ only 0x2029 ∷ only 0x202f ∷ only 0x205f ∷ only 0x3000 ∷ []

unfoldable pub is_in : List Range → ℕ → Bool
is_in [] c = false
is_in (r ∷ rs) c = inside r.low r.high c || is_in rs c

unfoldable pub is_white_space : ℕ → Bool
is_white_space c = is_in white_space c
