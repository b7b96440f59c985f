-- The integers that digits write, and the range of 64 signed bits (F8, K2 to K5). A byte that is no digit counts nothing
-- here; the forms of the table let none in.
use Rattle.std.specs.Prelude.{ℕ, ◌+◌, ◌*◌, ◌-◌, ◌^◌, Bool, cond, List, [], ◌∷◌, ltb, eqb, ℤ, pos, negsuc, neg_ℤ, drop, Option, Some, None}
use Rattle.utf8.specs.Class.{inside, is_decimal_digit}

-- 0 to 9, and A to F or a to f for ten to fifteen
unfoldable pub digit_value : ℕ → ℕ
digit_value b =
    cond (is_decimal_digit b) (b - 48)
    (cond (inside 65 70 b) (b - 65 + 10)
    (cond (inside 97 102 b) (b - 97 + 10)
    0))

-- the positional value of some digits that follow digits of the value m
unfoldable pub positional : ℕ → ℕ → List ℕ → ℕ
positional base m [] = m
positional base m (b ∷ s) = positional base (m * base + digit_value b) s

abbrev pub value_of : ℕ → List ℕ → ℕ
value_of base s = positional base 0 s

-- the value of digits in base 10, after a sign or none
unfoldable pub signed_value : List ℕ → ℤ
signed_value [] = pos 0
signed_value (b ∷ s) =
    cond (eqb b 45) (neg_ℤ (pos (value_of 10 s)))
    (cond (eqb b 43) (pos (value_of 10 s))
    (pos (value_of 10 (b ∷ s))))

-- the bases of the table's three integer rows
pub data Base : Type 0 where
  ten : Base
  eight : Base
  sixteen : Base

-- the integer that a scalar of a row's form writes; `0o` and `0x` are two bytes
abbrev pub integer_in : Base → List ℕ → ℤ
integer_in ten s = signed_value s
integer_in eight s = pos (value_of 8 (drop 2 s))
integer_in sixteen s = pos (value_of 16 (drop 2 s))

-- from -2^63 to 2^63 - 1; `negsuc m` is -(m + 1)
unfoldable pub in_range : ℤ → Bool
in_range (pos m) = ltb m (2 ^ 63)
in_range (negsuc m) = ltb m (2 ^ 63)

-- the integer, where 64 signed bits hold it
unfoldable pub held : ℤ → Option ℤ
held z = cond (in_range z) (Some z) None
