-- The classes of a byte, by the four questions that document 01 asks of it (S15). What each of the 256 bytes gets is spelt out in
-- `ClassTable`. Numbers of 256 and more are no bytes and have the class 0.
use Rattle.std.specs.Prelude.{ℕ, ◌+◌, Bool, true, false, ◌&&◌, ◌||◌, leb, eqb}
use Rattle.utf8.specs.Ascii.{byte, tab, carriage_return, blank}

-- from `lo` to `hi`, both counted in
abbrev pub inside : ℕ → ℕ → ℕ → Bool
inside lo hi b = leb lo b && leb b hi

abbrev pub is_white_space_byte : ℕ → Bool
is_white_space_byte b = inside tab carriage_return b || (eqb b blank || (eqb b 133 || eqb b 160))

abbrev pub is_decimal_digit : ℕ → Bool
is_decimal_digit b = inside (byte "0") (byte "9") b

abbrev pub is_hex_digit : ℕ → Bool
is_hex_digit b = is_decimal_digit b || (inside (byte "A") (byte "F") b || inside (byte "a") (byte "f") b)

abbrev pub is_continuation : ℕ → Bool
is_continuation b = inside 128 191 b

-- `n` where the answer is yes
abbrev pub counts : Bool → ℕ → ℕ
counts true n = n
counts false n = 0

-- 1 white space, 2 decimal digit, 4 hexadecimal digit, 8 UTF-8 continuation: the sum of those that apply
unfoldable pub class_of : ℕ → ℕ
class_of b = counts (is_white_space_byte b) 1 + counts (is_decimal_digit b) 2 + counts (is_hex_digit b) 4 + counts (is_continuation b) 8
