-- Characters as they are read from bytes, by definitions that compute. They need not be believed: `characters_read` in `Utf8Laws` says of
-- each what it is in terms of `Utf8`. A character must be in its shortest form and a scalar value, so overlong forms, surrogates and values
-- past 10FFFF are none. Bytes past the end are read as 0, which continues nothing: a character that is cut off is none by itself.
use Rattle.std.specs.Prelude.{ℕ, zero, suc, ◌+◌, ◌-◌, ◌*◌, ◌≡◌, Bool, true, not, ◌&&◌, cond, Option, Some, None, List, [], ◌∷◌, ◌++◌, map, ltb, leb, length, drop, get_or}
use Rattle.utf8.specs.Class.{inside, is_continuation}
use Rattle.utf8.specs.Utf8.{ScalarValue, encode}
use Rattle.utf8.specs.declared.utf8.Char.{Char}

abbrev pub character : ℕ → ℕ → Char
character c n = record { code = c; len = n }

abbrev pub no_char : Char
no_char = character 0 0

-- the same as an option: a character of no bytes is none
abbrev pub some_char : Char → Option Char
some_char c = cond (ltb 0 c.len) (Some c) None

-- the code point in the bits of two, three and four bytes
abbrev pub code_of2 : ℕ → ℕ → ℕ
code_of2 a b = (a - 0xc0) * 64 + (b - 0x80)

abbrev pub code_of3 : ℕ → ℕ → ℕ → ℕ
code_of3 a b c = (a - 0xe0) * 4096 + (b - 0x80) * 64 + (c - 0x80)

abbrev pub code_of4 : ℕ → ℕ → ℕ → ℕ → ℕ
code_of4 a b c d = (a - 0xf0) * 262144 + (b - 0x80) * 4096 + (c - 0x80) * 64 + (d - 0x80)

unfoldable pub two_bytes : ℕ → ℕ → Char
two_bytes a b = cond (is_continuation b && leb 0x80 (code_of2 a b)) (character (code_of2 a b) 2) no_char

abbrev pub is_surrogate : ℕ → Bool
is_surrogate c = inside 0xd800 0xdfff c

unfoldable pub three_bytes : ℕ → ℕ → ℕ → Char
three_bytes a b c =
    cond (is_continuation b && (is_continuation c && (leb 0x800 (code_of3 a b c) && not (is_surrogate (code_of3 a b c)))))
    (character (code_of3 a b c) 3)
    no_char

unfoldable pub four_bytes : ℕ → ℕ → ℕ → ℕ → Char
four_bytes a b c d =
    cond (is_continuation b && (is_continuation c && (is_continuation d && inside 0x1_0000 0x10_ffff (code_of4 a b c d))))
    (character (code_of4 a b c d) 4)
    no_char

-- the character that begins with the byte a of 0x80 or more, of which b, c and d are the next
unfoldable pub multi_byte : ℕ → ℕ → ℕ → ℕ → Char
multi_byte a b c d =
    cond (ltb a 0xc0) no_char
    (cond (ltb a 0xe0) (two_bytes a b)
    (cond (ltb a 0xf0) (three_bytes a b c)
    (cond (ltb a 0xf8) (four_bytes a b c d) no_char)))

unfoldable pub char_of : ℕ → ℕ → ℕ → ℕ → Char
char_of a b c d = cond (ltb a 0x80) (character a 1) (multi_byte a b c d)

-- the character that the bytes begin with
unfoldable pub first_char : List ℕ → Char
first_char [] = no_char
first_char (a ∷ s) = char_of a (get_or s 0 0) (get_or s 1 0) (get_or s 2 0)

-- the characters of the bytes, the first `pass` bytes being the rest of a character that was read
unfoldable pub chars_after : ℕ → List ℕ → List Char
chars_after pass [] = []
chars_after (suc pass) (b ∷ s) = chars_after pass s
chars_after zero (b ∷ s) = first_char (b ∷ s) ∷ chars_after ((first_char (b ∷ s)).len - 1) s

-- the code points of a text
unfoldable pub codes : List ℕ → List ℕ
codes s = map (λ c. c.code) (chars_after 0 s)

unfoldable pub all_some : List Char → Bool
all_some [] = true
all_some (c ∷ cs) = ltb 0 c.len && all_some cs

-- whether the bytes are a text: a character stands wherever the one before it ends
unfoldable pub is_utf8 : List ℕ → Bool
is_utf8 s = all_some (chars_after 0 s)

-- the last of some code points, as a character
unfoldable pub last_of : List ℕ → Char
last_of [] = no_char
last_of (c ∷ []) = character c (length (encode c))
last_of (c ∷ d ∷ cs) = last_of (d ∷ cs)

-- the character that a text ends with
unfoldable pub last_char : List ℕ → Char
last_char s = last_of (codes s)

-- the bytes begin with the encoding of the character k
pub record Written (s : List ℕ) (k : Char) : Type 0 where
  pub scalar : ScalarValue k.code
  pub is : s ≡ encode k.code ++ drop k.len s
  pub size : k.len ≡ length (encode k.code)
