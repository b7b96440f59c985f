-- Escapes (S11, P7). A table of escapes gives, of the source from a place on, what an escape there takes: source bytes, and content
-- bytes. The grammar takes any table; below are today's three. No table looks at the value (W2). Bytes past the source's end are
-- read as 0, which no escape holds. What an escape claims may pass the source's end: `\x` takes 4 bytes and `\u` takes 6 wherever
-- the text ends.
--
-- `\u` counts 1 where its bytes cannot be read as digits. Bytes that end inside a character are among these, since a byte of 128 or
-- more is no digit: `EscapeLaws` has it as a law. There the Rust panics.
use Rattle.std.specs.Prelude.{ℕ, ◌+◌, ◌-◌, ◌*◌, Bool, false, ◌&&◌, ◌||◌, cond, Option, Some, None, List, [], ◌∷◌, leb, eqb, length, take, drop, get_or}
use Rattle.utf8.specs.Class.{inside, is_hex_digit}
use Rattle.utf8.specs.Utf8.{encode}
use Rattle.measure.specs.Scalar.{single_quoted, double_quoted}
use Rattle.provenance.specs.declared.escape.Escape.{Escape}
use Rattle.provenance.specs.Run.{white_run}
use Rattle.utf8.specs.Ascii.{newline, carriage_return, single_quote, backslash}

abbrev pub EscapeTable : Type 0
EscapeTable = List ℕ → Option Escape

-- an escape of so many source bytes for so many content bytes
abbrev pub takes : ℕ → ℕ → Option Escape
takes a b = Some (record { source = a; content = b })

-- how far the escapes of a table reach: two numbers that belong to it
pub record EscapeReach : Type 0 where
  -- how many bytes an escape may claim past the source's end
  pub past : ℕ
  -- how many content bytes it may stand for
  pub content : ℕ

-- ---- the digits of \u, as `from_str_radix` reads them

-- the number of a hexadecimal digit
abbrev pub hex_value : ℕ → ℕ
hex_value b = cond (leb b 57) (b - 48) (cond (leb b 70) (b - 55) (b - 87))

-- the number that digits have behind the number n; none where one is no digit
unfoldable pub digits_from : ℕ → List ℕ → Option ℕ
digits_from n [] = Some n
digits_from n (b ∷ bs) = cond (is_hex_digit b) (digits_from (n * 16 + hex_value b) bs) None

-- at least one digit
unfoldable pub digits : List ℕ → Option ℕ
digits [] = None
digits (b ∷ bs) = digits_from 0 (b ∷ bs)

abbrev pub plus : ℕ
plus = 43

-- a plus may stand before them
unfoldable pub radix16 : List ℕ → Option ℕ
radix16 [] = None
radix16 (b ∷ bs) = cond (eqb b plus) (digits bs) (digits (b ∷ bs))

-- the bytes of the code's character; 1 for a surrogate and for no code
unfoldable pub code_content : Option ℕ → ℕ
code_content None = 1
code_content (Some c) = cond (inside 0xd800 0xdfff c) 1 (length (encode c))

-- ---- the tables

-- two quotes
unfoldable pub single_quote_escapes : EscapeTable
single_quote_escapes src = cond (eqb (get_or src 0 0) single_quote && eqb (get_or src 1 0) single_quote) (takes 2 1) None

unfoldable pub is_one_of : List ℕ → ℕ → Bool
is_one_of [] c = false
is_one_of (b ∷ bs) c = eqb c b || is_one_of bs c

-- n t r 0 a b " \ /
unfoldable pub one_byte_escapes : List ℕ
one_byte_escapes = 110 ∷ 116 ∷ 114 ∷ 48 ∷ 97 ∷ 98 ∷ 34 ∷ 92 ∷ 47 ∷ []

-- by the bytes after the backslash, of which c is the first: one of those, x, u, or a line break
unfoldable pub backslash_escape : ℕ → List ℕ → Option Escape
backslash_escape c after =
    cond (is_one_of one_byte_escapes c) (takes 2 1)
    (cond (eqb c 120) (takes 4 1)
    (cond (eqb c 117) (takes 6 (code_content (radix16 (take 4 (drop 1 after)))))
    (cond (eqb c newline || eqb c carriage_return) (takes (1 + length (white_run after)) 0) None)))

unfoldable pub double_quote_escapes : EscapeTable
double_quote_escapes src = cond (eqb (get_or src 0 0) backslash) (backslash_escape (get_or src 1 0) (drop 1 src)) None

-- the three reach alike: `\u` with nothing after it claims 6 bytes where 2 are left, and a code has at most 3 bytes
abbrev pub escapes_reach : EscapeReach
escapes_reach = record { past = 4; content = 3 }

-- by style; plain and block scalars have none
unfoldable pub escapes_of : ℕ → EscapeTable
escapes_of style src =
    cond (eqb style single_quoted) (single_quote_escapes src)
    (cond (eqb style double_quoted) (double_quote_escapes src) None)
