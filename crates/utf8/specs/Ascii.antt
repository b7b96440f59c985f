-- Bytes as they are written: of one ASCII character (`byte "{"`), of a word of them (`bytes "null"`), and those that have a name. Beyond
-- ASCII a character gives its code point, which is no byte: no definition uses it so, and worked cases hand it to `encode_all`. What a
-- list of bytes is, and equal ones.
use Rattle.std.specs.Prelude.{ℕ, ◌<◌, Bool, true, false, ◌&&◌, List, [], ◌∷◌, eqb, get_or}
use Prim.Native.Char.{Char, code}
use Prim.Native.String.{String, [] as end, ◌∷◌ as ◌then◌}

abbrev pub byte : Char → ℕ
byte c = code c

abbrev pub bytes : String → List ℕ
bytes end = []
bytes (c then s) = code c ∷ bytes s

abbrev pub tab : ℕ
tab = 9

abbrev pub newline : ℕ
newline = 10

abbrev pub carriage_return : ℕ
carriage_return = 13

abbrev pub blank : ℕ
blank = 32

abbrev pub double_quote : ℕ
double_quote = 34

abbrev pub single_quote : ℕ
single_quote = 39

abbrev pub backslash : ℕ
backslash = 92

-- the list is one of bytes
abbrev pub Bytes : List ℕ → Type 0
Bytes s = (k : ℕ) → get_or s k 0 < 256

-- whether two lists hold the same bytes
unfoldable pub same_bytes : List ℕ → List ℕ → Bool
same_bytes [] [] = true
same_bytes [] (c ∷ t) = false
same_bytes (b ∷ s) [] = false
same_bytes (b ∷ s) (c ∷ t) = eqb b c && same_bytes s t
