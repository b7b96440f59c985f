-- UTF-8: a text is the concatenation of the encodings of Unicode scalar values. How it is read from bytes stands in `Characters`.
use Rattle.std.specs.Prelude.{ℕ, ◌+◌, ◌/◌, ◌%◌, ◌<◌, ◌≡◌, Bool, true, ◌&&◌, cond, List, [], ◌∷◌, ◌++◌, ◌⊎◌, ltb}

-- a code point that is no surrogate
pub record ScalarValue (c : ℕ) : Type 0 where
  pub low : c < 0x11_0000
  pub whole : (c < 0xd800) ⊎ (0xdfff < c)

-- the bytes of a code point
unfoldable pub encode : ℕ → List ℕ
encode c =
    cond (ltb c 0x80) (c ∷ [])
    (cond (ltb c 0x800) ((0xc0 + c / 64) ∷ (0x80 + c % 64) ∷ [])
    (cond (ltb c 0x1_0000) ((0xe0 + c / 4096) ∷ (0x80 + c / 64 % 64) ∷ (0x80 + c % 64) ∷ [])
    ((0xf0 + c / 262144) ∷ (0x80 + c / 4096 % 64) ∷ (0x80 + c / 64 % 64) ∷ (0x80 + c % 64) ∷ [])))

unfoldable pub encode_all : List ℕ → List ℕ
encode_all [] = []
encode_all (c ∷ cs) = encode c ++ encode_all cs

abbrev pub ScalarValues : List ℕ → Type 0
ScalarValues [] = Unit {0}
ScalarValues (c ∷ cs) = ScalarValue c × ScalarValues cs

-- the bytes are a text: the encodings of these scalar values, one after the other
pub record Utf8 (s : List ℕ) : Type 0 where
  pub characters : List ℕ
  pub scalars : ScalarValues characters
  pub encoded : s ≡ encode_all characters

-- whether every byte is below 128
unfoldable pub is_ascii : List ℕ → Bool
is_ascii [] = true
is_ascii (b ∷ s) = ltb b 0x80 && is_ascii s
