-- White-space runs, by code points (W1): the white-space characters that a text begins with, and what comes after them. Bytes enter
-- only as the length of an encoding.
use Rattle.std.specs.Prelude.{ℕ, Bool, false, ◌||◌, cond, List, [], ◌∷◌, eqb, length}
use Rattle.utf8.specs.Utf8.{encode_all}
use Rattle.utf8.specs.WhiteSpace.{is_white_space}
use Rattle.utf8.specs.Ascii.{newline}

-- how many bytes encode some characters
abbrev pub bytes_of : List ℕ → ℕ
bytes_of cs = length (encode_all cs)

-- the white space that the characters begin with (W1)
unfoldable pub white_space_run : List ℕ → List ℕ
white_space_run [] = []
white_space_run (c ∷ cs) = cond (is_white_space c) (c ∷ white_space_run cs) []

-- the characters after it
unfoldable pub after_run : List ℕ → List ℕ
after_run [] = []
after_run (c ∷ cs) = cond (is_white_space c) (after_run cs) (c ∷ cs)

unfoldable pub holds_newline : List ℕ → Bool
holds_newline [] = false
holds_newline (c ∷ cs) = eqb c newline || holds_newline cs
