-- The tokens before a place of a text (S9): what stands between white space, going back. White space is the 25 code points, never
-- the byte classes (W1), so tokens are made of code points and not of bytes. `tokens` gathers a token's characters as it meets them; the
-- equations that say what a token is, `no_tokens` and `next_token`, stand in `Proved`.
use Rattle.std.specs.Prelude.{ℕ, cond, List, [], ◌∷◌, reverse, length, take}
use Rattle.utf8.specs.Utf8.{encode_all}
use Rattle.utf8.specs.Characters.{codes}
use Rattle.utf8.specs.WhiteSpace.{is_white_space}

-- how many bytes some code points have
unfoldable pub byte_length : List ℕ → ℕ
byte_length cs = length (encode_all cs)

-- the code points of the text s before byte i, the nearest first
unfoldable pub chars_before : List ℕ → ℕ → List ℕ
chars_before s i = reverse (codes (take i s))

-- a token: its byte offset, and its code points in the order of the text
pub record Token : Type 0 where
  pub start : ℕ
  pub chars : List ℕ

abbrev pub token : ℕ → List ℕ → Token
token n cs = record { start = n; chars = cs }

-- the tokens `ts`, and in front of them the one that `word` makes behind the code points `rest`, if it has any
unfoldable pub with_word : List ℕ → List ℕ → List Token → List Token
with_word [] rest ts = ts
with_word (c ∷ word) rest ts = token (byte_length rest) (c ∷ word) ∷ ts

-- the tokens of some code points, both nearest first; `word` is what was met of the token at hand
unfoldable pub tokens : List ℕ → List ℕ → List Token
tokens word [] = with_word word [] []
tokens word (c ∷ cs) = cond (is_white_space c) (with_word word (c ∷ cs) (tokens [] cs)) (tokens (c ∷ word) cs)

-- the tokens before byte i of the text s, the nearest first
unfoldable pub tokens_before : List ℕ → ℕ → List Token
tokens_before s i = tokens [] (chars_before s i)
