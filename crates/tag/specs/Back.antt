-- The step back that the code's search is made of: over white space to a token's end, or over the token to its start. It is stated on the
-- code points before a place; proofs/TokenLaws.antt says what it is to the tokens.
use Rattle.std.specs.Prelude.{ℕ, ◌≡◌, Bool, not, cond, List, [], ◌∷◌}
use Rattle.utf8.specs.WhiteSpace.{is_white_space}
use Rattle.tag.specs.Tokens.{byte_length, chars_before}

-- code points from the first on that is not of a kind
unfoldable pub skip : (ℕ → Bool) → List ℕ → List ℕ
skip kind [] = []
skip kind (c ∷ cs) = cond (kind c) (skip kind cs) (c ∷ cs)

-- from byte i of the text s back over the characters of a kind
unfoldable pub back_over : (ℕ → Bool) → List ℕ → ℕ → ℕ
back_over kind s i = byte_length (skip kind (chars_before s i))

-- what is no white space
abbrev pub is_token_char : ℕ → Bool
is_token_char c = not (is_white_space c)

-- each answer of a closure is that of a test
abbrev pub Tells : (ℕ → Bool → Type 0) → (ℕ → Bool) → Type 0
Tells post test = (c : ℕ) (b : Bool) → post c b → b ≡ test c
