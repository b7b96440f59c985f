-- What is proved of tokens and of the tag's span. The arguments are in proofs/TokenLaws.antt (`tokens_are`) and proofs/TagLaws.antt (`tag_is`).
use Rattle.std.specs.Prelude.{ℕ, ◌+◌, ◌≤◌, ◌<◌, ◌≡◌, Bool, true, Some, None, List, [], ◌∷◌, ◌++◌, reverse, length, take, get_or}
use Rattle.utf8.specs.Characters.{codes}
use Rattle.utf8.specs.Boundary.{Boundary}
use Rattle.utf8.specs.WhiteSpace.{is_white_space}
use Rattle.tag.specs.Tokens.{byte_length, token, tokens_before}
use Rattle.tag.specs.Tag.{span, tag_before, property_span, tag_property, tag_offset, guess, tag_span}
use Rattle.tag.specs.Back.{is_token_char}
use Rattle.tag.specs.declared.property.TagSpan.{TagSpan}

-- ---- what a token is: a word with white space, or the text's end, on either side

abbrev pub All : (ℕ → Bool) → List ℕ → Type 0
All kind [] = Unit {0}
All kind (c ∷ cs) = (kind c ≡ true) × All kind cs

-- nothing, or white space first
abbrev pub Edge : List ℕ → Type 0
Edge [] = Unit {0}
Edge (c ∷ cs) = is_white_space c ≡ true

-- the tokens before byte i of the text s
pub record TokensAre (s : List ℕ) (i : ℕ) : Type 0 where
  -- white space alone has no token
  pub no_tokens : All is_white_space (codes (take i s)) → tokens_before s i ≡ []
  -- else the nearest token is the word before the white space, and the others are those before it; `front` is empty or ends in white
  -- space, so that the word is whole
  pub next_token :
      (front : List ℕ) (c : ℕ) (word spaces : List ℕ) → codes (take i s) ≡ front ++ ((c ∷ word) ++ spaces)
      → Edge (reverse front) → All is_token_char (c ∷ word) → All is_white_space spaces
      → tokens_before s i ≡ token (byte_length front) (c ∷ word) ∷ tokens_before s (byte_length front)

-- ---- the tag of the node at byte i of the text s

-- a property found: some characters before the node, within the text, of which the first is `!`
pub record IsProperty (s : List ℕ) (i : ℕ) (p : TagSpan) : Type 0 where
  pub some : p.start < p.end
  pub before : p.end ≤ i
  pub within : p.end ≤ length s
  pub bang : get_or s p.start 0 ≡ 0x21
  pub from : Boundary s p.start
  pub to : Boundary s p.end

-- a span within the text
pub record SpanWithin (s : List ℕ) (p : TagSpan) : Type 0 where
  pub order : p.start ≤ p.end
  pub end : p.end ≤ length s

pub record TagIs (s : List ℕ) (i : ℕ) : Type 0 where
  pub found_tagged : (p : TagSpan) → tag_before s i ≡ Some p → IsProperty s i p
  -- the part handed back begins with `!`; where there is no property it is empty
  pub found_begins : (p : TagSpan) → tag_before s i ≡ Some p → get_or (tag_property s i) 0 0 ≡ 0x21
  pub none_empty : tag_before s i ≡ None → tag_property s i ≡ []
  -- where it is not empty it is the tag's span, and where it is empty the span is guessed
  pub part_found : (n : ℕ) → 0 < length (tag_property s i) → span (tag_offset s i) (tag_offset s i + length (tag_property s i)) ≡ tag_span s i n
  pub part_empty : (n : ℕ) → length (tag_property s i) ≤ 0 → guess s i n ≡ tag_span s i n
  -- every span is within the text
  pub span_within : (n : ℕ) → SpanWithin s (tag_span s i n)
  pub guess_within : (n : ℕ) → SpanWithin s (guess s i n)
  pub property_within : SpanWithin s (property_span s i)
