-- The tag property before a node, and the tag's span (S9, P6): of the tokens going back from the node's start, each without its
-- leading `[`, `{` and `,`, the first that does not begin with `&` decides. It is the property if it begins with `!`; otherwise, and
-- where no token is left, there is none, and the span is guessed. What callers may count on stands in `Proved`.
use Rattle.std.specs.Prelude.{ℕ, suc, ◌+◌, ◌-◌, min, Bool, ◌||◌, cond, Option, Some, None, List, [], ◌∷◌, eqb, length, take, drop, get_or}
use Rattle.tag.specs.Tokens.{Token, token, byte_length, tokens_before}
use Rattle.tag.specs.declared.property.TagSpan.{TagSpan}

-- ---- one token

-- `[`, `{` or `,`, of one byte each
abbrev pub is_opening : ℕ → Bool
is_opening c = eqb c 0x5b || (eqb c 0x7b || eqb c 0x2c)

-- how many of them stand in front
unfoldable pub openings : List ℕ → ℕ
openings [] = 0
openings (c ∷ cs) = cond (is_opening c) (suc (openings cs)) 0

-- a token without them
unfoldable pub property : Token → Token
property t = token (t.start + openings t.chars) (drop (openings t.chars) t.chars)

abbrev pub token_begins : ℕ → Token → Bool
token_begins c t = eqb (get_or t.chars 0 0) c

-- `!`, which begins a tag, and `&`, which begins an anchor
abbrev pub is_tag : Token → Bool
is_tag t = token_begins 0x21 t

abbrev pub is_anchor : Token → Bool
is_anchor t = token_begins 0x26 t

-- ---- the search

abbrev pub span : ℕ → ℕ → TagSpan
span a b = record { start = a; end = b }

unfoldable pub span_of : Token → TagSpan
span_of t = span t.start (t.start + byte_length t.chars)

-- what a property says, where `further` is what the tokens before it say
unfoldable pub decide : Token → Option TagSpan → Option TagSpan
decide p further = cond (is_tag p) (Some (span_of p)) (cond (is_anchor p) further None)

-- of tokens, the nearest first
unfoldable pub first_tag : List Token → Option TagSpan
first_tag [] = None
first_tag (t ∷ ts) = decide (property t) (first_tag ts)

-- the tag property before the node at byte i of the text s
unfoldable pub tag_before : List ℕ → ℕ → Option TagSpan
tag_before s i = first_tag (tokens_before s i)

-- ---- what is handed back

abbrev pub span_or : Option TagSpan → TagSpan → TagSpan
span_or (Some p) q = p
span_or None q = q

-- its span; where there is none, the empty one at the node's start
unfoldable pub property_span : List ℕ → ℕ → TagSpan
property_span s i = span_or (tag_before s i) (span i i)

-- the bytes of a span
unfoldable pub span_bytes : List ℕ → TagSpan → List ℕ
span_bytes s p = take (p.end - p.start) (drop p.start s)

-- its bytes: none where there is no property
unfoldable pub tag_property : List ℕ → ℕ → List ℕ
tag_property s i = span_bytes s (property_span s i)

-- its offset: the node's start where there is no property
unfoldable pub tag_offset : List ℕ → ℕ → ℕ
tag_offset s i = (property_span s i).start

-- 1 plus the suffix's n bytes from the node's start, cut to the text left
unfoldable pub guess : List ℕ → ℕ → ℕ → TagSpan
guess s i n = span i (i + min (1 + n) (length s - i))

-- the tag's span, found or guessed
unfoldable pub tag_span : List ℕ → ℕ → ℕ → TagSpan
tag_span s i n = span_or (tag_before s i) (guess s i n)
