-- Worked cases, each by computation: K12 and its counterpart, and the places where a search goes wrong.
use Rattle.std.specs.Prelude.{ℕ, ◌≡◌, refl, Option, Some, None, List, [], ◌∷◌}
use Rattle.utf8.specs.Ascii.{bytes}
use Rattle.utf8.specs.Utf8.{encode, encode_all}
use Rattle.utf8.specs.Characters.{codes, chars_after, first_char, char_of, multi_byte, two_bytes, three_bytes, four_bytes}
use Rattle.utf8.specs.WhiteSpace.{white_space, is_in, is_white_space}
use Rattle.tag.specs.Tokens.{byte_length, chars_before, with_word, tokens, tokens_before}
use Rattle.tag.specs.Tag.{openings, property, span, span_of, decide, first_tag, tag_before, property_span, span_bytes, tag_property, tag_offset, guess, tag_span}
use Rattle.tag.specs.declared.property.TagSpan.{TagSpan}

-- for the text s, a node at byte i and a suffix of n bytes: what is found, its bytes, its offset, and the tag's span
abbrev pub Case : List ℕ → ℕ → ℕ → Option TagSpan → List ℕ → ℕ → TagSpan → Type 0
Case s i n f p o t = (tag_before s i ≡ f) × (tag_property s i ≡ p) × (tag_offset s i ≡ o) × (tag_span s i n ≡ t)

pub record Cases : Type 0 where
  -- K12, `[a,!t b]`: the tag stands within a token, so none is found; the guess reaches the text's end
  pub k12 : Case (bytes "[a,!t b]") 6 1 None [] 6 (span 6 8)
  -- `[!tag a]`: a bracket is no part of the property
  pub bracket : Case (bytes "[!tag a]") 6 3 (Some (span 1 5)) (bytes "!tag") 1 (span 1 5)
  -- `[{,!t a`: nor are several brackets and commas
  pub openings : Case (bytes "[{,!t a") 6 1 (Some (span 3 5)) (bytes "!t") 3 (span 3 5)
  -- `!t &a b`: an anchor after the tag, which is at the text's first byte
  pub anchor_after : Case (bytes "!t &a b") 6 1 (Some (span 0 2)) (bytes "!t") 0 (span 0 2)
  -- `&a !t b`: an anchor before the tag
  pub anchor_before : Case (bytes "&a !t b") 6 1 (Some (span 3 5)) (bytes "!t") 3 (span 3 5)
  -- `!t [&a b`: an anchor is passed over with its bracket
  pub anchor_in_bracket : Case (bytes "!t [&a b") 7 1 (Some (span 0 2)) (bytes "!t") 0 (span 0 2)
  -- `!t !s a`: of two tags the nearer one
  pub two_tags : Case (bytes "!t !s a") 6 1 (Some (span 3 5)) (bytes "!s") 3 (span 3 5)
  -- `!t`, U+2003, `a`: white space of three bytes
  pub wide_space : Case (0x21 ∷ 0x74 ∷ 0xe2 ∷ 0x80 ∷ 0x83 ∷ bytes "a") 5 1 (Some (span 0 2)) (bytes "!t") 0 (span 0 2)
  -- `!àt a`: the last byte of `à` is white space to the byte classes, but not to a tag
  pub white_space_byte : Case (0x21 ∷ 0xc3 ∷ 0xa0 ∷ bytes "t a") 5 3 (Some (span 0 4)) (0x21 ∷ 0xc3 ∷ 0xa0 ∷ bytes "t") 0 (span 0 4)
  -- `!t a b`: a token that is no property ends the search; the guess is cut to the text left
  pub word_between : Case (bytes "!t a b") 5 9 None [] 5 (span 5 6)
  -- `!t [a`: so does a bracket with nothing behind it
  pub bracket_alone : Case (bytes "!t [a") 4 1 None [] 4 (span 4 5)
  -- `&a b`: before an anchor at the text's start there is no token
  pub anchor_alone : Case (bytes "&a b") 3 1 None [] 3 (span 3 4)
  -- `!t` from its start: there is no token; the suffix is empty
  pub text_start : Case (bytes "!t") 0 0 None [] 0 (span 0 1)

pub cases : Cases
unfolding byte_length chars_before with_word tokens tokens_before openings property span_of decide first_tag tag_before property_span span_bytes
    tag_property tag_offset guess tag_span encode encode_all codes chars_after first_char char_of multi_byte two_bytes three_bytes four_bytes white_space is_in is_white_space
cases =
    record {
      k12 = (refl, refl, refl, refl);
      bracket = (refl, refl, refl, refl);
      openings = (refl, refl, refl, refl);
      anchor_after = (refl, refl, refl, refl);
      anchor_before = (refl, refl, refl, refl);
      anchor_in_bracket = (refl, refl, refl, refl);
      two_tags = (refl, refl, refl, refl);
      wide_space = (refl, refl, refl, refl);
      white_space_byte = (refl, refl, refl, refl);
      word_between = (refl, refl, refl, refl);
      bracket_alone = (refl, refl, refl, refl);
      anchor_alone = (refl, refl, refl, refl);
      text_start = (refl, refl, refl, refl);
    }
