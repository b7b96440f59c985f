-- Worked cases of the definitions, by computation: K1 of document 01, UTF-8 at its edges, and the two white spaces.
use Rattle.std.specs.Prelude.{◌≡◌, refl, true, false, List, [], ◌∷◌, ℕ}
use Prim.Native.String.{String}
use Rattle.utf8.specs.Ascii.{byte, bytes}
use Rattle.utf8.specs.Class.{class_of}
use Rattle.utf8.specs.Utf8.{encode, encode_all}
use Rattle.utf8.specs.Boundary.{is_boundary}
use Rattle.utf8.specs.WhiteSpace.{white_space, is_in, is_white_space}
use Rattle.utf8.specs.Characters.{character, two_bytes, three_bytes, four_bytes, multi_byte, char_of, first_char, chars_after, codes, all_some, is_utf8, last_of, last_char}
use Rattle.text.specs.Offset.{byte_offset}

-- the text of some characters, beyond ASCII too
abbrev text : String → List ℕ
text s = encode_all (bytes s)

pub record Worked : Type 0 where
  -- K1: index 3 of `é: a` gives byte 4; index 9, past the text, its length
  pub k1 : byte_offset (text "é: a") 3 ≡ 4
  pub k1_past : byte_offset (text "é: a") 9 ≡ 5
  -- the euro sign, forward and back; the bytes inside it are no boundaries
  pub euro : text "€" ≡ 0xe2 ∷ 0x82 ∷ 0xac ∷ []
  pub euro_first : first_char (text "€!") ≡ character 0x20ac 3
  pub euro_last : last_char (text "a€") ≡ character 0x20ac 3
  pub euro_inside : is_boundary (text "€") 1 ≡ false
  pub euro_end : is_boundary (text "€") 3 ≡ true
  pub euro_past : is_boundary (text "€") 4 ≡ false
  -- what is no UTF-8: an overlong form, a surrogate, a value past 10FFFF, a character cut off, a continuation alone
  pub overlong : is_utf8 (0xc0 ∷ 0x80 ∷ []) ≡ false
  pub surrogate : is_utf8 (0xed ∷ 0xa0 ∷ 0x80 ∷ []) ≡ false
  pub too_large : is_utf8 (0xf4 ∷ 0x90 ∷ 0x80 ∷ 0x80 ∷ []) ≡ false
  pub cut_off : is_utf8 (0xe2 ∷ 0x82 ∷ []) ≡ false
  pub alone : is_utf8 (0x80 ∷ []) ≡ false
  -- the neighbours that are
  pub shortest : is_utf8 (0xc2 ∷ 0x80 ∷ []) ≡ true
  pub before_surrogates : is_utf8 (0xed ∷ 0x9f ∷ 0xbf ∷ []) ≡ true
  pub after_surrogates : is_utf8 (0xee ∷ 0x80 ∷ 0x80 ∷ []) ≡ true
  pub largest : is_utf8 (0xf4 ∷ 0x8f ∷ 0xbf ∷ 0xbf ∷ []) ≡ true
  pub nothing : is_utf8 [] ≡ true
  -- two white spaces (W1): U+2003 is one code point of them and no byte; the byte A0 is white space wherever it stands
  pub em_space : is_white_space 0x2003 ≡ true
  pub zero_width_space : is_white_space 0x200b ≡ false
  pub byte_a0 : class_of 0xa0 ≡ 9
  pub blank : class_of (byte " ") ≡ 1
  pub letter : class_of (byte "A") ≡ 4
  pub digit : class_of (byte "9") ≡ 6

pub worked : Worked
unfolding byte_offset encode_all encode codes chars_after first_char char_of multi_byte two_bytes three_bytes four_bytes last_char last_of is_boundary is_utf8 all_some
    is_white_space is_in white_space class_of
worked =
    record {
      k1 = refl;
      k1_past = refl;
      euro = refl;
      euro_first = refl;
      euro_last = refl;
      euro_inside = refl;
      euro_end = refl;
      euro_past = refl;
      overlong = refl;
      surrogate = refl;
      too_large = refl;
      cut_off = refl;
      alone = refl;
      shortest = refl;
      before_surrogates = refl;
      after_surrogates = refl;
      largest = refl;
      nothing = refl;
      em_space = refl;
      zero_width_space = refl;
      byte_a0 = refl;
      blank = refl;
      letter = refl;
      digit = refl;
    }
