-- Worked cases, by computation: `é: a` has four characters in five bytes.
use Rattle.std.specs.Prelude.{◌≡◌, refl, List, [], ◌∷◌, ℕ, Ok, Err}
use Prim.Native.String.{String}
use Rattle.utf8.specs.Ascii.{bytes}
use Rattle.utf8.specs.Utf8.{encode, encode_all, is_ascii}
use Rattle.utf8.specs.Characters.{two_bytes, three_bytes, four_bytes, multi_byte, char_of, first_char, chars_after, codes, all_some, is_utf8}
use Rattle.text.specs.Admission.{admission}
use Rattle.text.specs.declared.admission.TextError.TheVariants.{NotUtf8}
use Rattle.travel.specs.Travel.{distances, cursor_travel, counted}

-- the text of some characters, beyond ASCII too
abbrev text : String → List ℕ
text s = encode_all (bytes s)

pub record Worked : Type 0 where
  -- on to the third character's end, back by two, on to the text's end, and back to its start: 3, 2, 3 and 4
  pub on_and_back : cursor_travel (text "é: a") (3 ∷ 1 ∷ 9 ∷ 0 ∷ []) ≡ Ok 12
  -- markers past the text stand where its end does
  pub past : cursor_travel (text "é: a") (4 ∷ 9 ∷ 0xffff_ffff ∷ []) ≡ Ok 4
  -- where it stands no step is needed
  pub same : cursor_travel (text "é: a") (0 ∷ 0 ∷ []) ≡ Ok 0
  pub none : cursor_travel (text "é: a") [] ≡ Ok 0
  -- of three and four bytes
  pub wide : cursor_travel (text "€😀") (2 ∷ 1 ∷ 2 ∷ []) ≡ Ok 4
  -- ASCII, and nothing at all
  pub ascii : cursor_travel (text "e: a") (3 ∷ 1 ∷ 9 ∷ 0 ∷ []) ≡ Ok 0
  pub empty : cursor_travel [] (3 ∷ 1 ∷ []) ≡ Ok 0
  -- no UTF-8
  pub refused : cursor_travel (0xc3 ∷ []) (1 ∷ []) ≡ Err NotUtf8
  -- in numbers
  pub count_numbers : counted (cursor_travel (text "€😀") (2 ∷ 1 ∷ [])) ≡ 0 ∷ 3 ∷ []
  pub refusal_numbers : counted (cursor_travel (0xc3 ∷ []) (1 ∷ [])) ≡ 2 ∷ 0 ∷ []

pub worked : Worked
unfolding cursor_travel distances admission encode_all encode is_ascii codes chars_after first_char char_of multi_byte two_bytes three_bytes four_bytes is_utf8 all_some
worked =
    record {
      on_and_back = refl;
      past = refl;
      same = refl;
      none = refl;
      wide = refl;
      ascii = refl;
      empty = refl;
      refused = refl;
      count_numbers = refl;
      refusal_numbers = refl;
    }
