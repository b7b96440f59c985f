-- Worked cases, by computation: the spans of K7, K8, K9 and K11, then points of the rules where a careful reader may still go wrong.
-- Texts and values are their bytes, and the text is the rest from the scalar's start.
use Rattle.std.specs.Prelude.{ℕ, ◌≡◌, refl, true, false, [], ◌∷◌}
use Rattle.utf8.specs.Utf8.{encode, encode_all}
use Rattle.utf8.specs.Characters.{codes, chars_after, first_char, char_of, multi_byte, two_bytes, three_bytes}
use Rattle.utf8.specs.WhiteSpace.{white_space, is_in, is_white_space}
use Rattle.measure.specs.Run.{white_space_run, after_run, holds_newline}
use Rattle.utf8.specs.Ascii.{single_quote, double_quote, backslash, bytes}
use Rattle.measure.specs.Length.{measured, assumed}
use Rattle.measure.specs.Plain.{is_fold, begins_with, takes_run, plain_reach, plain_measure}
use Rattle.measure.specs.Quoted.{passed_together, to_closing, quoted_len, quoted_measure}
use Rattle.measure.specs.Block.{lines, is_blank, trimmed_len, ends_block, later_reach, block_reach, block_len}
use Rattle.style.specs.StyleLaws.{StyleNumbers, style_numbers}
use Rattle.measure.specs.Scalar.{plain, single_quoted, double_quoted, literal, folded, block_measure, style_measure, scalar_measure, scalar_len}

abbrev a : ℕ
a = 97

abbrev b : ℕ
b = 98

-- the spans of document 01's cases
pub record CaseSpans : Type 0 where
  -- `a`, blank, newline, two blanks, `b`; value `a b`: 0..6
  pub k7 : scalar_len (bytes "a \n  b") (bytes "a b") plain false 0 ≡ 6
  -- `a`, three newlines, `b`; value `a`, two newlines, `b`: 0..4, since the second newline finds no run left
  pub k8 : scalar_len (bytes "a\n\n\nb") (bytes "a\n\nb") plain false 0 ≡ 4
  -- `'it''s'`, value `it's`: 0..7
  pub k9 : scalar_len (bytes "'it''s'") (bytes "it's") single_quoted false 0 ≡ 7
  -- the rest from index 7 is `b`, value `b` newline, column 2: 7..8
  pub k11 : scalar_len (bytes "b") (bytes "b\n") literal false 2 ≡ 1

-- white space goes by code points, not by bytes
pub record WhiteSpaceByCodePoints : Type 0 where
  -- `b`, then a line of U+2003 alone, which is blank and left out
  pub blank_line : scalar_len (0x62 ∷ 0xa ∷ 0xe2 ∷ 0x80 ∷ 0x83 ∷ bytes "\n") [] literal false 4 ≡ 1
  -- `b` and U+00C5, whose second byte is 133: a letter, and the end of the line
  pub letter : scalar_len (b ∷ 0xc3 ∷ 0x85 ∷ []) [] literal false 0 ≡ 3
  -- U+2003 before `b` is three bytes of leading white space: enough for column 3, too few for 4
  pub indent : scalar_len (0x61 ∷ 0xa ∷ 0xe2 ∷ 0x80 ∷ 0x83 ∷ bytes "b") [] literal false 3 ≡ 6
  pub too_few : scalar_len (0x61 ∷ 0xa ∷ 0xe2 ∷ 0x80 ∷ 0x83 ∷ bytes "b") [] literal false 4 ≡ 1
  -- a run of U+0085 and a newline becomes a blank
  pub run : scalar_len (0x61 ∷ 0xc2 ∷ 0x85 ∷ bytes "\nb") (bytes "a b") plain false 0 ≡ 5

-- plain: a blank takes a run only if that holds a newline; the span ends after the last equal character
pub record PlainPoints : Type 0 where
  -- two blanks in the text and two in the value are equal
  pub equal_blanks : scalar_len (bytes "a  b") (bytes "a  b") plain false 0 ≡ 4
  -- one in the value takes no run of two, and the value's length stands in
  pub no_newline : scalar_len (bytes "a  b") (bytes "a b") plain false 0 ≡ 3
  -- a run at the end is no part of the span
  pub last_equal : scalar_len (bytes "a\n ") (bytes "a ") plain false 0 ≡ 1
  pub empty_value : scalar_len (bytes "a") [] plain false 0 ≡ 0

-- quoted: what is passed on the way to the closing mark
pub record QuotedPoints : Type 0 where
  -- `"\""`: the escaped mark is passed
  pub escaped_mark : scalar_len (double_quote ∷ backslash ∷ double_quote ∷ double_quote ∷ []) (double_quote ∷ []) double_quoted false 0 ≡ 4
  -- `"a\`: the byte after the backslash lies past the text, no mark closes, and the value's length stands in
  pub cut_off : scalar_len (double_quote ∷ a ∷ backslash ∷ []) (bytes "a") double_quoted false 0 ≡ 1
  -- `'\'`: in single quotes a backslash passes nothing
  pub backslash_alone : scalar_len (single_quote ∷ backslash ∷ single_quote ∷ []) (backslash ∷ []) single_quoted false 0 ≡ 3
  -- no opening mark
  pub no_opening : scalar_len (a ∷ double_quote ∷ double_quote ∷ []) (bytes "ab") double_quoted false 0 ≡ 2

-- block: lines, the column, and where it ends
pub record BlockPoints : Type 0 where
  -- the first line is not held against the column, the second is, up to the largest column
  pub first_line : scalar_len (bytes "a\n b") [] folded false 0xffff_ffff ≡ 1
  -- a carriage return ends no line, and is trimmed where it ends one
  pub return_inside : scalar_len (0x61 ∷ 0xd ∷ bytes "b") [] literal false 1 ≡ 3
  pub return_trimmed : scalar_len (0x61 ∷ 0xd ∷ bytes "\n") [] literal false 1 ≡ 1
  -- at a header with nothing but a newline after it the header itself is measured
  pub header : scalar_len (bytes "|\n") [] literal false 0 ≡ 1
  -- blank lines between others count, at the end they do not
  pub between : scalar_len (bytes "a\n\n b\n\n") [] literal false 1 ≡ 5
  pub all_blank : scalar_len (bytes " \n\n") [] literal false 0 ≡ 0
  pub empty_span_is : scalar_len (bytes "a") [] literal true 0 ≡ 0

-- a length that falls back to the value's is cut to the text left, and may end inside a character
pub record Fallbacks : Type 0 where
  -- U+00E9 is two bytes; the value `a` has one
  pub inside_a_character : scalar_len (0xc3 ∷ 0xa9 ∷ []) (bytes "a") plain false 0 ≡ 1
  pub cut : scalar_len (double_quote ∷ []) (bytes "ab") double_quoted false 0 ≡ 1

-- whether a length was measured or assumed (02, (b))
pub record Flags : Type 0 where
  pub k7 : scalar_measure (bytes "a \n  b") (bytes "a b") plain false 0 ≡ measured 6
  pub k8 : scalar_measure (bytes "a\n\n\nb") (bytes "a\n\nb") plain false 0 ≡ assumed 4
  -- nothing of an empty value is left unmatched
  pub empty_value : scalar_measure (bytes "a") [] plain false 0 ≡ measured 0
  -- the last character alone is not matched; the length happens to be right
  pub last_unmatched : scalar_measure (bytes "ab") (bytes "ac") plain false 0 ≡ assumed 2
  -- nor is the text long enough, and the length is cut
  pub text_ends : scalar_measure (bytes "ab") (bytes "abc") plain false 0 ≡ assumed 2
  -- a last blank takes the run that is left out
  pub run_left_out : scalar_measure (bytes "a\n ") (bytes "a ") plain false 0 ≡ measured 1
  -- a line that begins with U+00A0: the blank takes it too
  pub wide_blank : scalar_measure (0x61 ∷ 0xa ∷ 0xc2 ∷ 0xa0 ∷ []) (0x61 ∷ 0x20 ∷ 0xc2 ∷ 0xa0 ∷ []) plain false 0 ≡ assumed 4
  pub k9 : scalar_measure (bytes "'it''s'") (bytes "it's") single_quoted false 0 ≡ measured 7
  pub no_opening : scalar_measure (a ∷ double_quote ∷ double_quote ∷ []) (bytes "ab") double_quoted false 0 ≡ assumed 2
  pub no_closing : scalar_measure (bytes "'ab") (bytes "abc") single_quoted false 0 ≡ assumed 3
  -- the mark that would close is escaped
  pub escaped : scalar_measure (double_quote ∷ backslash ∷ double_quote ∷ []) (bytes "a") double_quoted false 0 ≡ assumed 1
  pub block : scalar_measure (bytes "a\n b") [] folded false 1 ≡ measured 4
  pub empty_span_is : scalar_measure (bytes "a") [] literal true 0 ≡ measured 0

pub record Worked : Type 0 where
  pub styles : StyleNumbers
  pub spans : CaseSpans
  pub white_space_is : WhiteSpaceByCodePoints
  pub plains : PlainPoints
  pub quoted : QuotedPoints
  pub blocks : BlockPoints
  pub fallbacks : Fallbacks
  pub flags : Flags

pub worked : Worked
unfolding scalar_measure style_measure plain_measure plain_reach takes_run begins_with is_fold holds_newline after_run white_space_run is_white_space is_in white_space
    codes chars_after first_char char_of multi_byte two_bytes three_bytes encode encode_all quoted_measure quoted_len to_closing passed_together
    block_measure block_len block_reach later_reach ends_block trimmed_len is_blank lines
worked =
    record {
      styles = style_numbers;
      spans = record { k7 = refl; k8 = refl; k9 = refl; k11 = refl };
      white_space_is = record { blank_line = refl; letter = refl; indent = refl; too_few = refl; run = refl };
      plains = record { equal_blanks = refl; no_newline = refl; last_equal = refl; empty_value = refl };
      quoted = record { escaped_mark = refl; cut_off = refl; backslash_alone = refl; no_opening = refl };
      blocks =
          record { first_line = refl; return_inside = refl; return_trimmed = refl; header = refl; between = refl; all_blank = refl; empty_span_is = refl };
      fallbacks = record { inside_a_character = refl; cut = refl };
      flags =
          record {
            k7 = refl;
            k8 = refl;
            empty_value = refl;
            last_unmatched = refl;
            text_ends = refl;
            run_left_out = refl;
            wide_blank = refl;
            k9 = refl;
            no_opening = refl;
            no_closing = refl;
            escaped = refl;
            block = refl;
            empty_span_is = refl;
          };
    }
