-- Worked cases, by computation: the pieces of K7 to K11, and points of the rules where a reader may go wrong.
use Rattle.std.specs.Prelude.{◌≡◌, refl, [], ◌∷◌, None, Some}
use Rattle.utf8.specs.Ascii.{same_bytes, bytes}
use Rattle.utf8.specs.Boundary.{is_boundary}
use Rattle.utf8.specs.Utf8.{encode}
use Rattle.measure.specs.Plain.{is_fold}
use Rattle.measure.specs.Scalar.{plain, single_quoted, double_quoted, literal, folded}
use Rattle.provenance.specs.declared.walk.Walked.TheVariants.{NoRoom}
use Rattle.provenance.specs.Run.{white_run, newlines_in, through_last, cut, blank_run, only_newlines}
use Rattle.provenance.specs.Escape.{takes, digits_from, digits, radix16, code_content, single_quote_escapes, is_one_of, one_byte_escapes, backslash_escape, double_quote_escapes, escapes_of}
use Rattle.provenance.specs.Grammar.{break_pair, opens_break, break_step, equal_step, end_step, step}
use Rattle.provenance.specs.Reading.{read_by, reading_of, piece, verbatim, replacement, step_pieces, joined, pieces_of}
use Rattle.provenance.specs.Layout.{laid_by, answer_of, buffer_of, pieces_if}
use Rattle.provenance.specs.Start.{at_empty_block_header, before_newline, header_end, walk_start, list_from, scalar_list}

pub record Worked : Type 0 where
  -- K7: `a`, blank, newline, two blanks, `b`; value `a b`
  pub k7 : scalar_list (bytes "a \n  b") 0 6 (bytes "a b") plain 0
      ≡ Some (piece verbatim 0 1 1 ∷ piece replacement 1 5 1 ∷ piece verbatim 5 6 1 ∷ [])
  -- K8: `a`, three newlines, `b`; value `a`, two newlines, `b`: the pieces reach 5
  pub k8 : scalar_list (bytes "a\n\n\nb") 0 4 (bytes "a\n\nb") plain 0
      ≡ Some (piece verbatim 0 1 1 ∷ piece replacement 1 4 2 ∷ piece verbatim 4 5 1 ∷ [])
  -- K9: `'it''s'`; value `it's`
  pub k9 : scalar_list (bytes "'it''s'") 0 7 (bytes "it's") single_quoted 0
      ≡ Some (piece verbatim 1 3 2 ∷ piece replacement 3 5 1 ∷ piece verbatim 5 6 1 ∷ [])
  -- K10: `"\u20AC"`; value `A`: two past the value
  pub k10 : scalar_list (34 ∷ 92 ∷ 117 ∷ 50 ∷ 48 ∷ 65 ∷ 67 ∷ 34 ∷ []) 0 8 (bytes "A") double_quoted 0
      ≡ Some (piece replacement 1 7 3 ∷ [])
  -- K11: `a: |`, newline, two blanks, `b`; value `b`, newline; at 7, column 2
  pub k11 : scalar_list (bytes "a: |\n  b") 7 1 (bytes "b\n") literal 2
      ≡ Some (piece verbatim 7 8 1 ∷ piece replacement 8 8 1 ∷ [])
  -- an empty value has a list of no pieces, if its walk can start (N1); past the text it cannot
  pub empty_value : scalar_list (bytes "a") 0 0 [] plain 0 ≡ Some []
  pub quote_at_the_end : scalar_list (bytes "a") 1 0 [] single_quoted 0 ≡ None
  -- a block header with only newlines as value starts at its line's newline, or at the span's end
  pub header_line : walk_start (bytes "|-\n") 0 1 [] literal ≡ 2
  pub header_alone : walk_start (bytes ">-") 0 1 (bytes "\n") folded ≡ 1
  -- the value at a tab takes no content of a break, and the tab is then met by nothing
  pub tab_takes_nothing : scalar_list (bytes "\n\t") 0 0 (bytes "\t") plain 0 ≡ None
  -- the column cuts the run after its newlines are counted: two newlines, one blank of indent, then a blank that is content
  pub cut_after_count : scalar_list (bytes "\n\n  a") 0 0 (bytes "\n\n a") literal 1
      ≡ Some (piece replacement 0 3 2 ∷ piece verbatim 3 5 2 ∷ [])
  -- `\u+041` has the code 41; digits that cannot be read count 1; a cut_off escape claims its six bytes
  pub plus_sign : double_quote_escapes (0x5c ∷ bytes "u+041") ≡ takes 6 1
  pub cut_off : scalar_list (0x22 ∷ 0x5c ∷ bytes "u") 0 3 (bytes "a") double_quoted 0 ≡ Some (piece replacement 1 7 1 ∷ [])
  -- the pieces of K10 in a buffer with room for one, and with room for none
  pub k10_left : buffer_of 5 (Some (piece replacement 1 7 3 ∷ [])) ≡ 2 ∷ 1 ∷ 7 ∷ 3 ∷ 0 ∷ []
  pub k10_no_room : answer_of 0 (Some (piece replacement 1 7 3 ∷ [])) ≡ NoRoom

pub worked : Worked
unfolding scalar_list list_from walk_start header_end before_newline at_empty_block_header is_boundary laid_by answer_of buffer_of pieces_if pieces_of
    joined step_pieces reading_of read_by step end_step equal_step break_step opens_break break_pair same_bytes escapes_of double_quote_escapes
    backslash_escape one_byte_escapes is_one_of single_quote_escapes code_content radix16 digits digits_from encode only_newlines blank_run cut
    through_last newlines_in white_run is_fold
worked =
    record {
      k7 = refl;
      k8 = refl;
      k9 = refl;
      k10 = refl;
      k11 = refl;
      empty_value = refl;
      quote_at_the_end = refl;
      header_line = refl;
      header_alone = refl;
      tab_takes_nothing = refl;
      cut_after_count = refl;
      plus_sign = refl;
      cut_off = refl;
      k10_left = refl;
      k10_no_room = refl;
    }
