-- K1 to K12 of document 01 as one statement about the two calls (B4): from the marker index to the whole record and all pieces. A scalar is
-- given as a call on one scalar takes it; the two cases of K12 have a tag, and so are documents, given by their events.
use Rattle.std.specs.Prelude.{ℕ, ◌≡◌, refl, false, List, [], ◌∷◌, ◌++◌}
use Prim.Native.String.{String}
use Rattle.text.specs.Admission.{admission, admission_of_both}
use Rattle.utf8.specs.Boundary.{is_boundary}
use Rattle.text.specs.Offset.{byte_offset}
use Rattle.utf8.specs.Utf8.{encode, encode_all, is_ascii}
use Rattle.utf8.specs.Characters.{codes, chars_after, first_char, char_of, multi_byte, two_bytes, is_utf8, all_some}
use Rattle.utf8.specs.WhiteSpace.{white_space, is_in, is_white_space}
use Rattle.utf8.specs.Ascii.{bytes, same_bytes}
use Rattle.schema.specs.CoreSchema.{core_schema, table, first_match}
use Rattle.schema.specs.Integer.{digit_value, positional, signed_value, in_range, held}
use Rattle.schema.specs.Matcher.{nullable, derivative, accepts}
use Rattle.schema.specs.Record.{two_numbers}
use Rattle.schema.specs.Tag.{standard_tag_suffix, untagged, resolve_scalar}
use Rattle.schema.specs.declared.record.Payload.{Payload}
use Rattle.measure.specs.Run.{white_space_run, after_run, holds_newline}
use Rattle.measure.specs.Plain.{is_fold, begins_with, takes_run, plain_reach, plain_measure}
use Rattle.measure.specs.Quoted.{passed_together, to_closing, quoted_len, quoted_measure}
use Rattle.measure.specs.Block.{lines, is_blank, trimmed_len, ends_block, later_reach, block_reach, block_len}
use Rattle.style.specs.Style.{plain, single_quoted, double_quoted, literal}
use Rattle.measure.specs.Scalar.{block_measure, style_measure, scalar_measure}
use Rattle.provenance.specs.Run.{white_run, newlines_in, through_last, cut, blank_run, only_newlines}
use Rattle.provenance.specs.Escape.{digits_from, digits, radix16, code_content, single_quote_escapes, is_one_of, one_byte_escapes, backslash_escape, double_quote_escapes, escapes_of}
use Rattle.provenance.specs.Grammar.{break_pair, opens_break, break_step, equal_step, end_step, step}
use Rattle.provenance.specs.Reading.{read_by, reading_of, piece, verbatim, replacement, step_pieces, joined, pieces_of}
use Rattle.provenance.specs.Layout.{pieces_if}
use Rattle.provenance.specs.Start.{at_empty_block_header, before_newline, header_end, walk_start, list_from, scalar_list}
use Rattle.tag.specs.Tokens.{byte_length, chars_before, with_word, tokens, tokens_before}
use Rattle.tag.specs.Tag.{openings, property, span_of, decide, first_tag, tag_before, guess, tag_span}
use Rattle.event.specs.Number.{high_first, number_at}
use Rattle.event.specs.Encode as event
use Rattle.event.specs.Encode.{encode_string, encode_tag, encode_rest, encode_body, encode_event}
use Rattle.event.specs.Read.{read_string, read_tag, read_start_tag, read_scalar, read_body, read_event}
use Rattle.records.specs.Record.{absent, extent, no_tag, no_list, piece_list}
use Rattle.records.specs.Parent.{holder, parented}
use Rattle.spans.specs.Scalar.{step_past, scalar_start, tag_info, resolved_by, scalar_over, event_node, mark}
use Rattle.spans.specs.Collection.{closes, collection_end, collection_start, members, collection_over, collection_node}
use Rattle.parser.specs.Machine.{Outcome, built, root_done, before_root, within_depth, within_room, completed, on_start, ended, keeping, scalar_kept, on_scalar, ending, run, run_all}
use Rattle.parser.specs.Call.{building, one_scalar, scalar_call}
use Rattle.records.specs.declared.record.Node.{Node}
use Rattle.records.specs.declared.record.PieceList.{PieceList}
use Rattle.records.specs.declared.record.TagInfo.{TagInfo}

-- ---- calls

-- the scalar with its marker at this index, in this column and style, over a buffer of three pieces
abbrev one : List ℕ → ℕ → ℕ → ℕ → List ℕ → Outcome
one text index column style value = scalar_call text (mark index column style false) value 12

-- a word that is both text and plain value
abbrev word : String → Outcome
word w = one (bytes w) 0 0 plain (bytes w)

-- ---- records

-- a scalar: kind, span, tag, pieces, payload, parent, and 1 for a measured span
abbrev leaf : ℕ → ℕ → ℕ → TagInfo → PieceList → Payload → ℕ → ℕ → Node
leaf kind a e tag list payload parent measured =
    record {
      kind = kind;
      extent = extent a e;
      tag = tag;
      subtree = 1;
      list = list;
      payload = payload;
      parent = parent;
      measured = measured;
    }

-- one without a tag that has the first n pieces and no parent; its span is measured
abbrev scalar : ℕ → ℕ → ℕ → ℕ → Payload → Node
scalar kind a e n payload = leaf kind a e no_tag (piece_list 0 n) payload absent 1

-- a word of n bytes: all of it one piece
abbrev whole : ℕ → ℕ → Payload → Outcome
whole kind n payload = built (scalar kind 0 n 1 payload ∷ []) (piece verbatim 0 n n ∷ [])

-- an array with so many records in its subtree and so many children, the root
abbrev array : ℕ → ℕ → ℕ → ℕ → Node
array a e n children =
    record {
      kind = 7;
      extent = extent a e;
      tag = no_tag;
      subtree = n;
      list = no_list;
      payload = two_numbers children 0;
      parent = absent;
      measured = 1;
    }

-- ---- the text of K1, and the events of K12

-- `é: a`
abbrev accented : List ℕ
accented = 0xc3 ∷ 0xa9 ∷ bytes ": a"

-- a plain scalar, its column its index, with the tag `!` and this suffix
abbrev tagged_scalar : ℕ → String → String → List ℕ
tagged_scalar i suffix w = encode_event (event.scalar i i plain false (event.tagged (bytes "!") (bytes suffix)) (bytes w))

abbrev opening : List ℕ
opening = encode_event (event.sequence_start 0 event.untagged)

abbrev closing : ℕ → List ℕ
closing i = encode_event (event.sequence_end i)

pub record WorkedCases : Type 0 where
  -- index 3 gives byte 4; index 9 gives 5
  pub k1 : one accented 3 3 plain (bytes "a") ≡ built (scalar 5 4 5 1 (two_numbers 0 1) ∷ []) (piece verbatim 4 5 1 ∷ [])
  pub k1_past : one accented 9 9 plain [] ≡ built (scalar 1 5 5 0 (two_numbers 0 0) ∷ []) []
  -- integers (3) with their high and low 32 bits, reals (4) and strings (5) with their place and length
  pub k2 : word "9223372036854775807" ≡ whole 3 19 (two_numbers 0x7fff_ffff 0xffff_ffff)
  pub k3 : word "9223372036854775808" ≡ whole 4 19 (two_numbers 0 19)
  pub k4 : word "-9223372036854775808" ≡ whole 3 20 (two_numbers 0x8000_0000 0)
  pub k5 : word "0xFFFFFFFFFFFFFFFF" ≡ whole 5 18 (two_numbers 0 18)
  pub k6_nan : word "+.nan" ≡ whole 5 5 (two_numbers 0 5)
  pub k6_inf : word "+.inf" ≡ whole 4 5 (two_numbers 0 5)
  pub octal_17 : word "0o17" ≡ whole 3 4 (two_numbers 0 15)
  pub minus_zero : word "-0" ≡ whole 3 2 (two_numbers 0 0)
  pub leading_zeros : word "007" ≡ whole 3 3 (two_numbers 0 7)
  -- a fold
  pub k7 : one (bytes "a \n  b") 0 0 plain (bytes "a b")
      ≡ built (scalar 5 0 6 3 (two_numbers 0 3) ∷ []) (piece verbatim 0 1 1 ∷ piece replacement 1 5 1 ∷ piece verbatim 5 6 1 ∷ [])
  -- the pieces reach 5; the span is assumed
  pub k8 : one (bytes "a\n\n\nb") 0 0 plain (bytes "a\n\nb")
      ≡ built (leaf 5 0 4 no_tag (piece_list 0 3) (two_numbers 0 4) absent 0 ∷ []) (piece verbatim 0 1 1 ∷ piece replacement 1 4 2 ∷ piece verbatim 4 5 1 ∷ [])
  pub k9 : one (bytes "'it''s'") 0 0 single_quoted (bytes "it's")
      ≡ built (scalar 5 0 7 3 (two_numbers 0 4) ∷ []) (piece verbatim 1 3 2 ∷ piece replacement 3 5 1 ∷ piece verbatim 5 6 1 ∷ [])
  -- `"\u20AC"`: two past the value
  pub k10 : one (0x22 ∷ 0x5c ∷ 0x75 ∷ 0x32 ∷ 0x30 ∷ 0x41 ∷ 0x43 ∷ 0x22 ∷ []) 0 0 double_quoted (bytes "A")
      ≡ built (scalar 5 0 8 1 (two_numbers 0 1) ∷ []) (piece replacement 1 7 3 ∷ [])
  pub k11 : one (bytes "a: |\n  b") 7 2 literal (bytes "b\n")
      ≡ built (scalar 5 7 8 2 (two_numbers 0 2) ∷ []) (piece verbatim 7 8 1 ∷ piece replacement 8 8 1 ∷ [])
  -- no tag is found, and its span is guessed as 6..8
  pub k12 : building (bytes "[a,!t b]") (opening ++ encode_event (event.scalar 1 1 plain false event.untagged (bytes "a")) ++ tagged_scalar 6 "t" "b" ++ closing 7) 42 8
      ≡ built
      (leaf 5 1 2 no_tag (piece_list 0 1) (two_numbers 22 1) 2 1
      ∷ leaf 5 6 7 (record { start = 6; end = 8; suffix = 42; len = 1 }) (piece_list 1 1) (two_numbers 43 1) 2 1
      ∷ array 0 8 3 2
      ∷ [])
      (piece verbatim 1 2 1 ∷ piece verbatim 6 7 1 ∷ [])
  -- it is found at 1..5
  pub k12_found : building (bytes "[!tag a]") (opening ++ tagged_scalar 6 "tag" "a" ++ closing 7) 28 4
      ≡ built
      (leaf 5 6 7 (record { start = 1; end = 5; suffix = 27; len = 3 }) (piece_list 0 1) (two_numbers 30 1) 1 1 ∷ array 0 8 2 1 ∷ [])
      (piece verbatim 6 7 1 ∷ [])

pub k1_to_k12 : WorkedCases
unfolding scalar_call one_scalar admission_of_both admission is_ascii is_utf8 all_some byte_offset codes chars_after first_char char_of multi_byte two_bytes
    encode encode_all building parented holder run_all run ending root_done before_root within_depth within_room completed on_start ended keeping scalar_kept on_scalar
    step_past scalar_start tag_info resolved_by scalar_over event_node closes collection_end collection_start members collection_over collection_node high_first
    number_at encode_string encode_tag encode_rest encode_body encode_event read_string read_tag read_start_tag read_scalar read_body read_event
    standard_tag_suffix resolve_scalar untagged core_schema table first_match accepts derivative nullable held in_range signed_value positional
    digit_value byte_length chars_before with_word tokens tokens_before openings property span_of decide first_tag tag_before guess tag_span
    is_boundary scalar_measure style_measure plain_measure plain_reach takes_run begins_with is_fold holds_newline after_run white_space_run is_white_space is_in
    white_space passed_together to_closing quoted_len quoted_measure block_measure lines is_blank trimmed_len ends_block later_reach block_reach block_len scalar_list
    list_from walk_start header_end before_newline at_empty_block_header pieces_if pieces_of joined step_pieces reading_of read_by step end_step equal_step
    break_step opens_break break_pair same_bytes escapes_of double_quote_escapes backslash_escape one_byte_escapes is_one_of single_quote_escapes code_content
    radix16 digits digits_from white_run newlines_in through_last cut blank_run only_newlines
k1_to_k12 =
    record {
      k1 = refl;
      k1_past = refl;
      k2 = refl;
      k3 = refl;
      k4 = refl;
      k5 = refl;
      k6_nan = refl;
      k6_inf = refl;
      octal_17 = refl;
      minus_zero = refl;
      leading_zeros = refl;
      k7 = refl;
      k8 = refl;
      k9 = refl;
      k10 = refl;
      k11 = refl;
      k12 = refl;
      k12_found = refl;
    }
