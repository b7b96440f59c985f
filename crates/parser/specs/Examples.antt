-- Worked inputs of the two calls, by computation: the smallest input of each row of the table, and the places where the order of the
-- rows, the free entry and the depth decide (R0 to R9, RO, E4, N1). Row 1 is stated for every input that is too long.
use Rattle.std.specs.Prelude.{ℕ, zero, suc, ◌+◌, ◌<◌, ◌≡◌, refl, Bool, true, false, cond, List, [], ◌∷◌, ◌++◌, ltb, length}
use Rattle.std.proofs.Common.{lt-ltb}
use Rattle.utf8.specs.Ascii.{same_bytes, bytes, double_quote, backslash}
use Rattle.utf8.specs.Boundary.{is_boundary}
use Rattle.text.specs.Offset.{byte_offset}
use Rattle.utf8.specs.Utf8.{encode, encode_all, is_ascii}
use Rattle.utf8.specs.Characters.{codes, chars_after, first_char, char_of, multi_byte, two_bytes, is_utf8, all_some}
use Rattle.utf8.specs.WhiteSpace.{white_space, is_in, is_white_space}
use Rattle.schema.specs.CoreSchema.{core_schema}
use Rattle.measure.specs.Run.{white_space_run, after_run, holds_newline}
use Rattle.measure.specs.Plain.{is_fold, begins_with, takes_run, plain_reach, plain_measure}
use Rattle.measure.specs.Quoted.{passed_together, to_closing, quoted_len, quoted_measure}
use Rattle.measure.specs.Block.{lines, is_blank, trimmed_len, ends_block, later_reach, block_reach, block_len}
use Rattle.measure.specs.Scalar.{block_measure, style_measure, scalar_measure}
use Rattle.provenance.specs.Run.{white_run, newlines_in, through_last, cut, blank_run, only_newlines}
use Rattle.provenance.specs.Escape.{digits_from, digits, radix16, code_content, single_quote_escapes, is_one_of, one_byte_escapes, backslash_escape, double_quote_escapes, escapes_of}
use Rattle.provenance.specs.Grammar.{break_pair, opens_break, break_step, equal_step, end_step, step}
use Rattle.provenance.specs.Reading.{read_by, reading_of, piece, verbatim, replacement, step_pieces, joined, pieces_of}
use Rattle.provenance.specs.Layout.{pieces_if}
use Rattle.provenance.specs.Start.{at_empty_block_header, before_newline, header_end, walk_start, list_from, scalar_list}
use Rattle.text.specs.Admission.{text_limit, admission, admission_of_both}
use Rattle.schema.specs.CoreSchema.{table, first_match}
use Rattle.schema.specs.Integer.{digit_value, positional, signed_value, in_range, held}
use Rattle.schema.specs.Matcher.{nullable, derivative, accepts}
use Rattle.schema.specs.Tag.{untagged, resolve_scalar}
use Rattle.schema.specs.Record.{truth, two_numbers}
use Rattle.event.specs.Number.{number_at}
use Rattle.event.specs.Read.{events_limit, read_string, read_tag, read_start_tag, read_scalar, read_body, read_event}
use Rattle.records.specs.Record.{absent, extent, no_tag, no_list, piece_list, with_parent, alias_node}
use Rattle.records.specs.Parent.{holder, parented}
use Rattle.spans.specs.Scalar.{Mark, step_past, scalar_start, tag_info, resolved_by, scalar_over, event_node, mark}
use Rattle.spans.specs.Collection.{closes, collection_end, collection_start, members, collection_over, collection_node}
use Rattle.parser.specs.Machine.{Outcome, built, refused, root_done, before_root, within_depth, within_room, completed, on_start, ended, on_alias, keeping, scalar_kept, on_scalar, ending, run, run_all}
use Rattle.records.specs.Layout.{piece_room}
use Rattle.parser.specs.Call.{record_of, building, one_scalar, scalar_call}
use Rattle.records.specs.declared.record.Node.{Node}
use Rattle.records.specs.declared.record.PieceList.{PieceList}

-- ---- events with their marker at index i

abbrev sequence : ℕ → List ℕ
sequence i = 1 ∷ 0 ∷ 5 ∷ 0 ∷ 0 ∷ 0 ∷ i ∷ 0 ∷ []

abbrev sequence_end : ℕ → List ℕ
sequence_end i = 2 ∷ 0 ∷ 4 ∷ 0 ∷ 0 ∷ 0 ∷ i ∷ []

abbrev mapping : ℕ → List ℕ
mapping i = 3 ∷ 0 ∷ 5 ∷ 0 ∷ 0 ∷ 0 ∷ i ∷ 0 ∷ []

abbrev mapping_end : ℕ → List ℕ
mapping_end i = 4 ∷ 0 ∷ 4 ∷ 0 ∷ 0 ∷ 0 ∷ i ∷ []

abbrev alias : ℕ → List ℕ
alias i = 6 ∷ 0 ∷ 4 ∷ 0 ∷ 0 ∷ 0 ∷ i ∷ []

-- a plain scalar with the value of no bytes, of one, and of two
abbrev empty : ℕ → List ℕ
empty i = 5 ∷ 0 ∷ 11 ∷ 0 ∷ 0 ∷ 0 ∷ i ∷ 0 ∷ 0 ∷ 0 ∷ 0 ∷ 0 ∷ 0 ∷ 0 ∷ []

abbrev scalar : ℕ → ℕ → List ℕ
scalar i a = 5 ∷ 0 ∷ 12 ∷ 0 ∷ 0 ∷ 0 ∷ i ∷ 0 ∷ 0 ∷ 0 ∷ 0 ∷ 0 ∷ 0 ∷ 0 ∷ a ∷ []

abbrev scalar2 : ℕ → ℕ → ℕ → List ℕ
scalar2 i a b = 5 ∷ 0 ∷ 13 ∷ 0 ∷ 0 ∷ 0 ∷ i ∷ 0 ∷ 0 ∷ 0 ∷ 0 ∷ 0 ∷ 0 ∷ 0 ∷ a ∷ b ∷ []

-- n sequences, one inside the other
unfoldable pub deep : ℕ → List ℕ
deep zero = []
deep (suc n) = sequence 0 ++ deep n

-- ---- row 1: a text or event bytes above their limit, whatever else holds; so it comes before 2

either : (t : Bool) (o : Outcome) → o ≡ refused 1 0 → cond t (refused 1 0) o ≡ refused 1 0
either true o e = refl
either false o e = e

pub row_1_text : (text events : List ℕ) (n m : ℕ) → 1_048_576 < length text → building text events n m ≡ refused 1 0
unfolding building admission
row_1_text text events n m h = either (ltb events_limit (length events)) _ (rw (lt-ltb text_limit (length text) h) refl)

-- and the limits are no lower
pub limits : (text_limit ≡ 1_048_576) × (events_limit ≡ 4_194_304)
limits = (refl, refl)

pub row_1_events : (text events : List ℕ) (n m : ℕ) → 4_194_304 < length events → building text events n m ≡ refused 1 0
unfolding building
row_1_events text events n m h = rw (lt-ltb events_limit (length events) h) refl

-- ---- the other rows

-- a node without a tag: kind, span, records in its subtree, pieces, payload, parent, and 1 for a measured span
abbrev node : ℕ → ℕ → ℕ → ℕ → PieceList → ℕ → ℕ → ℕ → ℕ → Node
node kind a e n list p q parent measured =
    record {
      kind = kind;
      extent = extent a e;
      tag = no_tag;
      subtree = n;
      list = list;
      payload = two_numbers p q;
      parent = parent;
      measured = measured;
    }

-- a string of one byte, its value at this place of the event bytes
abbrev letter : ℕ → ℕ → ℕ → ℕ → Node
letter i first place parent = node 5 i (i + 1) 1 (piece_list first 1) place 1 parent 1

pub record Rows : Type 0 where
  pub row_0 : building [] (alias 0) 14 0 ≡ built (alias_node 0 ∷ []) []
  pub row_2 : building (0x80 ∷ []) [] 0 0 ≡ refused 2 0
  pub row_3 : building [] (0 ∷ []) 0 0 ≡ refused 3 0
  pub row_4 : building [] (sequence_end 0) 0 0 ≡ refused 4 0
  pub row_4_kinds : building [] (sequence 0 ++ mapping_end 0) 0 0 ≡ refused 4 1
  pub row_4_key : building [] (mapping 0 ++ alias 0 ++ mapping_end 0) 28 0 ≡ refused 4 2
  -- an end after the root is a 4, a node a 5
  pub row_4_after_root : building [] (alias 0 ++ sequence_end 0) 28 0 ≡ refused 4 1
  pub row_5 : building [] (alias 0 ++ alias 0) 28 0 ≡ refused 5 1
  pub row_7 : building [] (alias 0) 13 0 ≡ refused 7 0
  pub row_8 : building (bytes "a") (scalar 0 97) 14 3 ≡ refused 8 0
  pub row_8_fits : building (bytes "a") (scalar 0 97) 14 4 ≡ built (letter 0 0 14 absent ∷ []) (piece verbatim 0 1 1 ∷ [])
  pub row_9 : building [] [] 0 0 ≡ refused 9 0
  pub row_9_open : building [] (sequence 0) 0 0 ≡ refused 9 1
  -- 4 comes before 7 (a key without value, and no record left), 5 before 7, 7 before 8, and 3 before all
  pub order_4_7 : building [] (mapping 0 ++ alias 0 ++ mapping_end 0) 14 0 ≡ refused 4 2
  pub order_5_7 : building [] (alias 0 ++ alias 0) 14 0 ≡ refused 5 1
  pub order_7_8 : building (bytes "a") (scalar 0 97) 0 0 ≡ refused 7 0
  pub order_3_5 : building [] (alias 0 ++ (0 ∷ [])) 14 0 ≡ refused 3 1

pub rows : Rows
unfolding building parented holder run_all run ending root_done before_root within_depth within_room completed on_start ended on_alias keeping scalar_kept on_scalar step_past
    scalar_start tag_info resolved_by scalar_over event_node closes collection_end collection_start members collection_over collection_node admission is_ascii
    is_utf8 all_some byte_offset number_at read_string read_tag read_start_tag read_scalar read_body read_event resolve_scalar untagged core_schema table
    first_match accepts derivative nullable held in_range signed_value positional digit_value is_boundary scalar_measure style_measure plain_measure
    plain_reach takes_run begins_with is_fold holds_newline after_run white_space_run is_white_space is_in white_space codes chars_after first_char char_of
    multi_byte encode encode_all passed_together to_closing quoted_len quoted_measure block_measure lines is_blank trimmed_len ends_block later_reach block_reach
    block_len scalar_list list_from walk_start header_end before_newline at_empty_block_header pieces_if pieces_of joined step_pieces reading_of read_by step
    end_step equal_step break_step opens_break break_pair same_bytes escapes_of double_quote_escapes backslash_escape one_byte_escapes is_one_of
    single_quote_escapes code_content radix16 digits digits_from white_run newlines_in through_last cut blank_run only_newlines
rows =
    record {
      row_0 = refl;
      row_2 = refl;
      row_3 = refl;
      row_4 = refl;
      row_4_kinds = refl;
      row_4_key = refl;
      row_4_after_root = refl;
      row_5 = refl;
      row_7 = refl;
      row_8 = refl;
      row_8_fits = refl;
      row_9 = refl;
      row_9_open = refl;
      order_4_7 = refl;
      order_5_7 = refl;
      order_7_8 = refl;
      order_3_5 = refl;
    }

-- 64 open collections pass, and the 65th is a 6
pub depth : (building [] (deep 64) 0 0 ≡ refused 9 64) × (building [] (deep 65) 0 0 ≡ refused 6 64)
unfolding deep building run_all run ending root_done before_root within_depth on_start admission is_ascii is_utf8 all_some byte_offset codes chars_after
    encode_all number_at read_tag read_start_tag read_body read_event
depth = (refl, refl)

-- whole pieces fit, and never more than 4,294,967,294 (R8)
pub piece_room_lem : (piece_room 7 ≡ 1) × (piece_room 17_179_869_180 ≡ 4_294_967_294)
piece_room_lem = (refl, refl)

-- ---- measured or assumed (02, (b)), and whether there is a list: the inputs of docs/DIFFERENCES.md

-- whether the span of the one scalar is measured, that span and its list
abbrev Flagged : List ℕ → Mark → List ℕ → Bool → ℕ → ℕ → PieceList → Type 0
Flagged text m value flag start end list =
    ((record_of (scalar_call text m value 12)).measured ≡ truth flag)
    × ((record_of (scalar_call text m value 12)).extent ≡ extent start end)
    × ((record_of (scalar_call text m value 12)).list ≡ list)

abbrev plain_at : ℕ → Mark
plain_at index = mark index 0 0 false

pub record Flags : Type 0 where
  -- plain, measured: with a list; with one that ends past the span; without one
  pub line : Flagged (bytes "a\n b") (plain_at 0) (bytes "a b") true 0 4 (piece_list 0 3)
  pub past_the_span : Flagged (bytes "a\n") (plain_at 0) (bytes "a ") true 0 1 (piece_list 0 2)
  pub tab_before_break : Flagged (0x9 ∷ 0xa ∷ []) (plain_at 0) (0x9 ∷ []) true 0 1 no_list
  pub wide_in_a_run : Flagged (0x61 ∷ 0xa ∷ 0xc2 ∷ 0xa0 ∷ 0x62 ∷ []) (plain_at 0) (bytes "a b") true 0 5 no_list
  -- plain, assumed: two with a list, K8's shape among them; one without
  pub k8 : Flagged (bytes "a: x\n\n\ny") (plain_at 3) (bytes "x\n\ny") false 3 7 (piece_list 0 3)
  pub wide_line : Flagged (0x61 ∷ 0xa ∷ 0xc2 ∷ 0xa0 ∷ []) (plain_at 0) (0x61 ∷ 0x20 ∷ 0xc2 ∷ 0xa0 ∷ []) false 0 4 (piece_list 0 3)
  pub other : Flagged (bytes "a") (plain_at 0) (bytes "b") false 0 1 no_list
  -- quoted: `"a` has a list and `"\e"` has none
  pub unclosed : Flagged (double_quote ∷ bytes "a") (mark 0 0 2 false) (bytes "a") false 0 1 (piece_list 0 1)
  pub unknown_escape : Flagged (double_quote ∷ backslash ∷ 0x65 ∷ double_quote ∷ []) (mark 0 0 2 false) (0x1b ∷ []) true 0 4 no_list
  -- block, on an empty span
  pub empty_span_is : Flagged (bytes "a") (mark 0 0 3 true) [] true 0 0 (piece_list 0 0)

-- ---- lists

pub record Lists : Type 0 where
  -- the text `ab` with the value `ac`: the walk fails after a piece that would not fit, and that is no 8
  pub failed_walk : building (bytes "ab") (scalar2 0 97 99) 14 0
      ≡ built (node 5 0 2 1 no_list 14 2 absent 0 ∷ []) []
  -- the text `a`, and a sequence of `a` and an empty value behind it: the list of that has no pieces, and starts at the next free entry
  pub next_free : building (bytes "a") (sequence 0 ++ scalar 0 97 ++ empty 1 ++ sequence_end 1) 42 4
      ≡ built (letter 0 0 22 2 ∷ node 1 1 1 1 (piece_list 1 0) 0 0 2 1 ∷ node 7 0 1 3 no_list 2 0 absent 1 ∷ []) (piece verbatim 0 1 1 ∷ [])
  -- `:` as a key and a value: the value steps past the colon, the key does not; the mapping starts at its key
  pub past_colon : building (bytes ":") (mapping 0 ++ empty 0 ++ empty 0 ++ mapping_end 1) 42 0
      ≡ built (node 1 0 0 1 (piece_list 0 0) 0 0 2 1 ∷ node 1 1 1 1 (piece_list 0 0) 0 0 2 1 ∷ node 8 0 1 3 no_list 1 0 absent 1 ∷ []) []
  -- and so does the value of the next pair
  pub past_colon_again : building (bytes ":") (mapping 0 ++ empty 0 ++ empty 0 ++ empty 0 ++ empty 0 ++ mapping_end 1) 70 0
      ≡ built
      (node 1 0 0 1 (piece_list 0 0) 0 0 4 1 ∷ node 1 1 1 1 (piece_list 0 0) 0 0 4 1 ∷ node 1 0 0 1 (piece_list 0 0) 0 0 4 1 ∷ node 1 1 1 1 (piece_list 0 0) 0 0 4 1
      ∷ node 8 0 1 5 no_list 2 0 absent 1 ∷ [])
      []
  -- a sequence of a sequence, which has an alias, and an alias: the parent of each is the collection it stands in; the root has none
  pub parents : building [] (sequence 0 ++ sequence 0 ++ alias 0 ++ sequence_end 0 ++ alias 0 ++ sequence_end 0) 56 0
      ≡ built
      (with_parent (alias_node 0) 1 ∷ node 7 0 0 2 no_list 1 0 3 1 ∷ with_parent (alias_node 0) 3 ∷ node 7 0 0 4 no_list 2 0 absent 1 ∷ [])
      []
  -- the call on one scalar: its value has the place 0, and its first piece the number 0
  pub one : scalar_call (bytes "a") (mark 0 0 0 false) (bytes "a") 4 ≡ built (letter 0 0 0 absent ∷ []) (piece verbatim 0 1 1 ∷ [])
  -- newline and two blanks, the value a newline and a blank, literal in column 1: the column cuts what the newline takes to 0..2
  pub column_cuts : scalar_call (bytes "\n  ") (mark 0 1 3 false) (bytes "\n ") 8
      ≡ built (node 5 0 0 1 (piece_list 0 2) 0 2 absent 1 ∷ []) (piece replacement 0 2 1 ∷ piece verbatim 2 3 1 ∷ [])
  pub one_style : scalar_call [] (mark 0 0 5 false) [] 0 ≡ refused 3 0
  pub one_room : scalar_call (bytes "a") (mark 0 0 0 false) (bytes "a") 3 ≡ refused 8 0
  pub flags : Flags

pub lists : Lists
unfolding scalar_call one_scalar admission_of_both building parented holder run_all run ending root_done before_root within_depth within_room completed on_start ended
    on_alias keeping scalar_kept on_scalar step_past scalar_start tag_info resolved_by scalar_over event_node closes collection_end collection_start members
    collection_over collection_node admission is_ascii is_utf8 all_some byte_offset number_at read_string read_tag read_start_tag read_scalar read_body
    read_event resolve_scalar untagged core_schema table first_match accepts derivative nullable held in_range signed_value positional digit_value
    is_boundary scalar_measure style_measure plain_measure plain_reach takes_run begins_with is_fold holds_newline after_run white_space_run is_white_space
    is_in white_space codes chars_after first_char char_of multi_byte two_bytes encode encode_all passed_together to_closing quoted_len quoted_measure block_measure lines
    is_blank trimmed_len ends_block later_reach block_reach block_len scalar_list list_from walk_start header_end before_newline at_empty_block_header
    pieces_if pieces_of joined step_pieces reading_of read_by step end_step equal_step break_step opens_break break_pair same_bytes escapes_of
    double_quote_escapes backslash_escape one_byte_escapes is_one_of single_quote_escapes code_content radix16 digits digits_from white_run newlines_in
    through_last cut blank_run only_newlines
lists =
    record {
      failed_walk = refl;
      next_free = refl;
      past_colon = refl;
      past_colon_again = refl;
      parents = refl;
      one = refl;
      column_cuts = refl;
      one_style = refl;
      one_room = refl;
      flags =
          record {
            line = (refl, refl, refl);
            past_the_span = (refl, refl, refl);
            tab_before_break = (refl, refl, refl);
            wide_in_a_run = (refl, refl, refl);
            k8 = (refl, refl, refl);
            wide_line = (refl, refl, refl);
            other = (refl, refl, refl);
            unclosed = (refl, refl, refl);
            unknown_escape = (refl, refl, refl);
            empty_span_is = (refl, refl, refl);
          };
    }
