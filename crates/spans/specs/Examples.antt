-- Worked starts, tags and collections, by computation.
use Rattle.std.specs.Prelude.{ℕ, ◌≡◌, refl, true, false, [], ◌∷◌, Option, Some, None}
use Rattle.text.specs.Offset.{byte_offset}
use Rattle.utf8.specs.Utf8.{encode, encode_all}
use Rattle.utf8.specs.Characters.{codes, chars_after, first_char, char_of, multi_byte, two_bytes}
use Rattle.utf8.specs.WhiteSpace.{white_space, is_in, is_white_space}
use Rattle.utf8.specs.Ascii.{bytes}
use Rattle.schema.specs.Record.{two_numbers}
use Rattle.measure.specs.Scalar.{plain, single_quoted}
use Rattle.tag.specs.Tokens.{byte_length, chars_before, with_word, tokens, tokens_before}
use Rattle.tag.specs.Tag.{openings, property, span_of, decide, first_tag, tag_before, guess, tag_span}
use Rattle.records.specs.Record.{absent, extent, no_tag, no_list}
use Rattle.records.specs.declared.record.Node.{Node}
use Rattle.spans.specs.Scalar.{mark, step_past, scalar_start, start_at, tag_info}
use Rattle.spans.specs.Collection.{closes, array, hash, collection_end, collection_start, members, collection_over, collection_node}
use Rattle.spans.specs.declared.open.Collection.{Collection}
use Rattle.spans.specs.declared.open.Collection.TheVariants.{Sequence, Mapping}
use Rattle.spans.specs.declared.open.Open.{Open}

-- a collection with its start's marker at byte i, after n children, of which the first, if there is one, starts at byte f
abbrev opened : Collection → ℕ → ℕ → Option ℕ → Open
opened collection i n f = record { collection = collection; start = i; suffix = None; children = n; first = f; before = 0 }

-- the record of one that ends after two children
abbrev of_two : ℕ → ℕ → ℕ → ℕ → Node
of_two kind a e members =
    record {
      kind = kind;
      extent = extent a e;
      tag = no_tag;
      subtree = 3;
      list = no_list;
      payload = two_numbers members 0;
      parent = absent;
      measured = 1;
    }

pub record Collections : Type 0 where
  -- a mapping on its brace starts there, and ends past the closing one; a sequence likewise
  pub braces : collection_node (bytes "{a}") (opened Mapping 0 2 (Some 1)) 2 2 ≡ of_two hash 0 3 1
  pub brackets : collection_node (bytes "[a]") (opened Sequence 0 2 (Some 1)) 2 2 ≡ of_two array 0 3 2
  -- each on the other's mark: the end stays where its marker is
  pub other_marks : collection_node (bytes "a]") (opened Mapping 0 2 (Some 0)) 1 2 ≡ of_two hash 0 1 1
  -- on no brace it starts at its first key, wherever its marker is; a sequence starts at its marker
  pub first_key : collection_node (bytes "abc") (opened Mapping 2 2 (Some 0)) 3 2 ≡ of_two hash 0 3 1
  pub first_item : collection_node (bytes "abc") (opened Sequence 2 2 (Some 0)) 3 2 ≡ of_two array 2 3 2
  -- with no key it starts at its marker too
  pub no_key : collection_start (bytes "abc") (opened Mapping 2 0 None) ≡ 2
  -- an end before the start: a length of 0
  pub ends_before : collection_node (bytes "abc") (opened Sequence 2 2 (Some 0)) 1 2 ≡ of_two array 2 2 2
  -- a mapping's end needs a value to each key; neither end ends the other's
  pub pair : closes Mapping (opened Mapping 0 2 (Some 0)) ≡ true
  pub key : closes Mapping (opened Mapping 0 1 (Some 0)) ≡ false
  pub kinds : (closes Mapping (opened Sequence 0 0 None) ≡ false) × (closes Sequence (opened Mapping 0 0 None) ≡ false)

pub collections : Collections
unfolding collection_node collection_over collection_start collection_end members closes step_past tag_info
collections =
    record {
      braces = refl;
      brackets = refl;
      other_marks = refl;
      first_key = refl;
      first_item = refl;
      no_key = refl;
      ends_before = refl;
      pair = refl;
      key = refl;
      kinds = (refl, refl);
    }

pub record Starts : Type 0 where
  -- an awaited empty value steps past the colon it stands on; a key, a quoted one and one on another mark do not
  pub value : scalar_start (bytes ":") 0 [] plain true ≡ 1
  pub key : scalar_start (bytes ":") 0 [] plain false ≡ 0
  pub quoted : scalar_start (bytes ":") 0 [] single_quoted true ≡ 0
  pub comma : scalar_start (bytes ",") 0 [] plain true ≡ 0
  -- `é: a`: index 3 is byte 4
  pub marker : start_at (0xc3 ∷ 0xa9 ∷ bytes ": a") false (mark 3 3 plain false) (bytes "a") ≡ 4
  -- an awaited empty value on the last colon starts at the text's end, and so does one past the text; on a character of two bytes it stays
  pub end : start_at (bytes "a:") true (mark 1 1 plain false) [] ≡ 2
  pub past : start_at (bytes "a:") true (mark 9 9 plain false) [] ≡ 2
  pub wide : start_at (0x61 ∷ 0xc3 ∷ 0xa9 ∷ []) true (mark 1 1 plain false) [] ≡ 1
  -- a tag that is found, and one that is guessed (K12)
  pub found : tag_info (bytes "[!tag a]") 6 (Some (record { place = 27; len = 3 })) ≡ record { start = 1; end = 5; suffix = 27; len = 3 }
  pub guessed : tag_info (bytes "[a,!t b]") 6 (Some (record { place = 42; len = 1 })) ≡ record { start = 6; end = 8; suffix = 42; len = 1 }

pub starts : Starts
unfolding scalar_start step_past tag_info byte_offset codes chars_after first_char char_of multi_byte two_bytes encode encode_all
    byte_length chars_before with_word tokens tokens_before openings property span_of decide first_tag tag_before guess tag_span
    is_white_space is_in white_space
starts = record { value = refl; key = refl; quoted = refl; comma = refl; marker = refl; end = refl; past = refl; wide = refl; found = refl; guessed = refl }
