-- Worked encodings, by computation: each of the six events written and read back, with and without a YAML tag, and what row 3 refuses.
use Rattle.std.specs.Prelude.{◌≡◌, refl, true, false, List, [], ◌∷◌, ℕ, Some, None, Ok, Err}
use Rattle.utf8.specs.Characters.{is_utf8, all_some, chars_after, first_char, char_of, multi_byte, two_bytes}
use Rattle.style.specs.declared.Style.TheVariants.{Plain, DoubleQuoted, Folded}
use Rattle.event.specs.Number.{high_first, number_at}
use Rattle.event.specs.Encode.{YamlEvent, untagged, tagged, sequence_start, sequence_end, mapping_start, mapping_end, scalar, alias, encode_string, encode_tag, encode_rest, encode_body, encode_event}
use Rattle.event.specs.Read.{malformed, part, yaml_tag, read_string, read_tag, read_start_tag, read_scalar, read_body, read_event}
use Rattle.event.specs.declared.read.Event.{Event}
use Rattle.event.specs.declared.read.Event.TheVariants.{SequenceStart, SequenceEnd, MappingStart, MappingEnd, Scalar, Alias}

-- the event e has the bytes s, and is read from them as r
abbrev pub Worked : YamlEvent → List ℕ → Event × ℕ → Type 0
Worked e s r = (encode_event e ≡ s) × (read_event s 0 ≡ Ok r)

abbrev pub Refused : List ℕ → Type 0
Refused s = read_event s 0 ≡ Err malformed

-- three events in a row
abbrev pub in_arow : List ℕ
in_arow = 1 ∷ 0 ∷ 5 ∷ 0 ∷ 0 ∷ 0 ∷ 0 ∷ 0 ∷ 5 ∷ 0 ∷ 13 ∷ 0 ∷ 0 ∷ 0 ∷ 3 ∷ 0 ∷ 0 ∷ 0 ∷ 2 ∷ 2 ∷ 0 ∷ 0 ∷ 195 ∷ 169 ∷ 2 ∷ 0 ∷ 4 ∷ 0 ∷ 0 ∷ 0 ∷ 1 ∷ []

pub record Examples : Type 0 where
  -- ---- the six events

  -- index 258, no tag
  pub sequence_start_is : Worked (sequence_start 258 untagged) (1 ∷ 0 ∷ 5 ∷ 0 ∷ 0 ∷ 1 ∷ 2 ∷ 0 ∷ []) (SequenceStart 258 None, 8)
  -- the tag `!t`: handle `!`, suffix `t`
  pub tagged-sequence-start :
      Worked (sequence_start 0 (tagged (33 ∷ []) (116 ∷ [])))
      (1 ∷ 0 ∷ 11 ∷ 0 ∷ 0 ∷ 0 ∷ 0 ∷ 1 ∷ 0 ∷ 1 ∷ 33 ∷ 0 ∷ 1 ∷ 116 ∷ [])
      (SequenceStart 0 (Some (yaml_tag (part 10 1) (part 13 1))), 14)
  -- index 9
  pub sequence_end_is : Worked (sequence_end 9) (2 ∷ 0 ∷ 4 ∷ 0 ∷ 0 ∷ 0 ∷ 9 ∷ []) (SequenceEnd 9, 7)
  -- the largest index
  pub mapping_start_is : Worked (mapping_start 0xffff_ffff untagged) (3 ∷ 0 ∷ 5 ∷ 255 ∷ 255 ∷ 255 ∷ 255 ∷ 0 ∷ []) (MappingStart 0xffff_ffff None, 8)
  -- handle and suffix may be empty
  pub tagged-mapping-start :
      Worked (mapping_start 1 (tagged [] []))
      (3 ∷ 0 ∷ 9 ∷ 0 ∷ 0 ∷ 0 ∷ 1 ∷ 1 ∷ 0 ∷ 0 ∷ 0 ∷ 0 ∷ [])
      (MappingStart 1 (Some (yaml_tag (part 10 0) (part 12 0))), 12)
  -- index 65536
  pub mapping_end_is : Worked (mapping_end 65536) (4 ∷ 0 ∷ 4 ∷ 0 ∷ 1 ∷ 0 ∷ 0 ∷ []) (MappingEnd 65536, 7)
  -- plain, an empty span, no value
  pub plain-scalar :
      Worked (scalar 7 0 0 true untagged [])
      (5 ∷ 0 ∷ 11 ∷ 0 ∷ 0 ∷ 0 ∷ 7 ∷ 0 ∷ 0 ∷ 0 ∷ 0 ∷ 0 ∷ 1 ∷ 0 ∷ [])
      (Scalar 7 0 Plain true None (part 14 0), 14)
  -- double-quoted, at index 3 and column 2, with the value `é`
  pub quoted-scalar :
      Worked (scalar 3 2 2 false untagged (195 ∷ 169 ∷ []))
      (5 ∷ 0 ∷ 13 ∷ 0 ∷ 0 ∷ 0 ∷ 3 ∷ 0 ∷ 0 ∷ 0 ∷ 2 ∷ 2 ∷ 0 ∷ 0 ∷ 195 ∷ 169 ∷ [])
      (Scalar 3 2 DoubleQuoted false None (part 14 2), 16)
  -- folded, with the tag `!t` and the value `a`
  pub tagged-scalar :
      Worked (scalar 3 2 4 false (tagged (33 ∷ []) (116 ∷ [])) (97 ∷ []))
      (5 ∷ 0 ∷ 18 ∷ 0 ∷ 0 ∷ 0 ∷ 3 ∷ 0 ∷ 0 ∷ 0 ∷ 2 ∷ 4 ∷ 0 ∷ 1 ∷ 0 ∷ 1 ∷ 33 ∷ 0 ∷ 1 ∷ 116 ∷ 97 ∷ [])
      (Scalar 3 2 Folded false (Some (yaml_tag (part 16 1) (part 19 1))) (part 20 1), 21)
  -- index 5
  pub alias_event : Worked (alias 5) (6 ∷ 0 ∷ 4 ∷ 0 ∷ 0 ∷ 0 ∷ 5 ∷ []) (Alias 5, 7)
  -- ---- what is refused (R3)

  -- the place is the end
  pub at_the_end : read_event (6 ∷ 0 ∷ 4 ∷ 0 ∷ 0 ∷ 0 ∷ 5 ∷ []) 7 ≡ Err malformed
  -- the place is past the end
  pub past_the_end : read_event (6 ∷ 0 ∷ 4 ∷ 0 ∷ 0 ∷ 0 ∷ 5 ∷ []) 300 ≡ Err malformed
  -- two bytes of three
  pub header_cut_off : Refused (6 ∷ 0 ∷ [])
  -- the last byte is missing
  pub body_past_the_bytes : Refused (6 ∷ 0 ∷ 4 ∷ 0 ∷ 0 ∷ 0 ∷ [])
  -- a body of three bytes
  pub body_short : Refused (6 ∷ 0 ∷ 3 ∷ 0 ∷ 0 ∷ 0 ∷ [])
  -- a body with one byte left over
  pub body_overlong : Refused (6 ∷ 0 ∷ 5 ∷ 0 ∷ 0 ∷ 0 ∷ 5 ∷ 0 ∷ [])
  -- a byte left over after the tag
  pub start_overlong : Refused (1 ∷ 0 ∷ 6 ∷ 0 ∷ 0 ∷ 0 ∷ 5 ∷ 0 ∷ 0 ∷ [])
  -- a scalar without a tag byte
  pub scalar_short : Refused (5 ∷ 0 ∷ 10 ∷ 0 ∷ 0 ∷ 0 ∷ 7 ∷ 0 ∷ 0 ∷ 0 ∷ 0 ∷ 0 ∷ 0 ∷ [])
  -- an unknown tag
  pub tag_byte_0 : Refused (0 ∷ 0 ∷ 4 ∷ 0 ∷ 0 ∷ 0 ∷ 5 ∷ [])
  -- an unknown tag
  pub tag_byte_7 : Refused (7 ∷ 0 ∷ 4 ∷ 0 ∷ 0 ∷ 0 ∷ 5 ∷ [])
  -- a known tag with the high bit set
  pub tag_byte_129 : Refused (129 ∷ 0 ∷ 5 ∷ 0 ∷ 0 ∷ 0 ∷ 5 ∷ 0 ∷ [])
  -- an unknown style
  pub style_5 : Refused (5 ∷ 0 ∷ 13 ∷ 0 ∷ 0 ∷ 0 ∷ 3 ∷ 0 ∷ 0 ∷ 0 ∷ 2 ∷ 5 ∷ 0 ∷ 0 ∷ 195 ∷ 169 ∷ [])
  -- an empty span of 2
  pub empty_span_2 : Refused (5 ∷ 0 ∷ 13 ∷ 0 ∷ 0 ∷ 0 ∷ 3 ∷ 0 ∷ 0 ∷ 0 ∷ 2 ∷ 2 ∷ 2 ∷ 0 ∷ 195 ∷ 169 ∷ [])
  -- a YAML tag of 2
  pub tag_flag_2 : Refused (5 ∷ 0 ∷ 13 ∷ 0 ∷ 0 ∷ 0 ∷ 3 ∷ 0 ∷ 0 ∷ 0 ∷ 2 ∷ 2 ∷ 0 ∷ 2 ∷ 195 ∷ 169 ∷ [])
  -- a handle of 257 bytes
  pub handle_past_the_body : Refused (5 ∷ 0 ∷ 18 ∷ 0 ∷ 0 ∷ 0 ∷ 3 ∷ 0 ∷ 0 ∷ 0 ∷ 2 ∷ 4 ∷ 0 ∷ 1 ∷ 1 ∷ 1 ∷ 33 ∷ 0 ∷ 1 ∷ 116 ∷ 97 ∷ [])
  -- a suffix that takes one byte of the next event
  pub suffix_past_the_body : Refused (1 ∷ 0 ∷ 11 ∷ 0 ∷ 0 ∷ 0 ∷ 0 ∷ 1 ∷ 0 ∷ 1 ∷ 33 ∷ 0 ∷ 2 ∷ 116 ∷ 0 ∷ [])
  -- a scalar whose suffix is the first byte of the next event
  pub scalar_suffix_past_the_body : Refused (5 ∷ 0 ∷ 15 ∷ 0 ∷ 0 ∷ 0 ∷ 3 ∷ 0 ∷ 0 ∷ 0 ∷ 2 ∷ 4 ∷ 0 ∷ 1 ∷ 0 ∷ 0 ∷ 0 ∷ 1 ∷ 6 ∷ [])
  -- the value ends inside a character
  pub value_not_utf8 : Refused (5 ∷ 0 ∷ 13 ∷ 0 ∷ 0 ∷ 0 ∷ 3 ∷ 0 ∷ 0 ∷ 0 ∷ 2 ∷ 2 ∷ 0 ∷ 0 ∷ 195 ∷ 97 ∷ [])
  -- the handle is a continuation byte
  pub handle_not_utf8 : Refused (5 ∷ 0 ∷ 18 ∷ 0 ∷ 0 ∷ 0 ∷ 3 ∷ 0 ∷ 0 ∷ 0 ∷ 2 ∷ 4 ∷ 0 ∷ 1 ∷ 0 ∷ 1 ∷ 128 ∷ 0 ∷ 1 ∷ 116 ∷ 97 ∷ [])
  -- the suffix is a continuation byte
  pub suffix_not_utf8 : Refused (5 ∷ 0 ∷ 18 ∷ 0 ∷ 0 ∷ 0 ∷ 3 ∷ 0 ∷ 0 ∷ 0 ∷ 2 ∷ 4 ∷ 0 ∷ 1 ∷ 0 ∷ 1 ∷ 33 ∷ 0 ∷ 1 ∷ 128 ∷ 97 ∷ [])
  -- ---- three events in a row, each read at the place that the one before it gave

  pub first : read_event in_arow 0 ≡ Ok (SequenceStart 0 None, 8)
  pub second : read_event in_arow 8 ≡ Ok (Scalar 3 2 DoubleQuoted false None (part 22 2), 24)
  pub third : read_event in_arow 24 ≡ Ok (SequenceEnd 1, 31)

pub examples : Examples
unfolding encode_event encode_body encode_rest encode_tag encode_string high_first read_event read_body read_scalar read_start_tag
    read_tag read_string number_at is_utf8 all_some chars_after first_char char_of multi_byte two_bytes
examples =
    record {
      sequence_start_is = (refl, refl);
      tagged-sequence-start = (refl, refl);
      sequence_end_is = (refl, refl);
      mapping_start_is = (refl, refl);
      tagged-mapping-start = (refl, refl);
      mapping_end_is = (refl, refl);
      plain-scalar = (refl, refl);
      quoted-scalar = (refl, refl);
      tagged-scalar = (refl, refl);
      alias_event = (refl, refl);
      at_the_end = refl;
      past_the_end = refl;
      header_cut_off = refl;
      body_past_the_bytes = refl;
      body_short = refl;
      body_overlong = refl;
      start_overlong = refl;
      scalar_short = refl;
      tag_byte_0 = refl;
      tag_byte_7 = refl;
      tag_byte_129 = refl;
      style_5 = refl;
      empty_span_2 = refl;
      tag_flag_2 = refl;
      handle_past_the_body = refl;
      suffix_past_the_body = refl;
      scalar_suffix_past_the_body = refl;
      value_not_utf8 = refl;
      handle_not_utf8 = refl;
      suffix_not_utf8 = refl;
      first = refl;
      second = refl;
      third = refl;
    }
