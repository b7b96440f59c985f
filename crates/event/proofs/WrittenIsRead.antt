-- What is written is read: where the encoding of a sound event stands, the reader answers that event. Nothing sound is refused.
-- `ReadLaws` has what callers go by.
use Rattle.std.specs.Prelude.{◌≡◌, refl, Bool, true, false, List, [], ◌∷◌, ◌++◌, ℕ, ◌+◌, ◌-◌, ◌≤◌, eqb, length, take, drop, Ok}
use Rattle.std.proofs.Common.{sym, ◌∙◌, ap, arith, append_assoc, append-nil, eq-eqb}
use Rattle.std.proofs.lemmas.List.{drop-take}
use borrow.Author.Tests.{le-ltb}
use lib.Seq.{take-append_seam, length-take-le}
use Rattle.utf8.specs.Characters.{is_utf8}
use Rattle.utf8.proofs.Utf8Laws.{utf8_complete}
use Rattle.event.specs.Number.{high_first, number_at}
use Rattle.event.proofs.NumberLaws.{capacity, number_read}
use Rattle.event.specs.Encode.{Tag, untagged, tagged, YamlEvent, sequence_start, sequence_end, mapping_start, mapping_end, scalar, alias, encode_string, encode_tag, encode_flag, tag_byte, marker_index, encode_rest, encode_body, encode_event, SoundString, SoundTag, SoundScalar, SoundRest}
use Rattle.event.proofs.EncodeLaws.{stands_after, stands_inside, byte_stands, byte_after, number_after, part_stands, string_length, tag_length, rest_length, body_length, event_length}
use Rattle.event.specs.Read.{part, part_of, read_string, read_tag, read_start_tag, read_scalar, read_body, read_event}
use Rattle.event.proofs.ReadCases.{string_tested, tag_absent, tag_with_suffix, scalar_tagged, framed}
use Rattle.event.specs.Meaning.{StandsAt, placed_tag, placed_body, placed}

-- ---- strings and YAML tags

module _ (s : List ℕ) where
  pub string_read : (i : ℕ) (x u : List ℕ) → drop i s ≡ encode_string x ++ u → SoundString x → read_string s i ≡ Ok (part (i + 2) (length x))
  unfolding encode_string capacity
  string_read i x u stands sound =
      let from : drop i s ≡ high_first 2 (length x) ++ (x ++ u) = stands ∙ append_assoc (high_first 2 (length x)) x u in
      let short = sound.short in
      let size = number_read s i 2 (length x) (x ++ u) from (omega arith) in
      let whole = string_length x in
      let inside = stands_inside s i (encode_string x) u stands (omega arith) in
      let bytes = part_stands s (i + 2) x u (number_after s i 2 (length x) (x ++ u) from (i + 2) refl) in
      string_tested s i (length x) true (sym size) (omega arith) (sym (rw bytes (utf8_complete sound.utf8)))

  pub tag_read : (i : ℕ) (t : Tag) (u : List ℕ) → drop i s ≡ encode_tag t ++ u → SoundTag t
      → read_tag s i ≡ Ok (placed_tag i t, i + length (encode_tag t))
  unfolding encode_tag
  tag_read i untagged u stands sound =
      let inside = stands_inside s i (encode_tag untagged) u stands (omega arith) in
      tag_absent s i (omega arith) (byte_stands s i 0 u stands)
  tag_read i (tagged h x) u stands sound =
      let size = tag_length h x in
      let inside = stands_inside s i (encode_tag (tagged h x)) u stands (omega arith) in
      let handle : drop (i + 1) s ≡ encode_string h ++ (encode_string x ++ u)
      = byte_after s i 1 _ stands (i + 1) refl ∙ append_assoc (encode_string h) (encode_string x) u in
      let after = stands_after s (i + 1) (encode_string h) (encode_string x ++ u) handle (i + 1 + 2 + length h) (omega (arith, string_length h)) in
      let next : i + 1 + 2 + length h + 2 + length x ≡ i + length (encode_tag (tagged h x)) = omega arith in
      let handle-read = string_read (i + 1) h _ handle sound.0 in
      let suffix-read = string_read (i + 1 + 2 + length h) x u after sound.1 in
      tag_with_suffix s i (omega arith) (byte_stands s i 1 _ stands) _ _ handle-read suffix-read
      ∙ ap (λ (n : ℕ). Ok (placed_tag i (tagged h x), n)) next

  pub start_tag_read : (i : ℕ) (t : Tag) (u : List ℕ) → drop i s ≡ encode_tag t ++ u → SoundTag t → length s ≡ i + length (encode_tag t)
      → read_start_tag s i ≡ Ok (placed_tag i t)
  unfolding read_start_tag
  start_tag_read i t u stands sound ends = rw (tag_read i t u stands sound, eq-eqb (i + length (encode_tag t)) (length s) (sym ends))

-- ---- bodies

flag_read : (f : Bool) → eqb (encode_flag f) 1 ≡ f
flag_read true = refl
flag_read false = refl

flag_known : (f : Bool) → encode_flag f ≤ 1
flag_known true = omega arith
flag_known false = omega arith

module _ (s : List ℕ) where
  scalar_read : (i m c y : ℕ) (f : Bool) (t : Tag) (v u : List ℕ) → drop i s ≡ encode_rest (scalar m c y f t v) ++ u → SoundScalar c y t v
      → length s ≡ i + length (encode_rest (scalar m c y f t v)) → read_scalar s m i ≡ Ok (placed_body i (scalar m c y f t v))
  unfolding encode_rest capacity
  scalar_read i m c y f t v u stands sound ends =
      let size = rest_length m c y f t v in
      let from : drop i s ≡ high_first 4 c ++ (y ∷ encode_flag f ∷ (encode_tag t ++ (v ++ u))) = stands ∙ simp append_assoc in
      let style-on = number_after s i 4 c _ from (i + 4) refl in
      let style = byte_stands s (i + 4) y _ style-on in
      let flag-on = byte_after s (i + 4) y _ style-on (i + 5) (omega arith) in
      let flag = byte_stands s (i + 5) (encode_flag f) _ flag-on in
      let tag-on = byte_after s (i + 5) (encode_flag f) _ flag-on (i + 6) (omega arith) in
      let value-on = stands_after s (i + 6) (encode_tag t) (v ++ u) tag-on (i + 6 + length (encode_tag t)) refl in
      let value-size : length s - (i + 6 + length (encode_tag t)) ≡ length v = omega arith in
      let utf8 : is_utf8 (part_of s (part (i + 6 + length (encode_tag t)) (length v))) ≡ true
      = rw (part_stands s (i + 6 + length (encode_tag t)) v u value-on) (utf8_complete sound.value_utf8) in
      let column = number_read s i 4 c _ from sound.column_fits in
      let known = sound.style_known in
      let told = flag_known f in
      scalar_tagged s i m (omega arith) (omega arith) (omega arith)
      ∙ rw (column, style, flag, flag_read f, tag_read s (i + 6) t (v ++ u) tag-on sound.tag_sound, value-size, utf8)

  body_read : (i : ℕ) (x : YamlEvent) (u : List ℕ) → drop i s ≡ encode_rest x ++ u → SoundRest x → length s ≡ i + length (encode_rest x)
      → read_body s (tag_byte x) (marker_index x) i ≡ Ok (placed_body i x)
  unfolding read_body encode_rest
  body_read i (sequence_start m t) u stands sound ends = rw (start_tag_read s i t u stands sound ends)
  body_read i (sequence_end m) u stands sound ends = rw (le-ltb i (length s) (omega arith))
  body_read i (mapping_start m t) u stands sound ends = rw (start_tag_read s i t u stands sound ends)
  body_read i (mapping_end m) u stands sound ends = rw (le-ltb i (length s) (omega arith))
  body_read i (scalar m c y f t v) u stands sound ends = scalar_read i m c y f t v u stands sound ends
  body_read i (alias m) u stands sound ends = rw (le-ltb i (length s) (omega arith))

-- ---- events

module _ (s : List ℕ) (i : ℕ) (x : YamlEvent) (stands : StandsAt s i x) where
  pub frame_stands : drop i s ≡ tag_byte x ∷ (high_first 2 (length (encode_body x)) ++ (encode_body x ++ stands.rest))
  unfolding encode_event
  frame_stands = stands.starts ∙ simp append_assoc

  pub body_stands : drop (i + 3) s ≡ high_first 4 (marker_index x) ++ (encode_rest x ++ stands.rest)
  unfolding encode_body
  body_stands =
      number_after s (i + 1) 2 (length (encode_body x)) _ (byte_after s i (tag_byte x) _ frame_stands (i + 1) refl) (i + 3) (omega arith)
      ∙ append_assoc (high_first 4 (marker_index x)) (encode_rest x) stands.rest

  pub rest-stands : drop (i + 3 + 4) s ≡ encode_rest x ++ stands.rest
  rest-stands = number_after s (i + 3) 4 (marker_index x) _ body_stands (i + 3 + 4) refl

  -- the bytes up to its end, and its body in them
  abbrev upto : List ℕ
  upto = take (i + 3 + 4 + length (encode_rest x)) s

  rest_cut : drop (i + 3 + 4) upto ≡ encode_rest x ++ []
  rest_cut =
      drop-take (i + 3 + 4) (length (encode_rest x)) s ∙ rw rest-stands (take-append_seam (encode_rest x) stands.rest) ∙ sym (append-nil (encode_rest x))

  pub event_read : read_event s i ≡ Ok (placed i x)
  unfolding placed capacity
  event_read =
      let fits = stands.sound.body_fits in
      let outer = event_length x in
      let inner = body_length x in
      let kind = byte_stands s i (tag_byte x) _ frame_stands in
      let len = number_read s (i + 1) 2 (length (encode_body x)) _ (byte_after s i (tag_byte x) _ frame_stands (i + 1) refl) (omega arith) in
      let index = number_read s (i + 3) 4 (marker_index x) _ body_stands stands.sound.index_fits in
      let inside = stands_inside s i (encode_event x) stands.rest stands.starts (omega arith) in
      let end : i + 3 + number_at s (i + 1) 2 ≡ i + 3 + 4 + length (encode_rest x) = omega arith in
      let size : length upto ≡ i + 3 + 4 + length (encode_rest x) = length-take-le _ s (omega arith) in
      let next : i + 3 + 4 + length (encode_rest x) ≡ i + length (encode_event x) = omega arith in
      framed s i (omega arith) (omega arith)
      ∙ rw (end, kind, index, body_read upto (i + 3 + 4) x [] rest_cut stands.sound.rest size, next)
