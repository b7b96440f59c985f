-- What the reader's answers are worth. It answers an event exactly where the encoding of a sound one stands, and that event, with the places
-- of its strings; and it says malformed exactly where none stands (E1, R3). So two sound events never have the same bytes, and neither
-- starts with the other's. Below that, what holds of every answer. `Bytes s` says that the numbers of s are bytes, as those of any
-- slice of the code are.
use Rattle.std.specs.Prelude.{◌≡◌, refl, Bool, List, [], ◌∷◌, ◌++◌, ◌⊎◌, ℕ, ◌+◌, length, drop, Some, Ok, Err}
use Rattle.std.proofs.Common.{sym, ◌∙◌, ap, inl, inr, arith, append_assoc}
use Rattle.utf8.specs.Ascii.{Bytes}
use Rattle.style.specs.Style.{style_of}
use Rattle.style.specs.StyleLaws.{style_known, known_back}
use Rattle.event.specs.Number.{high_first}
use Rattle.event.specs.Encode.{Tag, untagged, tagged, YamlEvent, sequence_start, sequence_end, mapping_start, mapping_end, scalar, alias, encode_string, encode_tag, encode_flag, marker_index, encode_rest, encode_event, SoundTag, SoundRest, SoundEvent}
use Rattle.event.specs.Read.{malformed, part, part_of, read_event}
use Rattle.event.specs.Meaning.{StandsAt, placed_tag, placed_body, placed, Answers, said_tag, said, Exact}
use Rattle.event.specs.Proved.{TextParts, EventPassed, EventWithin}
use Rattle.event.proofs.EncodeLaws.{stands_after, stands_inside, byte_after, number_after, part_stands, tag_length, rest_length, body_length, event_length}
use Rattle.event.proofs.WrittenIsRead.{rest-stands, event_read}
use Rattle.event.proofs.ReadIsWritten.{event_found}

-- ---- an event is answered exactly where one stands

-- nothing sound is refused, and it is read as what it is
pub sound_is_read : (s : List ℕ) (i : ℕ) (e : YamlEvent) → StandsAt s i e → read_event s i ≡ Ok (placed i e)
sound_is_read = event_read

-- at every place one or the other
pub malformed_or_answers : (s : List ℕ) → Bytes s → (i : ℕ) → (read_event s i ≡ Err malformed) ⊎ Answers s i (read_event s i)
malformed_or_answers = event_found

-- nothing else gets through: an answer that is not malformed is that of an event that stands there
pub read_is_sound : (s : List ℕ) → Bytes s → (i : ℕ) → (read_event s i ≡ Err malformed → ⊥) → Answers s i (read_event s i)
read_is_sound s bytes i h = go (malformed_or_answers s bytes i)
  where
    go : (read_event s i ≡ Err malformed) ⊎ Answers s i (read_event s i) → Answers s i (read_event s i)
    go (inl x) = absurd (h x)
    go (inr x) = x

-- malformed means that no sound event stands there
pub malformed_none_stands : (s : List ℕ) (i : ℕ) → read_event s i ≡ Err malformed → (e : YamlEvent) → StandsAt s i e → ⊥
malformed_none_stands s i h e stands = let is = sound_is_read s i e stands in cc

-- and where none stands, malformed is answered
pub none_stands_malformed : (s : List ℕ) → Bytes s → (i : ℕ) → ((e : YamlEvent) → StandsAt s i e → ⊥) → read_event s i ≡ Err malformed
none_stands_malformed s bytes i h = go (malformed_or_answers s bytes i)
  where
    go : (read_event s i ≡ Err malformed) ⊎ Answers s i (read_event s i) → read_event s i ≡ Err malformed
    go (inl x) = x
    go (inr x) = absurd (h x.event x.stands)

-- ---- the parts of an event that stands

module _ (s : List ℕ) where
  -- the parts of a YAML tag are its handle and suffix
  tag_parts : (i : ℕ) (h x u : List ℕ) → drop i s ≡ encode_tag (tagged h x) ++ u
      → (part_of s (part (i + 1 + 2) (length h)) ≡ h) × (part_of s (part (i + 1 + 2 + length h + 2) (length x)) ≡ x)
  unfolding encode_tag encode_string
  tag_parts i h x u stands =
      let from : drop (i + 1) s ≡ high_first 2 (length h) ++ (h ++ (high_first 2 (length x) ++ (x ++ u)))
      = byte_after s i 1 _ stands (i + 1) refl ∙ simp append_assoc in
      let handle-on = number_after s (i + 1) 2 (length h) _ from (i + 1 + 2) refl in
      let after = stands_after s (i + 1 + 2) h _ handle-on (i + 1 + 2 + length h) refl in
      let suffix-on = number_after s (i + 1 + 2 + length h) 2 (length x) _ after (i + 1 + 2 + length h + 2) refl in
      (part_stands s (i + 1 + 2) h _ handle-on, part_stands s (i + 1 + 2 + length h + 2) x u suffix-on)

  tag_said : (i : ℕ) (t : Tag) (u : List ℕ) → drop i s ≡ encode_tag t ++ u → said_tag s (placed_tag i t) ≡ t
  tag_said i untagged u stands = refl
  tag_said i (tagged h x) u stands = let parts = tag_parts i h x u stands in rw (parts.0, parts.1)

  tag_within : (i : ℕ) (t : Tag) (u : List ℕ) → drop i s ≡ encode_tag t ++ u → SoundTag t → TextParts s (placed_tag i t)
  tag_within i untagged u stands sound = tt
  tag_within i (tagged h x) u stands sound =
      let parts = tag_parts i h x u stands in
      let size = tag_length h x in
      let room = stands_inside s i (encode_tag (tagged h x)) u stands (omega arith) in
      (record { inside = omega arith; utf8 = rw parts.0 sound.0.utf8 }, record { inside = omega arith; utf8 = rw parts.1 sound.1.utf8 })

  -- in the body of a scalar the YAML tag stands after column, style and flag, and the value after the tag
  tag_stands : (i m c y : ℕ) (f : Bool) (t : Tag) (v u : List ℕ) → drop i s ≡ encode_rest (scalar m c y f t v) ++ u
      → drop (i + 6) s ≡ encode_tag t ++ (v ++ u)
  unfolding encode_rest
  tag_stands i m c y f t v u stands =
      let from : drop i s ≡ high_first 4 c ++ (y ∷ encode_flag f ∷ (encode_tag t ++ (v ++ u))) = stands ∙ simp append_assoc in
      let style-on = number_after s i 4 c _ from (i + 4) refl in
      let flag-on = byte_after s (i + 4) y _ style-on (i + 5) (omega arith) in
      byte_after s (i + 5) (encode_flag f) _ flag-on (i + 6) (omega arith)

  value_part : (i : ℕ) (t : Tag) (v u : List ℕ) → drop i s ≡ encode_tag t ++ (v ++ u) → part_of s (part (i + length (encode_tag t)) (length v)) ≡ v
  value_part i t v u stands = part_stands s (i + length (encode_tag t)) v u (stands_after s i (encode_tag t) (v ++ u) stands (i + length (encode_tag t)) refl)

  rest_said : (i n : ℕ) (e : YamlEvent) (u : List ℕ) → drop i s ≡ encode_rest e ++ u → SoundRest e → said s (Ok (placed_body i e, n)) ≡ Some e
  unfolding said encode_rest
  rest_said i n (sequence_start m t) u stands sound = rw (tag_said i t u stands)
  rest_said i n (sequence_end m) u stands sound = refl
  rest_said i n (mapping_start m t) u stands sound = rw (tag_said i t u stands)
  rest_said i n (mapping_end m) u stands sound = refl
  rest_said i n (scalar m c y f t v) u stands sound =
      let on = tag_stands i m c y f t v u stands in
      rw (known_back y sound.style_known, tag_said (i + 6) t (v ++ u) on, value_part (i + 6) t v u on)
  rest_said i n (alias m) u stands sound = refl

  -- an answer's numbers, and the bytes of its parts, are those of the event that stands there
  pub parts_are : (i : ℕ) (e : YamlEvent) → StandsAt s i e → said s (Ok (placed i e)) ≡ Some e
  unfolding placed
  parts_are i e p = rest_said (i + 3 + 4) (i + length (encode_event e)) e p.rest (rest-stands s i e p) p.sound.rest

-- ---- no two events have the same bytes

-- at one place stands one event
pub stands_unique : (s : List ℕ) (i : ℕ) (e f : YamlEvent) → StandsAt s i e → StandsAt s i f → e ≡ f
stands_unique s i e f p q =
    let same : Some e ≡ Some f = sym (parts_are s i e p) ∙ ap (said s) (sym (sound_is_read s i e p) ∙ sound_is_read s i f q) ∙ parts_are s i f q in
    cc

-- the bytes of a sound event start those of no other, whatever follows
pub encode_prefix_free : (e f : YamlEvent) (u v : List ℕ) → SoundEvent e → SoundEvent f → encode_event e ++ u ≡ encode_event f ++ v → e ≡ f
encode_prefix_free e f u v p q h =
    stands_unique (encode_event e ++ u) 0 e f (record { sound = p; rest = u; starts = refl }) (record { sound = q; rest = v; starts = h })

pub encode_injective : (e f : YamlEvent) → SoundEvent e → SoundEvent f → encode_event e ≡ encode_event f → e ≡ f
encode_injective e f p q h = encode_prefix_free e f [] [] p q (ap (λ (l : List ℕ). l ++ []) h)

-- ---- what holds of every answer

module _ (s : List ℕ) (i : ℕ) where
  passed : (e : YamlEvent) → StandsAt s i e → EventPassed s i (marker_index e) (i + length (encode_event e))
  passed e p =
      let size = event_length e in
      record { index_fits = p.sound.index_fits; onward = omega arith; inside = stands_inside s i (encode_event e) p.rest p.starts (omega arith) }

  stands_within : (e : YamlEvent) → StandsAt s i e → EventWithin s i (Ok (placed i e))
  unfolding placed encode_rest
  stands_within (sequence_start m t) p = (passed (sequence_start m t) p, tag_within s (i + 3 + 4) t p.rest (rest-stands s i (sequence_start m t) p) p.sound.rest)
  stands_within (sequence_end m) p = passed (sequence_end m) p
  stands_within (mapping_start m t) p = (passed (mapping_start m t) p, tag_within s (i + 3 + 4) t p.rest (rest-stands s i (mapping_start m t) p) p.sound.rest)
  stands_within (mapping_end m) p = passed (mapping_end m) p
  stands_within (scalar m c y f t v) p =
      let on = tag_stands s (i + 3 + 4) m c y f t v p.rest (rest-stands s i (scalar m c y f t v) p) in
      let ok = p.sound.rest in
      let past = passed (scalar m c y f t v) p in
      let outer = event_length (scalar m c y f t v) in
      let body = body_length (scalar m c y f t v) in
      let inner = rest_length m c y f t v in
      record {
        passed = past;
        column_fits = ok.column_fits;
        style_known = style_known (style_of y);
        tag_within = tag_within s (i + 3 + 4 + 6) t (v ++ p.rest) on ok.tag_sound;
        value_within = record { inside = let room = past.inside in omega arith; utf8 = rw (value_part s (i + 3 + 4 + 6) t v p.rest on) ok.value_utf8 };
      }
  stands_within (alias m) p = passed (alias m) p

  -- every answer keeps within the event bytes: its parts are UTF-8, its numbers fit, and the next place is past this one
  pub answer_within : Bytes s → EventWithin s i (read_event s i)
  answer_within bytes = go (malformed_or_answers s bytes i)
    where
      go : (read_event s i ≡ Err malformed) ⊎ Answers s i (read_event s i) → EventWithin s i (read_event s i)
      go (inl x) = rw x tt
      go (inr x) = rw x.answered (stands_within x.event x.stands)

-- ---- in one statement

pub reads_exactly : (s : List ℕ) → Bytes s → (i : ℕ) → Exact s i (read_event s i)
reads_exactly s bytes i =
    record {
      nothing_sound_refused = sound_is_read s i;
      nothing_else_answered = malformed_or_answers s bytes i;
      malformed_none_stands = malformed_none_stands s i;
      one_stands = stands_unique s i;
      parts_are = λ e p. rw (sound_is_read s i e p) (parts_are s i e p);
    }
