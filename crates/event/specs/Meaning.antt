-- What an answer means, by the encodings: which event stands at a place of the event bytes, what is answered for an event that stands there,
-- and what is said by an answer. `reads_exactly` (proofs/ReadLaws.antt) proves of the reader that it answers an event exactly where one
-- stands, in the words of `Exact`. (E1; R3.)
use Rattle.std.specs.Prelude.{ℕ, ◌+◌, ◌≡◌, List, ◌++◌, ◌⊎◌, length, drop, Option, Some, None, Result, Ok, Err}
use Rattle.event.specs.Encode.{Tag, untagged, tagged, YamlEvent, sequence_start, sequence_end, mapping_start, mapping_end, scalar, alias, encode_tag, encode_event, SoundEvent}
use Rattle.style.specs.Style.{style_number, style_of}
use Rattle.event.specs.Read.{malformed, part, part_of, yaml_tag}
use Rattle.event.specs.declared.malformed.Malformed.{Malformed}
use Rattle.event.specs.declared.tag.YamlTag.{YamlTag}
use Rattle.event.specs.declared.read.Event.{Event}
use Rattle.event.specs.declared.read.Event.TheVariants.{SequenceStart, SequenceEnd, MappingStart, MappingEnd, Scalar, Alias}

-- from the place i on, the bytes start with the encoding of the sound event e
pub record StandsAt (s : List ℕ) (i : ℕ) (e : YamlEvent) : Type 0 where
  pub sound : SoundEvent e
  pub rest : List ℕ
  pub starts : drop i s ≡ encode_event e ++ rest

-- ---- the answer for an event that stands at a place

-- the parts of a YAML tag at the place i: the handle comes after the flag and its length, the suffix after its own
abbrev pub placed_tag : ℕ → Tag → Option YamlTag
placed_tag i untagged = None
placed_tag i (tagged h x) = Some (yaml_tag (part (i + 1 + 2) (length h)) (part (i + 1 + 2 + length h + 2) (length x)))

-- the answer for an event whose body goes on after its marker index at the place i
abbrev pub placed_body : ℕ → YamlEvent → Event
placed_body i (sequence_start m t) = SequenceStart m (placed_tag i t)
placed_body i (sequence_end m) = SequenceEnd m
placed_body i (mapping_start m t) = MappingStart m (placed_tag i t)
placed_body i (mapping_end m) = MappingEnd m
placed_body i (scalar m c y f t v) = Scalar m c (style_of y) f (placed_tag (i + 6) t) (part (i + 6 + length (encode_tag t)) (length v))
placed_body i (alias m) = Alias m

-- the answer for an event at the place i: header and marker index are passed, and the next event comes after its bytes
unfoldable pub placed : ℕ → YamlEvent → Event × ℕ
placed i e = (placed_body (i + 3 + 4) e, i + length (encode_event e))

-- an event stands at the place, and this is its answer
pub record Answers (s : List ℕ) (i : ℕ) (r : Result (Event × ℕ) Malformed) : Type 0 where
  pub event : YamlEvent
  pub stands : StandsAt s i event
  pub answered : r ≡ Ok (placed i event)

-- ---- what is said by an answer

abbrev pub said_tag : List ℕ → Option YamlTag → Tag
said_tag s None = untagged
said_tag s (Some t) = tagged (part_of s t.handle) (part_of s t.suffix)

-- the event of an answer, its strings cut from the event bytes
unfoldable pub said : List ℕ → Result (Event × ℕ) Malformed → Option YamlEvent
said s (Ok (SequenceStart m t, n)) = Some (sequence_start m (said_tag s t))
said s (Ok (SequenceEnd m, n)) = Some (sequence_end m)
said s (Ok (MappingStart m t, n)) = Some (mapping_start m (said_tag s t))
said s (Ok (MappingEnd m, n)) = Some (mapping_end m)
said s (Ok (Scalar m c y f t v, n)) = Some (scalar m c (style_number y) f (said_tag s t) (part_of s v))
said s (Ok (Alias m, n)) = Some (alias m)
said s (Err e) = None

-- the table's number for each answer: 3 for malformed, 0 for the six events
abbrev pub event_number : Result (Event × ℕ) Malformed → ℕ
event_number (Ok (SequenceStart m t, n)) = 0
event_number (Ok (SequenceEnd m, n)) = 0
event_number (Ok (MappingStart m t, n)) = 0
event_number (Ok (MappingEnd m, n)) = 0
event_number (Ok (Scalar m c y f t v, n)) = 0
event_number (Ok (Alias m, n)) = 0
event_number (Err e) = 3

-- ---- reading, in one statement

-- r is what reading at the place i of s must answer
pub record Exact (s : List ℕ) (i : ℕ) (r : Result (Event × ℕ) Malformed) : Type 0 where
  -- a sound event that stands there is answered
  pub nothing_sound_refused : (e : YamlEvent) → StandsAt s i e → r ≡ Ok (placed i e)
  -- and nothing else is
  pub nothing_else_answered : (r ≡ Err malformed) ⊎ Answers s i r
  pub malformed_none_stands : r ≡ Err malformed → (e : YamlEvent) → StandsAt s i e → ⊥
  -- there is one such event, and the answer says that event
  pub one_stands : (e f : YamlEvent) → StandsAt s i e → StandsAt s i f → e ≡ f
  pub parts_are : (e : YamlEvent) → StandsAt s i e → said s r ≡ Some e
