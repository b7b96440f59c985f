-- What else is proved: what holds of every answer of the reader (`answer_within`, proofs/ReadLaws.antt), and that no two sound events, and
-- no two lists of them, have the same bytes (`unambiguous`, proofs/EventListLaws.antt). That the reader is exact is said in `Meaning`.
use Rattle.std.specs.Prelude.{ℕ, ◌+◌, ◌≤◌, ◌<◌, ◌≡◌, List, ◌++◌, length, Option, Some, None, Result, Ok, Err}
use Rattle.utf8.specs.Utf8.{Utf8}
use Rattle.style.specs.Style.{style_number}
use Rattle.event.specs.Encode.{YamlEvent, encode_event, SoundEvent}
use Rattle.event.specs.Read.{part_of}
use Rattle.event.specs.EventList.{encode_events, AllSound}
use Rattle.event.specs.declared.malformed.Malformed.{Malformed}
use Rattle.event.specs.declared.string.Part.{Part}
use Rattle.event.specs.declared.tag.YamlTag.{YamlTag}
use Rattle.event.specs.declared.read.Event.{Event}
use Rattle.event.specs.declared.read.Event.TheVariants.{SequenceStart, SequenceEnd, MappingStart, MappingEnd, Scalar, Alias}

-- ---- what holds of every answer: its parts are UTF-8, its numbers fit, and the next place is past this one

-- a part of the event bytes that is UTF-8
pub record TextPart (s : List ℕ) (p : Part) : Type 0 where
  pub inside : p.at + p.len ≤ length s
  pub utf8 : Utf8 (part_of s p)

abbrev pub TextParts : List ℕ → Option YamlTag → Type 0
TextParts s None = Unit {0}
TextParts s (Some t) = TextPart s t.handle × TextPart s t.suffix

-- an event at the place i with the marker index m, and the place n after it
pub record EventPassed (s : List ℕ) (i m n : ℕ) : Type 0 where
  pub index_fits : m < 0x1_0000_0000
  pub onward : i < n
  pub inside : n ≤ length s

pub record ScalarWithin (s : List ℕ) (i m c y : ℕ) (t : Option YamlTag) (v : Part) (n : ℕ) : Type 0 where
  pub passed : EventPassed s i m n
  pub column_fits : c < 0x1_0000_0000
  pub style_known : y ≤ 4
  pub tag_within : TextParts s t
  pub value_within : TextPart s v

abbrev pub EventWithin : List ℕ → ℕ → Result (Event × ℕ) Malformed → Type 0
EventWithin s i (Ok (SequenceStart m t, n)) = EventPassed s i m n × TextParts s t
EventWithin s i (Ok (SequenceEnd m, n)) = EventPassed s i m n
EventWithin s i (Ok (MappingStart m t, n)) = EventPassed s i m n × TextParts s t
EventWithin s i (Ok (MappingEnd m, n)) = EventPassed s i m n
EventWithin s i (Ok (Scalar m c y f t v, n)) = ScalarWithin s i m c (style_number y) t v n
EventWithin s i (Ok (Alias m, n)) = EventPassed s i m n
EventWithin s i (Err e) = Unit {0}

-- ---- no two have the same bytes

pub record Unambiguous : Type 0 where
  -- the bytes of a sound event start those of no other, whatever follows
  pub prefix_free : (e f : YamlEvent) (u v : List ℕ) → SoundEvent e → SoundEvent f → encode_event e ++ u ≡ encode_event f ++ v → e ≡ f
  pub one_event : (e f : YamlEvent) → SoundEvent e → SoundEvent f → encode_event e ≡ encode_event f → e ≡ f
  pub one_list : (es fs : List YamlEvent) → AllSound es → AllSound fs → encode_events es ≡ encode_events fs → es ≡ fs
