-- The six events and their bytes, as document 01 lays them out (E1): a tag byte, the body's length in two bytes, the body. Strings are lists
-- of bytes here. `SoundEvent` says which events have an encoding at all: the numbers fit their bytes, and the strings are UTF-8.
use Rattle.std.specs.Prelude.{ℕ, ◌<◌, ◌≤◌, Bool, true, false, List, [], ◌∷◌, ◌++◌, length}
use Rattle.utf8.specs.Utf8.{Utf8}
use Rattle.event.specs.Number.{high_first}

-- a YAML tag: none, or a handle and a suffix
pub data Tag : Type 0 where
  untagged : Tag
  tagged : List ℕ → List ℕ → Tag

-- an event: its marker index first; of a scalar, then column, style, empty span, YAML tag and value
pub data YamlEvent : Type 0 where
  sequence_start : ℕ → Tag → YamlEvent
  sequence_end : ℕ → YamlEvent
  mapping_start : ℕ → Tag → YamlEvent
  mapping_end : ℕ → YamlEvent
  scalar : ℕ → ℕ → ℕ → Bool → Tag → List ℕ → YamlEvent
  alias : ℕ → YamlEvent

-- ---- bytes

-- a string that others follow: its length in two bytes, then itself
unfoldable pub encode_string : List ℕ → List ℕ
encode_string x = high_first 2 (length x) ++ x

unfoldable pub encode_tag : Tag → List ℕ
encode_tag untagged = 0 ∷ []
encode_tag (tagged h x) = 1 ∷ (encode_string h ++ encode_string x)

abbrev pub encode_flag : Bool → ℕ
encode_flag false = 0
encode_flag true = 1

abbrev pub tag_byte : YamlEvent → ℕ
tag_byte (sequence_start i t) = 1
tag_byte (sequence_end i) = 2
tag_byte (mapping_start i t) = 3
tag_byte (mapping_end i) = 4
tag_byte (scalar i c y f t v) = 5
tag_byte (alias i) = 6

abbrev pub marker_index : YamlEvent → ℕ
marker_index (sequence_start i t) = i
marker_index (sequence_end i) = i
marker_index (mapping_start i t) = i
marker_index (mapping_end i) = i
marker_index (scalar i c y f t v) = i
marker_index (alias i) = i

-- what a body adds to its marker index
unfoldable pub encode_rest : YamlEvent → List ℕ
encode_rest (sequence_start i t) = encode_tag t
encode_rest (sequence_end i) = []
encode_rest (mapping_start i t) = encode_tag t
encode_rest (mapping_end i) = []
encode_rest (scalar i c y f t v) = high_first 4 c ++ (y ∷ encode_flag f ∷ (encode_tag t ++ v))
encode_rest (alias i) = []

unfoldable pub encode_body : YamlEvent → List ℕ
encode_body e = high_first 4 (marker_index e) ++ encode_rest e

-- the bytes of an event
unfoldable pub encode_event : YamlEvent → List ℕ
encode_event e = tag_byte e ∷ (high_first 2 (length (encode_body e)) ++ encode_body e)

-- ---- sound events

-- a handle or a suffix
pub record SoundString (x : List ℕ) : Type 0 where
  pub utf8 : Utf8 x
  pub short : length x ≤ 65_535

abbrev pub SoundTag : Tag → Type 0
SoundTag untagged = Unit {0}
SoundTag (tagged h x) = SoundString h × SoundString x

-- styles: 0 plain, 1 single-quoted, 2 double-quoted, 3 literal, 4 folded
pub record SoundScalar (column style : ℕ) (t : Tag) (value : List ℕ) : Type 0 where
  pub column_fits : column < 0x1_0000_0000
  pub style_known : style ≤ 4
  pub tag_sound : SoundTag t
  pub value_utf8 : Utf8 value

abbrev pub SoundRest : YamlEvent → Type 0
SoundRest (sequence_start i t) = SoundTag t
SoundRest (sequence_end i) = Unit {0}
SoundRest (mapping_start i t) = SoundTag t
SoundRest (mapping_end i) = Unit {0}
SoundRest (scalar i c y f t v) = SoundScalar c y t v
SoundRest (alias i) = Unit {0}

pub record SoundEvent (e : YamlEvent) : Type 0 where
  pub index_fits : marker_index e < 0x1_0000_0000
  pub rest : SoundRest e
  pub body_fits : length (encode_body e) ≤ 65_535
