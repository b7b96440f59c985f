-- What the reader answers, as definitions that compute. An event is read at a place of the event bytes; its parts are read from the bytes up to
-- the body's end, which nothing may cross. What the answers mean is said in `Meaning`, by the encodings: an event is answered exactly
-- where the encoding of a sound one stands. (E1; row 3, R3.)
use Rattle.std.specs.Prelude.{ℕ, ◌+◌, ◌-◌, Bool, cond, List, ltb, leb, eqb, length, get_or, take, drop, Option, Some, None, Result, Ok, Err}
use Rattle.utf8.specs.Characters.{is_utf8}
use Rattle.style.specs.Style.{style_of}
use Rattle.style.specs.declared.Style.{Style}
use Rattle.event.specs.Number.{number_at}
use Rattle.event.specs.declared.malformed.Malformed.{Malformed}
use Rattle.event.specs.declared.string.Part.{Part}
use Rattle.event.specs.declared.tag.YamlTag.{YamlTag}
use Rattle.event.specs.declared.read.Event.{Event}
use Rattle.event.specs.declared.read.Event.TheVariants.{SequenceStart, SequenceEnd, MappingStart, MappingEnd, Scalar, Alias}

-- the most event bytes of a call (R1)
abbrev pub events_limit : ℕ
events_limit = 4_194_304

-- what is refused (number 3 of the table)
abbrev pub malformed : Malformed
malformed = record {}

-- one step after another, as `?` has it
infixl 10 ◌>>=◌
abbrev pub ◌>>=◌ : {A B : Type 0} → Result A Malformed → (A → Result B Malformed) → Result B Malformed
Ok x >>= f = f x
Err e >>= f = Err e

-- ---- parts

abbrev pub part : ℕ → ℕ → Part
part i n = record { at = i; len = n }

-- the bytes of a part
abbrev pub part_of : List ℕ → Part → List ℕ
part_of s p = take p.len (drop p.at s)

-- ---- strings

-- the string at a place: its length in two bytes, then as many of UTF-8
unfoldable pub read_string : List ℕ → ℕ → Result Part Malformed
read_string s i =
    cond (leb (i + 2) (length s))
    (cond (leb (i + 2 + number_at s i 2) (length s))
    (cond (is_utf8 (part_of s (part (i + 2) (number_at s i 2)))) (Ok (part (i + 2) (number_at s i 2))) (Err malformed))
    (Err malformed))
    (Err malformed)

-- ---- YAML tags

abbrev pub yaml_tag : Part → Part → YamlTag
yaml_tag handle suffix = record { handle = handle; suffix = suffix }

-- the handle and the suffix at a place, and the place after them
abbrev pub read_parts : List ℕ → ℕ → Result (Option YamlTag × ℕ) Malformed
read_parts s i = do
  h ← read_string s i
  x ← read_string s (h.at + h.len)
  Ok (Some (yaml_tag h x), x.at + x.len)

-- the YAML tag at a place, and the place after it: byte 0 for none, or byte 1, handle, suffix
unfoldable pub read_tag : List ℕ → ℕ → Result (Option YamlTag × ℕ) Malformed
read_tag s i =
    cond (ltb i (length s))
    (cond (eqb (get_or s i 0) 0) (Ok (None, i + 1))
    (cond (eqb (get_or s i 0) 1) (read_parts s (i + 1)) (Err malformed)))
    (Err malformed)

-- the YAML tag from a place on, nothing left over
unfoldable pub read_start_tag : List ℕ → ℕ → Result (Option YamlTag) Malformed
read_start_tag s i = do
  t ← read_tag s i
  cond (eqb t.1 (length s)) (Ok t.0) (Err malformed)

-- ---- bodies, from the byte after the marker index n on, in the bytes up to the body's end

-- with column, style and empty span read: the value is what the YAML tag leaves
abbrev pub with_value : List ℕ → ℕ → ℕ → Style → Bool → Option YamlTag × ℕ → Result Event Malformed
with_value s n column style empty t =
    let value = part t.1 (length s - t.1) in
    cond (is_utf8 (part_of s value)) (Ok (Scalar n column style empty t.0 value)) (Err malformed)

unfoldable pub read_scalar : List ℕ → ℕ → ℕ → Result Event Malformed
read_scalar s n i =
    cond (leb (i + 6) (length s))
    (cond (leb (get_or s (i + 4) 0) 4)
    (cond (leb (get_or s (i + 5) 0) 1)
    (read_tag s (i + 6) >>= with_value s n (number_at s i 4) (style_of (get_or s (i + 4) 0)) (eqb (get_or s (i + 5) 0) 1))
    (Err malformed))
    (Err malformed))
    (Err malformed)

-- nothing but the marker index, by the tag byte
abbrev pub bare_event : ℕ → ℕ → Result Event Malformed
bare_event kind n =
    cond (eqb kind 2) (Ok (SequenceEnd n)) (cond (eqb kind 4) (Ok (MappingEnd n)) (cond (eqb kind 6) (Ok (Alias n)) (Err malformed)))

-- by the tag byte
unfoldable pub read_body : List ℕ → ℕ → ℕ → ℕ → Result Event Malformed
read_body s kind n i =
    cond (eqb kind 5) (read_scalar s n i)
    (cond (eqb kind 1) (read_start_tag s i >>= λ t. Ok (SequenceStart n t))
    (cond (eqb kind 3) (read_start_tag s i >>= λ t. Ok (MappingStart n t))
    (cond (ltb i (length s)) (Err malformed) (bare_event kind n))))

-- ---- the frame

-- the event at a place, and the place after it: a tag byte, the body's length in two bytes, a body of at least the marker index, from the
-- bytes up to its end
unfoldable pub read_event : List ℕ → ℕ → Result (Event × ℕ) Malformed
read_event s i =
    cond (leb (i + 3) (length s))
    (cond (leb (i + 3 + number_at s (i + 1) 2) (length s))
    (cond (leb 4 (number_at s (i + 1) 2))
    (read_body (take (i + 3 + number_at s (i + 1) 2) s) (get_or s i 0) (number_at s (i + 3) 4) (i + 3 + 4)
    >>= λ e. Ok (e, i + 3 + number_at s (i + 1) 2))
    (Err malformed))
    (Err malformed))
    (Err malformed)
