-- A scalar: where it starts (S1), how far it reaches, its tag, its pieces, and its record without them (E2). Measures, walk, resolution and
-- tag search are cited from the layers below.
use Rattle.std.specs.Prelude.{ℕ, ◌+◌, Bool, ◌&&◌, cond, List, eqb, length, get_or, drop, Option, Some, None, option_map}
use Rattle.text.specs.Offset.{byte_offset}
use Rattle.schema.specs.Tag.{resolve_scalar}
use Rattle.schema.specs.Record.{truth, kind_number, payload_of}
use Rattle.schema.specs.declared.plain.Resolved.{Resolved}
use Rattle.measure.specs.Scalar.{plain, scalar_measure, scalar_len}
use Rattle.measure.specs.declared.length.Measure.{Measure}
use Rattle.tag.specs.Tag.{tag_span}
use Rattle.tag.specs.declared.property.TagSpan.{TagSpan}
use Rattle.provenance.specs.Reading.{Piece}
use Rattle.provenance.specs.Start.{walk_start, scalar_list}
use Rattle.event.specs.Read.{part_of}
use Rattle.event.specs.declared.string.Part.{Part}
use Rattle.event.specs.declared.tag.YamlTag.{YamlTag}
use Rattle.records.specs.Record.{absent, extent, no_tag, no_list}
use Rattle.records.specs.declared.record.TagInfo.{TagInfo}
use Rattle.records.specs.declared.record.Node.{Node}
use Rattle.spans.specs.declared.open.Suffix.{Suffix}
use Rattle.spans.specs.declared.scalar.ScalarMark.{ScalarMark}
use Rattle.spans.specs.declared.scalar.ScalarEvent.{ScalarEvent}

-- what an event gives of a scalar
pub record Mark : Type 0 where
  pub index : ℕ
  pub column : ℕ
  pub style : ℕ
  pub empty : Bool

abbrev pub mark : ℕ → ℕ → ℕ → Bool → Mark
mark index column style empty_span = record { index = index; column = column; style = style; empty = empty_span }

-- the code's mark
abbrev pub mark_of : ScalarMark → Mark
mark_of m = mark m.index m.column m.style m.empty

abbrev pub scalar_given : ScalarMark → Option YamlTag → Part → ScalarEvent
scalar_given m tag value = record { mark = m; tag = tag; value = value }

-- a scalar as the reading rules take it: its first byte, what its event says, and the place of its value in the event bytes
pub record ScalarAt : Type 0 where
  pub start : ℕ
  pub column : ℕ
  pub style : ℕ
  pub empty_span : Bool
  pub value : List ℕ
  pub place : ℕ

abbrev pub scalar_from : ℕ → Mark → List ℕ → ℕ → ScalarAt
scalar_from i m value place =
    record { start = i; column = m.column; style = m.style; empty_span = m.empty; value = value; place = place }

-- ---- start

-- plus 1 where the byte c stands at the place i
unfoldable pub step_past : List ℕ → ℕ → ℕ → ℕ
step_past text c i = cond (eqb (get_or text i 0) c) (i + 1) i

abbrev pub colon : ℕ
colon = 0x3a

-- an empty plain scalar awaited as a mapping's value steps past the colon it stands on (S1)
unfoldable pub scalar_start : List ℕ → ℕ → List ℕ → ℕ → Bool → ℕ
scalar_start text i value style awaited = cond (awaited && (eqb style plain && eqb (length value) 0)) (step_past text colon i) i

-- the start of the scalar whose marker has the index `m.index` (P1)
abbrev pub start_at : List ℕ → Bool → Mark → List ℕ → ℕ
start_at text awaited m value = scalar_start text (byte_offset text m.index) value m.style awaited

abbrev pub scalar_at : List ℕ → Bool → Mark → List ℕ → ℕ → ScalarAt
scalar_at text awaited m value place = scalar_from (start_at text awaited m value) m value place

-- ---- span and pieces

-- its span: how long it is, and whether that was measured (02, (b))
abbrev pub span_measure : List ℕ → ScalarAt → Measure
span_measure text x = scalar_measure (drop x.start text) x.value x.style x.empty_span x.column

abbrev pub span_len : List ℕ → ScalarAt → ℕ
span_len text x = (span_measure text x).len

-- its pieces, if its walk gives a list
abbrev pub list_at : List ℕ → ScalarAt → Option (List Piece)
list_at text x = scalar_list text x.start (span_len text x) x.value x.style x.column

-- the first byte of its walk, from the marker index on (P1, S1, S14); the span decides only where a block header has no newline
unfoldable pub walk_first : List ℕ → Bool → Mark → List ℕ → ℕ
walk_first text awaited m value =
    walk_start text (start_at text awaited m value)
    (scalar_len (drop (start_at text awaited m value) text) value m.style m.empty m.column) value m.style

-- ---- tag

abbrev pub suffix_of : Option YamlTag → Option Suffix
suffix_of None = None
suffix_of (Some t) = Some (record { place = t.suffix.at; len = t.suffix.len })

abbrev pub with_span : TagSpan → ℕ → ℕ → TagInfo
with_span p i n = record { start = p.start; end = p.end; suffix = i; len = n }

-- the tag of a node that starts at byte i: its span is searched from there
unfoldable pub tag_info : List ℕ → ℕ → Option Suffix → TagInfo
tag_info text i None = no_tag
tag_info text i (Some x) = with_span (tag_span text i x.len) x.place x.len

-- ---- record

unfoldable pub resolved_by : List ℕ → List ℕ → ℕ → Option YamlTag → Resolved
resolved_by events value style tag = resolve_scalar value style (option_map (λ t. (part_of events t.handle, part_of events t.suffix)) tag)

-- the record of a scalar: its span goes from `start` as far as `span` says, which also says whether it was measured; its value, at `place`, has
-- `len` bytes; no list and no parent yet
unfoldable pub scalar_over : ℕ → Measure → ℕ → ℕ → TagInfo → Resolved → Node
scalar_over start span place len tag r =
    record {
      kind = kind_number r;
      extent = extent start (start + span.len);
      tag = tag;
      subtree = 1;
      list = no_list;
      payload = payload_of r place len;
      parent = absent;
      measured = truth span.measured;
    }

abbrev pub scalar_node : List ℕ → ScalarAt → TagInfo → Resolved → Node
scalar_node text x tag r = scalar_over x.start (span_measure text x) x.place (length x.value) tag r

-- an event's scalar whose marker stands at byte i
abbrev pub event_scalar : List ℕ → List ℕ → ℕ → Bool → ScalarEvent → ScalarAt
event_scalar text events i awaited e =
    let value = part_of events e.value in
    scalar_from (scalar_start text i value e.mark.style awaited) (mark_of e.mark) value e.value.at

-- its record, by its tag
unfoldable pub event_node : List ℕ → List ℕ → ScalarAt → Option YamlTag → Node
event_node text events x tag = scalar_node text x (tag_info text x.start (suffix_of tag)) (resolved_by events x.value x.style tag)
