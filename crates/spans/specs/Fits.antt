-- What inner calls ask of their callers, and what those on a scalar hand back.
use Rattle.std.specs.Prelude.{ℕ, ◌≤◌, ◌<◌, List, length, Bool, Option, Some, None}
use Rattle.text.specs.Admission.{text_limit}
use Rattle.event.specs.Read.{events_limit}
use Rattle.event.specs.Proved.{TextPart, TextParts}
use Rattle.event.specs.declared.tag.YamlTag.{YamlTag}
use Rattle.schema.specs.declared.plain.Resolved.{Resolved}
use Rattle.provenance.specs.Layout.{answer_of}
use Rattle.records.specs.Record.{absent}
use Rattle.records.specs.declared.record.TagInfo.{TagInfo}
use Rattle.spans.specs.Scalar.{ScalarAt, scalar_node, list_at, event_scalar, event_node}
use Rattle.spans.specs.declared.scalar.ScalarEntry.{ScalarEntry}
use Rattle.spans.specs.declared.scalar.ScalarEvent.{ScalarEvent}

-- the numbers of its suffix fit a record, and none is the number that says there is none
abbrev pub TagFits : Option YamlTag → Type 0
TagFits None = Unit {0}
TagFits (Some t) = (t.suffix.at < absent) × (t.suffix.len < absent)

-- tag and value are texts in event bytes that are within their limit, and the value is short
pub record EventFits (events : List ℕ) (e : ScalarEvent) : Type 0 where
  pub parts : TextParts events e.tag
  pub value : TextPart events e.value
  pub few : e.value.len ≤ text_limit
  pub short : length events ≤ events_limit

-- a scalar's record and the answer of its walk, where so many pieces are let in
abbrev pub scalar_entry : ℕ → List ℕ → ScalarAt → TagInfo → Resolved → ScalarEntry
scalar_entry most text x tag r = record { node = scalar_node text x tag r; walked = answer_of most (list_at text x) }

abbrev pub event_entry : ℕ → List ℕ → List ℕ → ℕ → Bool → ScalarEvent → ScalarEntry
event_entry most text events i awaited e =
    let x = event_scalar text events i awaited e in
    record { node = event_node text events x e.tag; walked = answer_of most (list_at text x) }
