-- Demand 3 at the public calls, in document 01's terms: the marker index, the event that stands in the event bytes, the record and the piece
-- numbers that are handed back. proofs/Demand.antt proves `ScalarDemand3` of `scalar` and `BuildDemand3` of `build`.
use Rattle.std.specs.Prelude.{ℕ, zero, suc, ◌+◌, ◌-◌, ◌*◌, ◌≤◌, ◌<◌, ◌≡◌, ◌⊎◌, Bool, true, false, not, cond, List, [], ◌∷◌, ◌++◌, eqb, length, get_or, drop, Some, None}
use Rattle.text.specs.Admitted.{AdmittedText}
use Rattle.utf8.specs.Boundary.{Boundary}
use Rattle.utf8.specs.Characters.{codes}
use Rattle.schema.specs.Tag.{resolve_scalar}
use Rattle.schema.specs.Record.{truth, kind_number, payload_of}
use Rattle.schema.specs.declared.plain.Resolved.{Resolved}
use Rattle.measure.specs.Scalar.{scalar_len}
use Rattle.measure.specs.Measured.{SaysMeasured}
use Rattle.tag.specs.Tag.{tag_span}
use Rattle.event.specs.Read.{events_limit, part, part_of}
use Rattle.event.specs.Encode.{Tag, untagged, tagged, YamlEvent, scalar}
use Rattle.event.specs.Meaning.{StandsAt}
use Rattle.event.specs.EventList.{encode_events, AllSound}
use Rattle.provenance.specs.Escape.{escapes_reach}
use Rattle.provenance.specs.Grammar.{rules_of}
use Rattle.provenance.specs.Reading.{Reading, Piece, piece, pieces_of}
use Rattle.provenance.specs.Layout.{walked_number, piece_width, laid_pieces}
use Rattle.provenance.specs.Demand.{Demand3}
use Rattle.provenance.specs.Alike.{reads_alike, past_span, pieces_end}
use Rattle.provenance.specs.declared.step.Step.{Step}
use Rattle.provenance.specs.declared.walk.Walked.{Walked}
use Rattle.provenance.specs.declared.walk.Walked.TheVariants.{Listed, NoRoom, NoList}
use Rattle.records.specs.Record.{absent, extent, no_tag, no_list, zero_node}
use Rattle.spans.specs.Scalar.{Mark, start_at, walk_first, with_span}
use Rattle.parser.specs.Machine.{State, empty, go, Outcome, built, refused, root_done}
use Rattle.parser.specs.EventRun.{completed_by, awaited_by, reached}
use Rattle.records.specs.Layout.{record_room, piece_room}
use Rattle.parser.specs.Call as call
use Rattle.parser.specs.Call.{record_of, building}
use Rattle.records.specs.declared.record.Extent.{Extent}
use Rattle.records.specs.declared.record.TagInfo.{TagInfo}
use Rattle.records.specs.declared.record.Node.{Node}
use Rattle.records.specs.declared.record.PieceList.{PieceList}

-- ---- what the record of a scalar says beside its list (E2, S4, S9, S10; 02, (b), (c))

-- what a scalar is, by its event's tag, its value and its style
abbrev pub resolved_as : Tag → List ℕ → ℕ → Resolved
resolved_as untagged value style = resolve_scalar value style None
resolved_as (tagged handle suffix) value style = resolve_scalar value style (Some (handle, suffix))

-- a scalar's event
abbrev pub scalar_of : Mark → Tag → List ℕ → YamlEvent
scalar_of m tag value = scalar m.index m.column m.style m.empty tag value

-- e is the scalar's span: from document 01's start on, as long as its measure says; and the start is at a character of the text or at its end, which
-- follows (02, (g))
pub record SpanSays (text : List ℕ) (awaited : Bool) (m : Mark) (value : List ℕ) (e : Extent) : Type 0 where
  pub lies :
      e
      ≡ extent (start_at text awaited m value)
      (start_at text awaited m value + scalar_len (drop (start_at text awaited m value) text) value m.style m.empty m.column)
  pub on_boundary : Boundary text e.start

-- n tells whether the scalar's span was measured: document 02's sentence, from the start on
abbrev pub FlagSays : List ℕ → Bool → Mark → List ℕ → ℕ → Type 0
FlagSays text awaited m value n = (t : Bool) × (n ≡ truth t) × SaysMeasured (drop (start_at text awaited m value) text) value m.style t

-- the scalar's record: it is of this kind, its value stands at `place` of the event bytes, and it tells where its span lies and whether that was
-- measured
pub record EntrySays (text : List ℕ) (awaited : Bool) (m : Mark) (value : List ℕ)
    (r : Resolved) (place : ℕ) (t : TagInfo) (x : Node) : Type 0 where
  pub kind : x.kind ≡ kind_number r
  pub span : SpanSays text awaited m value x.extent
  pub tag : x.tag ≡ t
  pub subtree : x.subtree ≡ 1
  pub payload : x.payload ≡ payload_of r place (length value)
  pub measured : FlagSays text awaited m value x.measured

-- the tag's numbers: its span, searched from the node's start on, and where its suffix stands in the event bytes
abbrev pub TagSays : List ℕ → List ℕ → ℕ → Tag → TagInfo → Type 0
TagSays text events start untagged t = t ≡ no_tag
TagSays text events start (tagged handle suffix) t =
    (place : ℕ) × (part_of events (part place (length suffix)) ≡ suffix) × (t ≡ with_span (tag_span text start (length suffix)) place (length suffix))

-- ---- from a record to its pieces (E2, E3, N1)

-- how the walk ended, as the record of its scalar tells
abbrev pub walked_by : PieceList → Walked
walked_by l = cond (eqb l.first absent) NoList (Listed l.count)

-- n pieces of four numbers each
unfoldable pub read_pieces : ℕ → List ℕ → List Piece
read_pieces zero b = []
read_pieces (suc n) b = piece (get_or b 0 0) (get_or b 1 0) (get_or b 2 0) (get_or b 3 0) ∷ read_pieces n (drop piece_width b)

-- what a record's first piece and count find in the piece buffer
abbrev pub list_in : List ℕ → PieceList → List Piece
list_in pieces l = read_pieces l.count (drop (piece_width * l.first) pieces)

-- ---- the call on one scalar

abbrev pub number_of : Outcome → ℕ
number_of (built xs ps) = 0
number_of (refused number place) = number

abbrev pub walked_in : Outcome → Walked
walked_in (built xs ps) = walked_by (record_of (built xs ps)).list
walked_in (refused number place) = NoRoom

pub record ScalarDemand3 (text : List ℕ) (m : Mark) (value : List ℕ) (size : ℕ) (o : Outcome) : Type 0 where
  -- the table's number is the walk's
  pub number : number_of o ≡ walked_number (walked_in o)
  -- the record's list finds the pieces of demand 3 in the buffer
  pub demand3 :
      Demand3 (rules_of m.style m.column) escapes_reach text (walk_first text false m value) value (piece_room size)
      (walked_in o) (list_in (call.pieces_after size o) (record_of o).list)
  -- and every other number is zero
  pub all_numbers : call.pieces_after size o ≡ laid_pieces size (list_in (call.pieces_after size o) (record_of o).list)

-- and the record that is handed back: no tag, its value's place is 0, and no parent
pub record ScalarRecord (text : List ℕ) (m : Mark) (value : List ℕ) (o : Outcome) : Type 0 where
  pub entry : (xs : List Node) (ps : List Piece) → o ≡ built xs ps
      → EntrySays text false m value (resolved_as untagged value m.style) 0 no_tag (record_of o)
  pub parent : (xs : List Node) (ps : List Piece) → o ≡ built xs ps → (record_of o).parent ≡ absent
  pub zero : (number place : ℕ) → o ≡ refused number place → record_of o ≡ zero_node

-- whether there is a list
abbrev pub has_list : PieceList → Bool
has_list l = not (eqb l.first absent)

-- a plain scalar that is measured has a list just if its walk goes along with its measure; its pieces then end so far past its span
pub record MeasuredPlain (text : List ℕ) (m : Mark) (value : List ℕ) (size : ℕ) (o : Outcome) : Type 0 where
  pub list : has_list (record_of o).list ≡ reads_alike (codes value) (codes (drop (start_at text false m value) text))
  pub end : has_list (record_of o).list ≡ true
      → pieces_end (start_at text false m value) (list_in (call.pieces_after size o) (record_of o).list)
      ≡ (record_of o).extent.end + past_span (codes value) (codes (drop (start_at text false m value) text))

-- ---- a document

-- the lists of the nodes, in their order, take the entries from a to e, one after the other
unfoldable pub Consecutive : ℕ → List Node → ℕ → Type 0
Consecutive a [] e = a ≡ e
Consecutive a (x ∷ xs) e =
    ((x.list ≡ no_list) × Consecutive a xs e) ⊎ ((x.list.first ≡ a) × (a < absent) × Consecutive (a + x.list.count) xs e)

-- the scalar event that comes after the events `before`, in a document of the nodes xs and the pieces buffer p
pub record ScalarListed (text events : List ℕ) (room piece_room : ℕ) (before : List YamlEvent)
    (m : Mark) (tag : Tag) (value : List ℕ) (xs : List Node) (p : List ℕ) : Type 0 where
  -- the events before it are let through to this state
  pub st : State
  pub let_through : reached text events room piece_room 0 before empty ≡ go st
  -- its record is number `completed_by before`
  pub node : Node
  pub later : List Node
  pub place : drop (completed_by before) xs ≡ node ∷ later
  -- it says what document 01 says of this event
  pub value_place_is : ℕ
  pub value_there : part_of events (part value_place_is (length value)) ≡ value
  pub tag_info_is : TagInfo
  pub tag_there : TagSays text events (start_at text (awaited_by before) m value) tag tag_info_is
  pub entry : EntrySays text (awaited_by before) m value (resolved_as tag value m.style) value_place_is tag_info_is node
  -- the record's list finds the pieces of demand 3 in the buffer; those kept so far take up room
  pub demand3 :
      Demand3 (rules_of m.style m.column) escapes_reach text (walk_first text (awaited_by before) m value) value
      (piece_room - length st.pieces) (walked_by node.list) (list_in p node.list)

-- a document that is built
pub record ListsBuilt (text events : List ℕ) (size pieces_size : ℕ) (xs : List Node) (ps : List Piece) : Type 0 where
  -- its event bytes are the encodings of sound events
  pub list : List YamlEvent
  pub sound : AllSound list
  pub bytes : events ≡ encode_events list
  pub each : (before after : List YamlEvent) (m : Mark) (tag : Tag) (value : List ℕ)
      → list ≡ before ++ (scalar_of m tag value ∷ after)
      → ScalarListed text events (record_room size) (piece_room pieces_size) before m tag value xs (laid_pieces pieces_size ps)
  -- the lists are all the pieces there are
  pub all_pieces : Consecutive 0 xs (length ps)

-- row 8 at event number k: rows 1 and 2 and the events before k let it pass, and rows 3, 5 and 7 let event k pass (4 is for ends, 6 for starts)
pub record NoRoomAt (text events : List ℕ) (size pieces_size k : ℕ) : Type 0 where
  pub text_sound : AdmittedText text
  pub events_short : length events ≤ events_limit
  pub before : List YamlEvent
  pub sound : AllSound before
  pub rest : List ℕ
  pub bytes : events ≡ encode_events before ++ rest
  pub number : length before ≡ k
  pub st : State
  pub let_through : reached text events (record_room size) (piece_room pieces_size) 0 before empty ≡ go st
  pub mark : Mark
  pub tag : Tag
  pub value : List ℕ
  pub stands : StandsAt events (length (encode_events before)) (scalar_of mark tag value)
  pub before_root_lem : root_done st ≡ false
  pub record_room_is : length st.nodes < record_room size
  -- the walk can start, and has a reading whose pieces and those kept so far are more than the room
  pub first : ℕ
  pub first_is : first ≡ walk_first text (awaited_by before) mark value
  pub can_start : Boundary text first
  pub steps : List Step
  pub reading : Reading (rules_of mark.style mark.column) (drop first text) value steps
  pub too_many : piece_room pieces_size < length st.pieces + length (pieces_of first steps)

pub record BuildDemand3 (text events : List ℕ) (size pieces_size : ℕ) : Type 0 where
  pub lists : (xs : List Node) (ps : List Piece) → building text events size pieces_size ≡ built xs ps → ListsBuilt text events size pieces_size xs ps
  pub no_room_only : (k : ℕ) → building text events size pieces_size ≡ refused (walked_number NoRoom) k → NoRoomAt text events size pieces_size k
  pub no_room_if : (k : ℕ) → NoRoomAt text events size pieces_size k → building text events size pieces_size ≡ refused (walked_number NoRoom) k
