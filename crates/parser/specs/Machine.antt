-- The builder as a machine over lists (R3 to R9, RO). A state holds the nodes completed, the collections open, the innermost first, and
-- the pieces kept. The step for an event gives the next state or the number of a row, the rows tested in the table's order. Markers have
-- no cursor here: an offset is `byte_offset` of its index. Nodes have no parent here: the call gives it to them (`with_parents`, Call.antt).
-- `room` is how many records fit, `piece_room` how many pieces.
--
-- `run` counts down the length of the event bytes, which are more than the events; what a reader expects of it stands in `RunLaws`.
use Rattle.std.specs.Prelude.{ℕ, zero, suc, ◌+◌, ◌%◌, Bool, false, ◌&&◌, cond, List, [], ◌∷◌, ◌++◌, eqb, ltb, leb, length, Option, Result, Ok, Err, Some, None}
use Rattle.style.specs.Style.{style_number}
use Rattle.text.specs.Offset.{byte_offset}
use Rattle.provenance.specs.Reading.{Piece}
use Rattle.provenance.specs.Layout.{walked_number}
use Rattle.provenance.specs.declared.walk.Walked.TheVariants.{NoRoom}
use Rattle.event.specs.Read.{read_event}
use Rattle.event.specs.Meaning.{event_number}
use Rattle.event.specs.declared.malformed.Malformed.{Malformed}
use Rattle.event.specs.declared.tag.YamlTag.{YamlTag}
use Rattle.event.specs.declared.read.Event.{Event}
use Rattle.event.specs.declared.read.Event.TheVariants.{SequenceStart, SequenceEnd, MappingStart, MappingEnd, Scalar, Alias}
use Rattle.records.specs.Record.{with_list, alias_node}
use Rattle.spans.specs.Scalar.{ScalarAt, scalar_given, list_at, suffix_of, event_node, event_scalar}
use Rattle.spans.specs.Collection.{is_mapping, with_child, closes, collection_node}
use Rattle.records.specs.declared.record.Node.{Node}
use Rattle.spans.specs.declared.open.Collection.{Collection}
use Rattle.spans.specs.declared.open.Collection.TheVariants.{Sequence, Mapping}
use Rattle.spans.specs.declared.open.Open.{Open}
use Rattle.spans.specs.declared.scalar.ScalarEvent.{ScalarEvent}

pub record State : Type 0 where
  pub nodes : List Node
  pub opens : List Open
  pub pieces : List Piece

abbrev pub empty : State
empty = record { nodes = []; opens = []; pieces = [] }

pub data Next : Type 0 where
  go : State → Next
  stop : ℕ → Next

-- what a call comes to: the nodes and the pieces, or a row's number and its place
pub data Outcome : Type 0 where
  built : List Node → List Piece → Outcome
  refused : ℕ → ℕ → Outcome

-- ---- rows

-- the root is complete
unfoldable pub root_done : State → Bool
root_done st = eqb (length st.opens) 0 && ltb 0 (length st.nodes)

-- R5
unfoldable pub before_root : State → Next → Next
before_root st n = cond (root_done st) (stop 5) n

-- how many collections may be open
abbrev pub depth_limit : ℕ
depth_limit = 64

-- R6
unfoldable pub within_depth : State → Next → Next
within_depth st n = cond (leb depth_limit (length st.opens)) (stop 6) n

-- R7
unfoldable pub within_room : ℕ → State → Next → Next
within_room room st n = cond (leb room (length st.nodes)) (stop 7) n

-- ---- what an event does

-- a node is complete
unfoldable pub completed : Node → State → State
completed x st = record { nodes = st.nodes ++ (x ∷ []); opens = with_child x.extent.start st.opens; pieces = st.pieces }

-- a collection that starts at byte i, after n nodes
abbrev pub opening : Collection → ℕ → Option YamlTag → ℕ → Open
opening collection i tag n = record { collection = collection; start = i; suffix = suffix_of tag; children = 0; first = None; before = n }

unfoldable pub on_start : List ℕ → Collection → ℕ → Option YamlTag → State → Next
on_start text collection index tag st =
    before_root st
    (within_depth st
    (go (record {
      nodes = st.nodes;
      opens = opening collection (byte_offset text index) tag (length st.nodes) ∷ st.opens;
      pieces = st.pieces;
    })))

-- the innermost collection is o, and os are those around it
unfoldable pub ended : List ℕ → ℕ → ℕ → Open → List Open → State → Next
ended text room index o os st =
    within_room room st
    (go (completed (collection_node text o (byte_offset text index) (length st.nodes)) (record { nodes = st.nodes; opens = os; pieces = st.pieces })))

-- R4
abbrev pub on_end : List ℕ → ℕ → Collection → ℕ → List Open → State → Next
on_end text room collection index [] st = stop 4
on_end text room collection index (o ∷ os) st = cond (closes collection o) (ended text room index o os st) (stop 4)

unfoldable pub on_alias : List ℕ → ℕ → ℕ → State → Next
on_alias text room index st = before_root st (within_room room st (go (completed (alias_node (byte_offset text index)) st)))

-- R8: a node, and the pieces of its walk if that gave a list, even an empty one; the first is the next free entry (E4, N1)
unfoldable pub keeping : ℕ → Node → Option (List Piece) → State → Next
keeping piece_room x None st = go (completed x st)
keeping piece_room x (Some ps) st =
    cond (ltb piece_room (length st.pieces + length ps)) (stop (walked_number NoRoom))
    (go (completed (with_list x (length st.pieces) (length ps)) (record { nodes = st.nodes; opens = st.opens; pieces = st.pieces ++ ps })))

-- the scalar x with its tag
unfoldable pub scalar_kept : List ℕ → List ℕ → ℕ → ScalarAt → Option YamlTag → State → Next
scalar_kept text events piece_room x tag st =
    keeping piece_room (event_node text events x tag) (list_at text x) st

-- whether the next node is the value of the innermost mapping's last key
abbrev pub awaits_value : List Open → Bool
awaits_value [] = false
awaits_value (o ∷ os) = is_mapping o.collection && eqb (o.children % 2) 1

unfoldable pub on_scalar : List ℕ → List ℕ → ℕ → ℕ → ScalarEvent → State → Next
on_scalar text events room piece_room e st =
    before_root st
    (within_room room st
    (scalar_kept text events piece_room (event_scalar text events (byte_offset text e.mark.index) (awaits_value st.opens) e) e.tag st))

-- ---- the step, the run, the ending

abbrev pub on_event : List ℕ → List ℕ → ℕ → ℕ → Event → State → Next
on_event text events room piece_room (SequenceStart index tag) st = on_start text Sequence index tag st
on_event text events room piece_room (SequenceEnd index) st = on_end text room Sequence index st.opens st
on_event text events room piece_room (MappingStart index tag) st = on_start text Mapping index tag st
on_event text events room piece_room (MappingEnd index) st = on_end text room Mapping index st.opens st
on_event text events room piece_room (Scalar index column style empty_span tag value) st =
    on_scalar text events room piece_room (scalar_given (record { index = index; column = column; style = style_number style; empty = empty_span }) tag value) st
on_event text events room piece_room (Alias index) st = on_alias text room index st

-- what is read: an event, or nothing that is one (R3)
abbrev pub on_read : List ℕ → List ℕ → ℕ → ℕ → Result (Event × ℕ) Malformed → State → Next
on_read text events room piece_room (Ok (e, next)) st = on_event text events room piece_room e st
on_read text events room piece_room (Err e) st = stop (event_number (Err e))

-- the place after what is read
abbrev pub next_place : Result (Event × ℕ) Malformed → ℕ
next_place (Ok (e, next)) = next
next_place (Err e) = 0

-- the events have ended, and were k (R0, R9)
unfoldable pub ending : ℕ → State → Outcome
ending k st = cond (root_done st) (built st.nodes st.pieces) (refused 9 k)

abbrev pub follow : Next → (State → Outcome) → ℕ → Outcome
follow (go st) f k = f st
follow (stop n) f k = refused n k

-- from the place i on, where event number k stands
unfoldable pub run : List ℕ → List ℕ → ℕ → ℕ → ℕ → ℕ → ℕ → State → Outcome
run text events room piece_room zero i k st = ending k st
run text events room piece_room (suc f) i k st =
    cond (ltb i (length events))
    (follow (on_read text events room piece_room (read_event events i) st) (λ (n : State). run text events room piece_room f (next_place (read_event events i)) (k + 1) n) k)
    (ending k st)

-- over all events, from nothing
unfoldable pub run_all : List ℕ → List ℕ → ℕ → ℕ → Outcome
run_all text events room piece_room = run text events room piece_room (length events) 0 0 empty
