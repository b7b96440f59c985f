-- What the code's values hold of the machine's state. Cited by the inner calls' contracts only.
use Rattle.std.specs.Prelude.{◌≡◌, ℕ, ◌+◌, ◌-◌, ◌*◌, ◌/◌, ◌≤◌, ◌<◌, Bool, true, false, List, [], ◌∷◌, ◌++◌, ◌&&◌, eqb, ltb, length, take, Result, Ok, Err, Option}
use Rattle.utf8.specs.Boundary.{Boundary}
use Rattle.text.specs.Offset.{Stands}
use Rattle.text.specs.Admission.{text_limit}
use Rattle.event.specs.Read.{events_limit}
use Rattle.event.specs.Proved.{EventWithin}
use Rattle.event.specs.declared.read.Event.{Event}
use Rattle.event.specs.declared.read.Event.TheVariants.{SequenceStart, SequenceEnd, MappingStart, MappingEnd, Scalar, Alias}
use Rattle.records.specs.Record.{absent, record_width, with_list}
use Rattle.records.specs.Parent.{parented}
use Rattle.records.specs.Forest.{Forest, post_order, nodes_in, trees}
use Rattle.records.specs.Adopt.{Sized}
use Rattle.provenance.specs.Reading.{Piece}
use Rattle.provenance.specs.Layout.{room, answer_of, buffer_of, piece_width, laid_pieces}
use Rattle.provenance.specs.declared.walk.Walked.{Walked}
use Rattle.provenance.specs.declared.walk.Walked.TheVariants.{Listed, NoRoom, NoList}
use Rattle.parser.specs.Machine.{State, Next, go, stop, Outcome, built, refused, completed, keeping, run_all}
use Rattle.records.specs.Layout.{piece_limit, pieces_limit, record_room, piece_room, laid_nodes}
use Rattle.parser.specs.Call.{row_number, returned, table_row, with_parents, building, Delivered}
use Rattle.records.specs.declared.record.Node.{Node}
use Rattle.spans.specs.declared.open.Open.{Open}
use Rattle.spans.specs.declared.scalar.ScalarEntry.{ScalarEntry}
use Rattle.parser.specs.declared.answer.Scalar as answer
use Rattle.parser.specs.declared.answer.Refusal.{Refusal}
use Rattle.parser.specs.declared.answer.Refusal.TheVariants as row
use Rattle.parser.specs.declared.answer.Built.{Built}
use Rattle.parser.specs.declared.answer.Refused.{Refused}
use Rattle.parser.specs.declared.on_event.Builder.{Builder}
use Rattle.parser.specs.Opens.{Below, OnBoundaries}

-- ---- the state

-- n records, of the nodes xs with the parents that are known
pub record RecordsHeld (size : ℕ) (xs : List Node) (n : ℕ) (records : List ℕ) : Type 0 where
  pub size_is : length records ≡ size
  pub nodes_are : length xs ≡ n
  pub records_hold : records ≡ laid_nodes size (parented 0 xs)
  pub records_fit : record_width * n ≤ size

-- n pieces, which are ps
pub record PiecesHeld (size : ℕ) (ps : List Piece) (n : ℕ) (pieces : List ℕ) : Type 0 where
  pub pieces_size_is : length pieces ≡ size
  pub pieces_are : length ps ≡ n
  pub pieces_hold : pieces ≡ laid_pieces size ps
  pub pieces_fit : piece_width * n ≤ size
  pub pieces_few : size ≤ pieces_limit

-- the collections that are open after n nodes
pub record OpensHeld (text : List ℕ) (os : List Open) (n : ℕ) (stack : List Open) : Type 0 where
  pub opens_are : os ≡ stack
  pub below : Below stack n
  pub on_boundaries : OnBoundaries text stack

-- of a builder, its records and its pieces
pub record Held (text : List ℕ) (size pieces_size : ℕ) (st : State) (b : Builder) (records pieces : List ℕ) : Type 0 where
  pub records_held : RecordsHeld size st.nodes b.nodes records
  pub open records_held use *
  pub pieces_held : PiecesHeld pieces_size st.pieces b.used pieces
  pub open pieces_held use *
  pub opens_held : OpensHeld text st.opens b.nodes b.stack
  pub open opens_held use *
  pub cursor_stands : Stands text b.cursor.chars b.cursor.offset

-- ---- trees

-- the nodes since o was opened, those before it being `outer`, are as many trees as it has children
pub record Level (o : Open) (outer xs : List Node) : Type 0 where
  pub kids : Forest
  pub order : xs ≡ outer ++ post_order kids
  pub sized : Sized kids
  pub before : o.before ≡ length outer
  pub children : o.children ≡ trees kids

-- so it is in each open collection, the innermost first
abbrev pub Nest : List Open → List Node → Type 0
Nest [] xs = Unit {0}
Nest (o ∷ os) xs = (outer : List Node) × Nest os outer × Level o outer xs

abbrev pub Nested : State → Type 0
Nested st = Nest st.opens st.nodes

-- the next node is x: the root of the last k trees of the nodes, its parent not known yet
pub record Rooted (x : Node) (k : ℕ) (st : State) : Type 0 where
  pub outer : List Node
  pub nest : Nest st.opens outer
  pub kids : Forest
  pub order : st.nodes ≡ outer ++ post_order kids
  pub sized : Sized kids
  pub children : k ≡ trees kids
  pub count : x.subtree ≡ nodes_in kids + 1
  pub parent : x.parent ≡ absent

-- a node of no children
pub record Leaf (x : Node) : Type 0 where
  pub count : x.subtree ≡ 1
  pub parent : x.parent ≡ absent

-- a value is no longer than a text may be
abbrev pub ValueShort : Event → Type 0
ValueShort (SequenceStart m t) = Unit {0}
ValueShort (SequenceEnd m) = Unit {0}
ValueShort (MappingStart m t) = Unit {0}
ValueShort (MappingEnd m) = Unit {0}
ValueShort (Scalar m c y f t v) = v.len ≤ text_limit
ValueShort (Alias m) = Unit {0}

-- the event was read at some place of the event bytes, with some place after it, and those are within their limit
pub record Read (events : List ℕ) (e : Event) : Type 0 where
  pub place : ℕ
  pub next : ℕ
  pub within : EventWithin events place (Ok (e, next))
  pub value_short : ValueShort e
  pub short : length events ≤ events_limit

-- some state is held, and there are fewer nodes than events can be
pub record Ready (text : List ℕ) (b : Builder) (records pieces : List ℕ) : Type 0 where
  pub size : ℕ
  pub pieces_size : ℕ
  pub st : State
  pub held : Held text size pieces_size st b records pieces
  pub nested : Nested st
  pub few : b.nodes < events_limit

-- the same, whatever the records or the pieces are
abbrev pub ReadyBut : List ℕ → Builder → List ℕ → Type 0
ReadyBut text b records = (pieces : List ℕ) × Ready text b records pieces

abbrev pub ReadyToOpen : List ℕ → Builder → Type 0
ReadyToOpen text b = (records : List ℕ) × ReadyBut text b records

-- a node can be put: what `push_complete` asks for
pub record Pushable (b : Builder) (records : List ℕ) : Type 0 where
  pub room : b.nodes < length records / record_width
  pub few : b.nodes < events_limit
  pub below : Below b.stack b.nodes

-- ---- what the inner calls promise

-- whether the root is complete
abbrev pub is_root_done : Builder → Bool
is_root_done b = eqb (length b.stack) 0 && ltb 0 b.nodes

-- text or event bytes are not let in, by row e: whatever else holds, the call comes to that
abbrev pub Refuses : List ℕ → List ℕ → Refusal → Type 0
Refuses text events e = (size pieces_size : ℕ) → building text events size pieces_size ≡ refused (row_number e) 0

-- refused with e if t says so
abbrev pub gate : Bool → Refusal → Result Unit Refusal
gate true e = Err e
gate false e = Ok tt

-- n is what the machine does next, and r what the code answers, with its builder and buffers then; k nodes were complete before
abbrev pub Moved : {A : Type 0} → List ℕ → ℕ → ℕ → ℕ → Next → Result A Refusal → Builder → List ℕ → List ℕ → Type 0
Moved text size pieces_size k (go st) (Ok t) b records pieces = Held text size pieces_size st b records pieces × Nested st × (b.nodes ≤ k + 1)
Moved text size pieces_size k (go st) (Err e) b records pieces = ⊥
Moved text size pieces_size k (stop n) (Ok t) b records pieces = ⊥
Moved text size pieces_size k (stop n) (Err e) b records pieces = n ≡ row_number e

-- the code goes with the machine's move f, from every state that its values hold
abbrev pub Follows : {A : Type 0} → List ℕ → Builder → List ℕ → List ℕ → (ℕ → ℕ → State → Next) → Result A Refusal → Builder → List ℕ → List ℕ → Type 0
Follows text b records pieces f r b' records' pieces' =
    (size pieces_size : ℕ) (st : State) → Held text size pieces_size st b records pieces → Nested st
    → Moved text size pieces_size b.nodes (f (record_room size) (pieces_size / piece_width) st) r b' records' pieces'

-- the same for a move that leaves the pieces alone
abbrev pub FollowsBut : List ℕ → Builder → List ℕ → (ℕ → State → Next) → Result Unit Refusal → Builder → List ℕ → Type 0
FollowsBut text b records f r b' records' =
    (pieces : List ℕ) → Follows text b records pieces (λ (room piece_room : ℕ) (st : State). f room st) r b' records' pieces

-- and for one that leaves the records alone too
abbrev pub Opens : List ℕ → Builder → (State → Next) → Result Unit Refusal → Builder → Type 0
Opens text b f r b' = (records : List ℕ) → FollowsBut text b records (λ (room : ℕ) (st : State). f st) r b' records

-- the node x with k children is complete, whatever the text and the pieces are
abbrev pub Completes : Builder → Node → ℕ → List ℕ → Builder → List ℕ → Type 0
Completes b x k records b' records' =
    (text : List ℕ) (size pieces_size : ℕ) (st : State) (pieces : List ℕ) → Boundary text x.extent.start → Rooted x k st
    → Held text size pieces_size st b records pieces → Held text size pieces_size (completed x st) b' records' pieces × Nested (completed x st)

-- so many pieces more can be counted
abbrev pub Counted : ℕ → Walked → Type 0
Counted used (Listed n) = used + n ≤ piece_limit
Counted used NoRoom = Unit {0}
Counted used NoList = Unit {0}

-- what the call on one scalar answers, by the scalar's walk
abbrev alone_by : Node → Walked → Result answer.Scalar Refusal
alone_by x (Listed n) = Ok (record { node = with_list x 0 n; pieces = n })
alone_by x NoRoom = Err row.NoPieceRoom
alone_by x NoList = Ok (record { node = x; pieces = 0 })

abbrev pub alone_answer : ScalarEntry → Result answer.Scalar Refusal
alone_answer x = alone_by x.node x.walked

-- the scalar x is kept, its walk having left y in the free part of the pieces, whatever its list o
abbrev pub Keeps : Builder → ScalarEntry → List ℕ → Result Unit Refusal → Builder → List ℕ → Type 0
Keeps b x records r b' records' =
    (text : List ℕ) (size pieces_size : ℕ) (st : State) (pieces : List ℕ) (o : Option (List Piece)) (y : List ℕ)
    → Boundary text x.node.extent.start → Leaf x.node → Held text size pieces_size st b records pieces → Nested st
    → length y ≡ pieces_size - piece_width * b.used → x.walked ≡ answer_of (room (length y)) o → y ≡ buffer_of (length y) o
    → Moved text size pieces_size b.nodes (keeping (pieces_size / piece_width) x.node o st) r b' records' (take (piece_width * b.used) pieces ++ y)

-- the inner part of `build`: the answer, and the buffers where it was not refused
abbrev pub Filled : ℕ → ℕ → Outcome → Result Built Refused → List ℕ → List ℕ → Type 0
Filled size pieces_size (built xs ps) r b p = (returned r ≡ table_row (built xs ps)) × (b ≡ laid_nodes size xs) × (p ≡ laid_pieces pieces_size ps)
Filled size pieces_size (refused n k) r b p = returned r ≡ table_row (refused n k)

abbrev pub Fills : List ℕ → List ℕ → List ℕ → List ℕ → Result Built Refused → List ℕ → List ℕ → Type 0
Fills text events b p r b' p' = Filled (length b) (length p) (with_parents (run_all text events (record_room (length b)) (length p / piece_width))) r b' p'

-- and with the buffers cleared where it was
abbrev pub Settles : List ℕ → List ℕ → List ℕ → List ℕ → Result Built Refused → List ℕ → List ℕ → Type 0
Settles text events b p r b' p' = Delivered (length b) (length p) (with_parents (run_all text events (record_room (length b)) (piece_room (length p)))) r b' p'
