-- Room for records (R7): every event takes at least seven bytes and completes at most one node. So with room for a record to each seven
-- event bytes row 7 refuses nothing. Of the events it is asked that they are bytes.
use Rattle.std.specs.Prelude.{◌≡◌, refl, Bool, cond, ◌⊎◌, ltb, leb, Result, Ok, Err, Option, Some, None}
use Rattle.std.proofs.Common.{ap, ◌∙◌, inl, inr}
use Prim.{Unit}
use Prim.Native.Nat.{ℕ, zero, suc, ◌+◌, ◌*◌, ◌/◌, ◌≤◌, ◌<◌}
use Rattle.std.proofs.Math.Bool.{true, false}
use mathlib.Core.List.{List, [], ◌∷◌}
use native.Mathlib.Omega.{arith}
use Rattle.std.proofs.lemmas.Bool.{lt-leb}
use Rattle.std.proofs.Math.ListN.{length}
use Rattle.provenance.specs.Reading.{Piece}
use Rattle.utf8.specs.Ascii.{Bytes}
use Rattle.event.specs.Encode.{YamlEvent, encode_event}
use Rattle.event.proofs.EncodeLaws.{stands_inside}
use Rattle.event.proofs.EventListLaws.{event_takes}
use Rattle.event.specs.Read.{read_event, events_limit}
use Rattle.event.specs.Meaning.{placed, Answers}
use Rattle.event.proofs.ReadLaws.{malformed_or_answers}
use Rattle.event.specs.declared.tag.YamlTag.{YamlTag}
use Rattle.event.specs.declared.read.Event.{Event}
use Rattle.event.specs.declared.malformed.Malformed.{Malformed}
use Rattle.event.specs.Read as read
use Rattle.event.specs.declared.read.Event.TheVariants.{SequenceStart, SequenceEnd, MappingStart, MappingEnd, Scalar, Alias}
use Rattle.text.specs.Admission.{admission}
use Rattle.text.specs.declared.admission.TextError.{TextError}
use Rattle.text.specs.declared.admission.TextError.TheVariants.{TooLong, NotUtf8}
use Rattle.spans.specs.Collection.{closes}
use Rattle.parser.specs.Machine.{State, empty, Next, go, stop, Outcome, built, refused, depth_limit, root_done, before_root, within_depth, within_room}
use Rattle.parser.specs.Machine.{on_start, ended, on_end, on_alias, keeping, scalar_kept, on_scalar, on_read, next_place, ending, follow, run, run_all}
use Rattle.records.specs.Layout.{record_room, piece_room}
use Rattle.parser.specs.Call.{admitted, with_parents, building}
use Rattle.parser.proofs.BoundLaws.{Holding, Stepped, stepped}
use Rattle.records.specs.declared.record.Node.{Node}
use Rattle.spans.specs.declared.open.Collection.{Collection}
use Rattle.spans.specs.declared.open.Collection.TheVariants.{Sequence, Mapping}
use Rattle.spans.specs.declared.open.Open.{Open}

-- the fewest bytes of an event: its tag byte, its body's length, its marker index
abbrev pub event_least : ℕ
event_least = 7

-- not refused with 7
abbrev Fits : Outcome → Type 0
Fits (built xs ps) = Unit {0}
Fits (refused number place) = number ≡ 7 → ⊥

-- ---- a step, where one record more fits

abbrev Passes : Next → Type 0
Passes (go st) = Unit {0}
Passes (stop number) = number ≡ 7 → ⊥

pick_passes : (t : Bool) (m n : Next) → Passes m → Passes n → Passes (cond t m n)
pick_passes true m n g h = g
pick_passes false m n g h = h

before_root_lem : (st : State) (n : Next) → Passes n → Passes (before_root st n)
unfolding before_root
before_root_lem st n h = pick_passes (root_done st) (stop 5) n (λ e. omega arith) h

module _ (room : ℕ) (st : State) (free : length st.nodes < room) where
  within_room_lem : (n : Next) → Passes n → Passes (within_room room st n)
  unfolding within_room
  within_room_lem n h = rw (lt-leb room (length st.nodes) free) h

  start_passes : (text : List ℕ) (collection : Collection) (index : ℕ) (tag : Option YamlTag) → Passes (on_start text collection index tag st)
  unfolding on_start within_depth
  start_passes text collection index tag = before_root_lem st _ (pick_passes (leb depth_limit (length st.opens)) (stop 6) _ (λ e. omega arith) tt)

  end_passes : (text : List ℕ) (collection : Collection) (index : ℕ) (os : List Open) → Passes (on_end text room collection index os st)
  unfolding ended
  end_passes text collection index [] = λ e. omega arith
  end_passes text collection index (o ∷ os) = pick_passes (closes collection o) (ended text room index o os st) (stop 4) (within_room_lem _ tt) (λ e. omega arith)

  keep_passes : (r : ℕ) (x : Node) (l : Option (List Piece)) → Passes (keeping r x l st)
  unfolding keeping
  keep_passes r x None = tt
  keep_passes r x (Some ps) = pick_passes (ltb r (length st.pieces + length ps)) (stop 8) _ (λ e. omega arith) tt

  step_passes : (text events : List ℕ) (r : ℕ) (e : Result (Event × ℕ) Malformed) → Passes (on_read text events room r e st)
  unfolding on_scalar scalar_kept on_alias
  step_passes text events r (Ok (SequenceStart index tag, n)) = start_passes text Sequence index tag
  step_passes text events r (Ok (SequenceEnd index, n)) = end_passes text Sequence index st.opens
  step_passes text events r (Ok (MappingStart index tag, n)) = start_passes text Mapping index tag
  step_passes text events r (Ok (MappingEnd index, n)) = end_passes text Mapping index st.opens
  step_passes text events r (Ok (Scalar index column style empty_span tag value, n)) = before_root_lem st _ (within_room_lem _ (keep_passes r _ _))
  step_passes text events r (Ok (Alias index, n)) = before_root_lem st _ (within_room_lem _ tt)
  step_passes text events r (Err e) = λ e. omega arith

-- ---- an event's bytes

pub next_placed : (i : ℕ) (e : YamlEvent) → next_place (Ok (placed i e)) ≡ i + length (encode_event e)
unfolding placed
next_placed i e = refl

-- an event that is read at i takes at least seven bytes, all within s
pub answer_takes : (s : List ℕ) (i : ℕ) (r : Result (Event × ℕ) Malformed) → Answers s i r → (i + event_least ≤ next_place r) × (next_place r ≤ length s)
answer_takes s i r a =
    let e = a.event in
    let least = event_takes e in
    let inside = stands_inside s i (encode_event e) a.stands.rest a.stands.starts (omega arith) in
    let next : next_place r ≡ i + length (encode_event e) = ap next_place a.answered ∙ next_placed i e in
    (omega arith, omega arith)

-- ---- the run

ended_fits : (k : ℕ) (st : State) → Fits (ending k st)
unfolding ending
ended_fits k st = by (root_done st)
  where
    by : (t : Bool) → Fits (cond t (built st.nodes st.pieces) (refused 9 k))
    by true = tt
    by false = λ e. omega arith

module _ (text events : List ℕ) (bytes : Bytes events) (room r : ℕ) (enough : length events / event_least ≤ room) where
  -- from event number k on, wherever it stands: k events came before it, of seven bytes or more, and they completed k nodes at most
  abbrev Rest : ℕ → ℕ → Type 0
  Rest f k = (i : ℕ) (st : State) → Holding k r st → event_least * k ≤ i → Fits (run text events room r f i k st)

  followed : (f j k : ℕ) (n : Next) → Passes n → Stepped (k + 1) r n → event_least * (k + 1) ≤ j → Rest f (k + 1)
      → Fits (follow n (λ (u : State). run text events room r f j (k + 1) u) k)
  followed f j k (go u) p g l rest = rest j u g l
  followed f j k (stop number) p g l rest = p

  run_fits : (f k : ℕ) → Rest f k
  unfolding run
  run_fits zero k i st h l = ended_fits k st
  run_fits (suc f) k i st h l = by (ltb i (length events)) (malformed_or_answers events bytes i) (run_fits f (k + 1))
    where
      by : (t : Bool) → (read_event events i ≡ Err read.malformed) ⊎ Answers events i (read_event events i) → Rest f (k + 1)
          → Fits (cond t (follow (on_read text events room r (read_event events i) st) (λ (u : State). run text events room r f (next_place (read_event events i)) (k + 1) u) k) (ending k st))
      by false a rest = ended_fits k st
      by true (inl bad) rest = rw bad (λ e. omega arith)
      by true (inr a) rest =
          let e = read_event events i in
          let takes = answer_takes events i e a in
          let free : length st.nodes < room = omega arith in
          followed f (next_place e) k (on_read text events room r e st) (step_passes room st free text events r e) (stepped text events room r k e st h) (omega arith) rest

admitted_fits : (a : Result Bool TextError) (o : Outcome) → Fits o → Fits (admitted a o)
admitted_fits (Ok ascii) o h = h
admitted_fits (Err TooLong) o h = λ e. omega arith
admitted_fits (Err NotUtf8) o h = λ e. omega arith

parents_fit : (o : Outcome) → Fits o → Fits (with_parents o)
parents_fit (built xs ps) h = tt
parents_fit (refused number place) h = h

-- ---- the call

-- with room for a record to each seven event bytes row 7 never refuses, whatever the text and the room for pieces
pub room_enough : (text events : List ℕ) (size pieces_size : ℕ) → Bytes events → length events / event_least ≤ record_room size
    → (k : ℕ) → building text events size pieces_size ≡ refused 7 k → ⊥
unfolding building run_all
room_enough text events size pieces_size bytes enough k e = (rw e at (by (ltb events_limit (length events)))) refl
  where
    all : Outcome
    all = run text events (record_room size) (piece_room pieces_size) (length events) 0 0 empty

    by : (t : Bool) → Fits (cond t (refused 1 0) (admitted (admission text) (with_parents all)))
    by true = λ e. omega arith
    by false =
        admitted_fits (admission text) (with_parents all)
        (parents_fit all (run_fits text events bytes (record_room size) (piece_room pieces_size) enough (length events) 0 0 empty (omega arith, omega arith) (omega arith)))
