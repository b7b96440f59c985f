-- The machine over a list of events (E1, R3): it takes the events in order, and an event's number is its index in the list. That the run
-- over event bytes is this run over the events that stand in them is `EventsAsList`, and what comes of other bytes `FaultyBytes`; both are
-- proved in proofs/EventRun.antt.
use Rattle.std.specs.Prelude.{ℕ, zero, suc, ◌+◌, ◌%◌, ◌<◌, ◌≡◌, ◌⊎◌, Bool, false, List, [], ◌∷◌, reverse, eqb, length, Ok, Err}
use Rattle.event.specs.Encode.{YamlEvent, sequence_start, sequence_end, mapping_start, mapping_end, scalar, alias, encode_event}
use Rattle.event.specs.Meaning.{StandsAt, placed, event_number}
use Rattle.event.specs.EventList.{encode_events}
use Rattle.event.specs.Read as read
use Rattle.parser.specs.Machine.{State, empty, Next, go, stop, Outcome, refused, on_read, ending, follow, run_all}
use Rattle.parser.specs.Call.{building}

-- how many nodes an event completes, and the events of a list
abbrev pub nodes_completed : YamlEvent → ℕ
nodes_completed (sequence_start index tag) = 0
nodes_completed (mapping_start index tag) = 0
nodes_completed (sequence_end index) = 1
nodes_completed (mapping_end index) = 1
nodes_completed (scalar index column style empty_span tag value) = 1
nodes_completed (alias index) = 1

abbrev pub completed_by : List YamlEvent → ℕ
completed_by [] = 0
completed_by (e ∷ es) = nodes_completed e + completed_by es

-- one node more, unless it stands in a collection passed back into
abbrev pub one_more : ℕ → ℕ → ℕ
one_more zero n = n + 1
one_more (suc k) n = n

-- the events from the last to the first, back to the start of the innermost collection that is open: whether that is a mapping with an odd number of
-- nodes directly in it. So far there were n, and k collections are passed back into whose starts are still to come
unfoldable pub awaited_back : List YamlEvent → ℕ → ℕ → Bool
awaited_back [] k n = false
awaited_back (sequence_start index tag ∷ es) zero n = false
awaited_back (sequence_start index tag ∷ es) (suc k) n = awaited_back es k n
awaited_back (mapping_start index tag ∷ es) zero n = eqb (n % 2) 1
awaited_back (mapping_start index tag ∷ es) (suc k) n = awaited_back es k n
awaited_back (sequence_end index ∷ es) k n = awaited_back es (suc k) (one_more k n)
awaited_back (mapping_end index ∷ es) k n = awaited_back es (suc k) (one_more k n)
awaited_back (scalar index column style empty_span tag value ∷ es) k n = awaited_back es k (one_more k n)
awaited_back (alias index ∷ es) k n = awaited_back es k (one_more k n)

-- whether the node that comes after the events is awaited as a mapping's value (S1)
abbrev pub awaited_by : List YamlEvent → Bool
awaited_by es = awaited_back (reverse es) 0 0

abbrev pub go_on : Next → (State → Next) → Next
go_on (go st) f = f st
go_on (stop n) f = stop n

module _ (text events : List ℕ) (room piece_room : ℕ) where
  -- the events, of which the first stands at the place i, are let through to this state, or one of them is refused
  unfoldable pub reached : ℕ → List YamlEvent → State → Next
  reached i [] st = go st
  reached i (e ∷ es) st = go_on (on_read text events room piece_room (Ok (placed i e)) st) (λ (n : State). reached (i + length (encode_event e)) es n)

  -- what they come to, the first being number k: a refusal, or what `last` says after them
  unfoldable pub run_events : (ℕ → State → Outcome) → ℕ → ℕ → List YamlEvent → State → Outcome
  run_events last i k [] st = last k st
  run_events last i k (e ∷ es) st =
      follow (on_read text events room piece_room (Ok (placed i e)) st) (λ (n : State). run_events last (i + length (encode_event e)) (k + 1) es n) k

-- no sound event stands where one should: row 3
abbrev pub malformed : ℕ → State → Outcome
malformed k st = refused (event_number (Err read.malformed)) k

-- what the run over event bytes comes to, by the events that stand in them from the front
pub record EventsAsList (text events : List ℕ) (room piece_room : ℕ) (es : List YamlEvent) (rest : List ℕ) : Type 0 where
  -- they are all
  pub whole : rest ≡ [] → run_all text events room piece_room ≡ run_events text events room piece_room ending 0 0 es empty
  -- none stands next
  pub faulty :
      0 < length rest → ((e : YamlEvent) → StandsAt events (length (encode_events es)) e → ⊥)
      → run_all text events room piece_room ≡ run_events text events room piece_room malformed 0 0 es empty

-- what a call comes to whose event bytes are n sound events and then something else: rows 1 and 2, row 3 at number n, or a row at a smaller one
pub record FaultyBytes (text events : List ℕ) (size pieces_size n : ℕ) : Type 0 where
  pub number : ℕ
  pub place : ℕ
  pub refuses : building text events size pieces_size ≡ refused number place
  pub rows : ((number ≡ 1) × (place ≡ 0)) ⊎ ((number ≡ 2) × (place ≡ 0)) ⊎ ((number ≡ event_number (Err read.malformed)) × (place ≡ n)) ⊎ (place < n)
