-- The run over event bytes is the run over the list of the events that stand in them (`events_as_list`), what comes of bytes that are no such
-- list (`faulty_bytes`), and what follows of a run over a list: the events before a refused one are let through, and its number is how many
-- they are.
use mathlib.Core.Path.{◌≡◌, refl, sym, ap, ◌∙◌, subst}
use mathlib.Core.Bool.{Bool, true, false}
use mathlib.Core.Logic.{◌⊎◌, inl, inr, ⊎_elim}
use mathlib.Core.List.{List, [], ◌∷◌, ◌++◌, append-nil}
use Prim.Native.Nat.{ℕ, ◌+◌, ◌-◌, ◌≤◌, ◌<◌}
use native.Mathlib.Omega.{arith}
use Rattle.std.specs.Prelude.{Result, Ok, Err}
use lib.Dec.{ltb}
use lib.ListN.{length, length-append}
use Rattle.provenance.specs.Reading.{Piece}
use Rattle.utf8.specs.Ascii.{Bytes}
use Rattle.event.specs.Encode.{YamlEvent, encode_event}
use Rattle.event.specs.Meaning.{StandsAt, placed, event_number}
use Rattle.event.specs.Read.{events_limit, read_event}
use Rattle.text.specs.Admission.{admission}
use Rattle.text.specs.declared.admission.TextError.{TextError}
use Rattle.text.specs.declared.admission.TextError.TheVariants.{TooLong, NotUtf8}
use Rattle.event.specs.EventList.{encode_events, AllSound}
use Rattle.event.proofs.EventListLaws.{Stand, event_takes, all_stand}
use Rattle.event.proofs.EncodeLaws.{stands_inside}
use Rattle.event.proofs.ReadLaws.{sound_is_read, none_stands_malformed}
use Rattle.event.specs.declared.read.Event.{Event}
use Rattle.event.specs.declared.malformed.Malformed.{Malformed}
use Rattle.event.specs.Read as read
use Rattle.parser.specs.Machine.{State, empty, Next, go, stop, Outcome, built, refused, on_read, next_place, ending, follow, run, run_all}
use Rattle.parser.proofs.RunLaws.{run_ended, run_on, run_stopped, stop_not_go}
use Rattle.records.specs.declared.record.Node.{Node}
use Rattle.parser.proofs.Room.{next_placed}
use Rattle.parser.specs.EventRun.{go_on, reached, run_events, malformed, EventsAsList, FaultyBytes}
use Rattle.records.specs.Layout.{record_room, piece_room}
use Rattle.parser.specs.Call.{with_parents, building}

pub go_is : (a b : State) → go a ≡ go b → a ≡ b
go_is a b e = cc

pub refused_not_built : (m k : ℕ) (xs : List Node) (ps : List Piece) → refused m k ≡ built xs ps → ⊥
refused_not_built m k xs ps e = let z : ◌≡◌ {A = ℕ} 0 1 = cc in omega arith

pub stop_is : (m n : ℕ) → stop m ≡ stop n → m ≡ n
stop_is m n e = cc

module _ (text events : List ℕ) (room piece_room : ℕ) where
  abbrev step_of : Result (Event × ℕ) Malformed → State → Next
  step_of = on_read text events room piece_room

  abbrev run_from : ℕ → ℕ → ℕ → State → Outcome
  run_from = run text events room piece_room

  abbrev over : (ℕ → State → Outcome) → ℕ → ℕ → List YamlEvent → State → Outcome
  over = run_events text events room piece_room

  abbrev through : ℕ → List YamlEvent → State → Next
  through = reached text events room piece_room

  stands_short : (i : ℕ) (e : YamlEvent) → StandsAt events i e → i + length (encode_event e) ≤ length events
  stands_short i e p = let t = event_takes e in stands_inside events i (encode_event e) p.rest p.starts (omega arith)

  -- ---- the run over the events that stand, whatever comes after them

  module _ (last : ℕ → State → Outcome) (n : ℕ) (after : (f k : ℕ) (st : State) → length events ≤ n + f → run_from f n k st ≡ last k st) where
    pub in_order_lem : (f i k : ℕ) (es : List YamlEvent) (st : State) → Stand events i es n → length events ≤ i + f → run_from f i k st ≡ over last i k es st
    unfolding Stand run_events
    in_order_lem f i k [] st stand h = subst (λ (j : ℕ). run_from f j k st ≡ last k st) (sym stand) (after f k st (omega arith))
    in_order_lem f i k (e ∷ es) st stand h = by (step_of (Ok (placed i e)) st) refl (λ st'. in_order_lem (f - 1) (i + length (encode_event e)) (k + 1) es st' stand.1 (let t = event_takes e in omega arith))
      where
        by : (x : Next) → step_of (Ok (placed i e)) st ≡ x → ((st' : State) → run_from (f - 1) (i + length (encode_event e)) (k + 1) st' ≡ over last (i + length (encode_event e)) (k + 1) es st')
            → run_from f i k st ≡ follow x (λ (st' : State). over last (i + length (encode_event e)) (k + 1) es st') k
        by x is rest =
            let short = stands_short i e stand.0 in
            let t = event_takes e in
            let read : read_event events i ≡ Ok (placed i e) = sound_is_read events i e stand.0 in
            with_read x is rest read (omega arith) (omega arith)
          where
            with_read : (x : Next) → step_of (Ok (placed i e)) st ≡ x → ((st' : State) → run_from (f - 1) (i + length (encode_event e)) (k + 1) st' ≡ over last (i + length (encode_event e)) (k + 1) es st')
                → read_event events i ≡ Ok (placed i e) → i < length events → 0 < f → run_from f i k st ≡ follow x (λ (st' : State). over last (i + length (encode_event e)) (k + 1) es st') k
            with_read (stop m) is rest read l o = run_stopped text events room piece_room f i k m st o l (ap (λ (z : Result (Event × ℕ) Malformed). step_of z st) read ∙ is)
            with_read (go st') is rest read l o =
                run_on text events room piece_room f i k st st' o l (ap (λ (z : Result (Event × ℕ) Malformed). step_of z st) read ∙ is)
                ∙ ap (λ (j : ℕ). run_from (f - 1) j (k + 1) st') (ap next_place read ∙ next_placed i e)
                ∙ rest st'

  pub events_as_list : Bytes events → (es : List YamlEvent) (rest : List ℕ) → AllSound es → events ≡ encode_events es ++ rest → EventsAsList text events room piece_room es rest
  unfolding run_all
  events_as_list bytes es rest sound is =
      record {
        whole = λ none.
            let all : length (encode_events es) ≡ length events = ap length (sym (is ∙ ap (λ (l : List ℕ). encode_events es ++ l) none ∙ append-nil (encode_events es))) in
            in_order_lem ending (length (encode_events es)) (λ f k st h. run_ended text events room piece_room f (length (encode_events es)) k st (omega arith)) (length events) 0 0 es empty stand (omega arith);
        faulty = λ some bad.
            let size : length events ≡ length (encode_events es) + length rest = ap length is ∙ length-append (encode_events es) rest in
            let faulty : read_event events (length (encode_events es)) ≡ Err read.malformed = none_stands_malformed events bytes (length (encode_events es)) bad in
            in_order_lem malformed (length (encode_events es))
            (λ f k st h. run_stopped text events room piece_room f (length (encode_events es)) k (event_number (Err read.malformed)) st (omega arith) (omega arith) (ap (λ (z : Result (Event × ℕ) Malformed). step_of z st) faulty))
            (length events) 0 0 es empty stand (omega arith);
      }
    where
      stand : Stand events 0 es (length (encode_events es))
      stand = let z : 0 + length (encode_events es) ≡ length (encode_events es) = omega arith in subst (λ (n : ℕ). Stand events 0 es n) z (all_stand events 0 es rest sound is)

  -- ---- what follows of a run over a list

  -- all are let through
  pub over_through : (last : ℕ → State → Outcome) (i k : ℕ) (es : List YamlEvent) (st st' : State) → through i es st ≡ go st' → over last i k es st ≡ last (k + length es) st'
  unfolding reached run_events
  over_through last i k [] st st' e = let z : k ≡ k + 0 = omega arith in ap (last k) (go_is st st' e) ∙ ap (λ (n : ℕ). last n st') z
  over_through last i k (x ∷ es) st st' e = by (step_of (Ok (placed i x)) st) e (λ s h. over_through last (i + length (encode_event x)) (k + 1) es s st' h)
    where
      by : (n : Next) → go_on n (λ (s : State). through (i + length (encode_event x)) es s) ≡ go st'
          → ((s : State) → through (i + length (encode_event x)) es s ≡ go st' → over last (i + length (encode_event x)) (k + 1) es s ≡ last (k + 1 + length es) st')
          → follow n (λ (s : State). over last (i + length (encode_event x)) (k + 1) es s) k ≡ last (k + length (x ∷ es)) st'
      by (stop m) f rest = absurd (stop_not_go m st' f)
      by (go s) f rest = let z : k + 1 + length es ≡ k + length (x ∷ es) = omega arith in rest s f ∙ ap (λ (n : ℕ). last n st') z

  -- an event of a run that is built: those before it are let through, it leads on, and so do those after it
  pub record Passing (last : ℕ → State → Outcome) (i : ℕ) (before : List YamlEvent) (e : YamlEvent) (after : List YamlEvent) (st : State) (o : Outcome) : Type 0 where
    pub here : State
    pub next : State
    pub to_here : through i before st ≡ go here
    pub on : step_of (Ok (placed (i + length (encode_events before)) e)) here ≡ go next
    pub place : ℕ
    pub number : ℕ
    pub rest : over last place number after next ≡ o

  pub passing : (last : ℕ → State → Outcome) (i k : ℕ) (before : List YamlEvent) (e : YamlEvent) (after : List YamlEvent) (st : State) (xs : List Node) (ps : List Piece)
      → over last i k (before ++ (e ∷ after)) st ≡ built xs ps → Passing last i before e after st (built xs ps)
  unfolding reached run_events encode_events
  passing last i k [] e after st xs ps h = by (step_of (Ok (placed i e)) st) refl h
    where
      by : (n : Next) → step_of (Ok (placed i e)) st ≡ n → follow n (λ (s : State). over last (i + length (encode_event e)) (k + 1) after s) k ≡ built xs ps → Passing last i [] e after st (built xs ps)
      by (stop m) is f = absurd (refused_not_built m k xs ps f)
      by (go s) is f =
          let z : i ≡ i + 0 = omega arith in
          record { here = st; next = s; to_here = refl; on = ap (λ (j : ℕ). step_of (Ok (placed j e)) st) (sym z) ∙ is; place = i + length (encode_event e); number = k + 1; rest = f }
  passing last i k (x ∷ before) e after st xs ps h =
      by (step_of (Ok (placed i x)) st) refl h (λ s f. passing last (i + length (encode_event x)) (k + 1) before e after s xs ps f)
    where
      by : (n : Next) → step_of (Ok (placed i x)) st ≡ n → follow n (λ (s : State). over last (i + length (encode_event x)) (k + 1) (before ++ (e ∷ after)) s) k ≡ built xs ps
          → ((s : State) → over last (i + length (encode_event x)) (k + 1) (before ++ (e ∷ after)) s ≡ built xs ps → Passing last (i + length (encode_event x)) before e after s (built xs ps))
          → Passing last i (x ∷ before) e after st (built xs ps)
      by (stop m) is f more = absurd (refused_not_built m k xs ps f)
      by (go s) is f more =
          let p = more s f in
          let z : i + length (encode_event x) + length (encode_events before) ≡ i + length (encode_event x ++ encode_events before) = rw (length-append) (omega arith) in
          record {
            here = p.here;
            next = p.next;
            to_here = ap (λ (n : Next). go_on n (λ (t : State). through (i + length (encode_event x)) before t)) is ∙ p.to_here;
            on = ap (λ (j : ℕ). step_of (Ok (placed j e)) p.here) (sym z) ∙ p.on;
            place = p.place;
            number = p.number;
            rest = p.rest;
          }

  -- a refusal that is not what `last` says: the event at which it comes
  pub record StoppedAt (i k : ℕ) (es : List YamlEvent) (st : State) (m n : ℕ) : Type 0 where
    pub before : List YamlEvent
    pub event : YamlEvent
    pub after : List YamlEvent
    pub split : es ≡ before ++ (event ∷ after)
    pub number : n ≡ k + length before
    pub here : State
    pub to_here : through i before st ≡ go here
    pub stops : step_of (Ok (placed (i + length (encode_events before)) event)) here ≡ stop m

  pub stopped_at : (last : ℕ → State → Outcome) (m : ℕ) → ((k n : ℕ) (st : State) → last k st ≡ refused m n → ⊥) → (i k : ℕ) (es : List YamlEvent) (st : State) (n : ℕ)
      → over last i k es st ≡ refused m n → StoppedAt i k es st m n
  unfolding reached run_events encode_events
  stopped_at last m never i k [] st n h = absurd (never k n st h)
  stopped_at last m never i k (x ∷ es) st n h = by (step_of (Ok (placed i x)) st) refl h (λ s f. stopped_at last m never (i + length (encode_event x)) (k + 1) es s n f)
    where
      by : (t : Next) → step_of (Ok (placed i x)) st ≡ t → follow t (λ (s : State). over last (i + length (encode_event x)) (k + 1) es s) k ≡ refused m n
          → ((s : State) → over last (i + length (encode_event x)) (k + 1) es s ≡ refused m n → StoppedAt (i + length (encode_event x)) (k + 1) es s m n) → StoppedAt i k (x ∷ es) st m n
      by (stop j) is f more =
          let a : j ≡ m = cc in
          let b : k ≡ n = cc in
          let z : i + 0 ≡ i = omega arith in
          record { before = []; event = x; after = es; split = refl; number = omega arith; here = st; to_here = refl; stops = ap (λ (p : ℕ). step_of (Ok (placed p x)) st) z ∙ is ∙ ap stop a }
      by (go s) is f more =
          let p = more s f in
          let b = p.before in
          let z : i + length (encode_event x ++ encode_events p.before) ≡ i + length (encode_event x) + length (encode_events p.before) = rw (length-append) (omega arith) in
          let num = p.number in
          record {
            before = x ∷ p.before;
            event = p.event;
            after = p.after;
            split = ap (λ (l : List YamlEvent). x ∷ l) p.split;
            number = omega arith;
            here = p.here;
            to_here = ap (λ (t : Next). go_on t (λ (u : State). through (i + length (encode_event x)) p.before u)) is ∙ p.to_here;
            stops = ap (λ (j : ℕ). step_of (Ok (placed j p.event)) p.here) z ∙ p.stops;
          }

  -- ---- bytes that are no list of events

  abbrev Ends : ℕ → ℕ → Outcome → Type 0
  Ends k n o = (m : ℕ) × (p : ℕ) × (o ≡ refused m p) × (((m ≡ event_number (Err read.malformed)) × (p ≡ k + n)) ⊎ (p < k + n))

  faulty_ends : (i k : ℕ) (es : List YamlEvent) (st : State) → Ends k (length es) (over malformed i k es st)
  unfolding run_events
  faulty_ends i k [] st = (event_number (Err read.malformed), k, refl, inl (refl, omega arith))
  faulty_ends i k (x ∷ es) st = by (step_of (Ok (placed i x)) st) (λ s. faulty_ends (i + length (encode_event x)) (k + 1) es s)
    where
      by : (n : Next) → ((s : State) → Ends (k + 1) (length es) (over malformed (i + length (encode_event x)) (k + 1) es s)) → Ends k (length (x ∷ es)) (follow n (λ (s : State). over malformed (i + length (encode_event x)) (k + 1) es s) k)
      by (stop m) more = (m, k, refl, inr (omega arith))
      by (go s) more = let r = more s in (r.0, r.1, r.2, ⊎_elim (λ w. inl (w.0, omega arith)) (λ w. inr (omega arith)) r.3)

pub faulty_bytes : (text events : List ℕ) (size pieces_size : ℕ) → Bytes events → (es : List YamlEvent) (rest : List ℕ) → AllSound es → events ≡ encode_events es ++ rest
    → 0 < length rest → ((e : YamlEvent) → StandsAt events (length (encode_events es)) e → ⊥) → FaultyBytes text events size pieces_size (length es)
unfolding building
faulty_bytes text events size pieces_size bytes es rest ok is some bad = by (ltb events_limit (length events)) refl (admission text) refl
  where
    runs : run_all text events (record_room size) (piece_room pieces_size) ≡ run_events text events (record_room size) (piece_room pieces_size) malformed 0 0 es empty
    runs = (events_as_list text events (record_room size) (piece_room pieces_size) bytes es rest ok is).faulty some bad

    by : (t : Bool) → ltb events_limit (length events) ≡ t → (a : Result Bool TextError) → admission text ≡ a → FaultyBytes text events size pieces_size (length es)
    by true l a ad = record { number = 1; place = 0; refuses = rw l refl; rows = inl (refl, refl) }
    by false l (Err TooLong) ad = record { number = 1; place = 0; refuses = rw (l, ad) refl; rows = inl (refl, refl) }
    by false l (Err NotUtf8) ad = record { number = 2; place = 0; refuses = rw (l, ad) refl; rows = inr (inl (refl, refl)) }
    by false l (Ok x) ad =
        let r = faulty_ends text events (record_room size) (piece_room pieces_size) 0 0 es empty in
        record {
          number = r.0;
          place = r.1;
          refuses = rw (l, ad) (ap with_parents (runs ∙ r.2));
          rows = ⊎_elim (λ w. inr (inr (inl (w.0, omega arith)))) (λ w. inr (inr (inr (omega arith)))) r.3;
        }
