-- What a call comes to is in bounds: the nodes and the place by the number of event bytes, since each node has an event and each event that
-- leads on takes at least a byte; the pieces by their room; the number by the table's last. Of the events it is asked that they are bytes.
use Rattle.std.specs.Prelude.{◌≡◌, Bool, cond, ltb, leb, Result, Ok, Err, Option, None, Some}
use Rattle.std.proofs.Math.Path.{refl}
use Rattle.std.proofs.Common.{sym, ap, ◌∙◌, ltb-false}
use Prim.Native.Nat.{ℕ, zero, suc, ◌+◌, ◌≤◌, ◌<◌}
use Rattle.std.proofs.Math.Bool.{true, false}
use mathlib.Core.List.{List, [], ◌∷◌, ◌++◌}
use native.Mathlib.Omega.{arith}
use Rattle.std.proofs.Math.ListN.{length, length-append}
use Rattle.provenance.specs.Reading.{Piece}
use Rattle.utf8.specs.Ascii.{Bytes}
use Rattle.event.specs.Read.{read_event, events_limit}
use Rattle.event.proofs.ReadLaws.{answer_within}
use Rattle.event.specs.declared.tag.YamlTag.{YamlTag}
use Rattle.event.specs.declared.read.Event.{Event}
use Rattle.event.specs.declared.malformed.Malformed.{Malformed}
use Rattle.event.specs.declared.read.Event.TheVariants.{SequenceStart, SequenceEnd, MappingStart, MappingEnd, Scalar, Alias}
use Rattle.text.specs.Admission.{admission, admission_of_both}
use Rattle.text.specs.declared.admission.TextError.{TextError}
use Rattle.text.specs.declared.admission.TextError.TheVariants.{TooLong, NotUtf8}
use Rattle.style.specs.Style.{folded}
use Rattle.records.proofs.ParentLaws.{parented-length}
use Rattle.records.specs.Record.{with_list}
use Rattle.spans.specs.Scalar.{Mark, ScalarAt, scalar_at}
use Rattle.spans.specs.Collection.{closes}
use Rattle.parser.specs.Machine.{State, empty, Next, go, stop, Outcome, built, refused, depth_limit, root_done, before_root, within_depth, within_room}
use Rattle.parser.specs.Machine.{completed, on_start, ended, on_end, on_alias, keeping, scalar_kept, on_scalar}
use Rattle.parser.specs.Machine.{on_read, next_place, ending, follow, run, run_all}
use Rattle.parser.proofs.RunLaws.{onward, stop_not_go}
use Rattle.parser.specs.Bounds.{last_number, Bounded}
use Rattle.records.specs.Layout.{record_room, piece_room, piece_limit}
use Rattle.parser.specs.Call.{admitted, with_parents, building, one_scalar, scalar_call}
use Rattle.records.specs.declared.record.Node.{Node}
use Rattle.spans.specs.declared.open.Collection.{Collection}
use Rattle.spans.specs.declared.open.Collection.TheVariants.{Sequence, Mapping}
use Rattle.spans.specs.declared.open.Open.{Open}

-- ---- a step

abbrev pub Holding : ℕ → ℕ → State → Type 0
Holding k r st = (length st.nodes ≤ k) × (length st.pieces ≤ r)

abbrev pub Stepped : ℕ → ℕ → Next → Type 0
Stepped k r (go st) = Holding k r st
Stepped k r (stop number) = number ≤ last_number

module _ (k r : ℕ) where
  pick_stepped : (t : Bool) (m n : Next) → Stepped k r m → Stepped k r n → Stepped k r (cond t m n)
  pick_stepped true m n g h = g
  pick_stepped false m n g h = h

  before_root_lem : (st : State) (n : Next) → Stepped k r n → Stepped k r (before_root st n)
  unfolding before_root
  before_root_lem st n h = pick_stepped (root_done st) (stop 5) n (omega arith) h

  within_depth_lem : (st : State) (n : Next) → Stepped k r n → Stepped k r (within_depth st n)
  unfolding within_depth
  within_depth_lem st n h = pick_stepped (leb depth_limit (length st.opens)) (stop 6) n (omega arith) h

  within_room_lem : (room : ℕ) (st : State) (n : Next) → Stepped k r n → Stepped k r (within_room room st n)
  unfolding within_room
  within_room_lem room st n h = pick_stepped (leb room (length st.nodes)) (stop 7) n (omega arith) h

  -- one node more
  completes : (x : Node) (st : State) → Holding k r st → Holding (k + 1) r (completed x st)
  unfolding completed
  completes x st h = (simp length-append (omega arith), h.1)

abbrev with_pieces : List Piece → State → State
with_pieces ps st = record { nodes = st.nodes; opens = st.opens; pieces = st.pieces ++ ps }

module _ (text events : List ℕ) (room r k : ℕ) where
  start_stepped : (collection : Collection) (index : ℕ) (tag : Option YamlTag) (st : State) → Holding k r st → Stepped (k + 1) r (on_start text collection index tag st)
  unfolding on_start
  start_stepped collection index tag st h = before_root_lem (k + 1) r st _ (within_depth_lem (k + 1) r st _ (omega arith, h.1))

  end_stepped : (collection : Collection) (index : ℕ) (os : List Open) (st : State) → Holding k r st → Stepped (k + 1) r (on_end text room collection index os st)
  unfolding ended
  end_stepped collection index [] st h = omega arith
  end_stepped collection index (o ∷ os) st h =
      pick_stepped (k + 1) r (closes collection o) (ended text room index o os st) (stop 4) (within_room_lem (k + 1) r room st _ (completes k r _ _ h)) (omega arith)

  alias_stepped : (index : ℕ) (st : State) → Holding k r st → Stepped (k + 1) r (on_alias text room index st)
  unfolding on_alias
  alias_stepped index st h = before_root_lem (k + 1) r st _ (within_room_lem (k + 1) r room st _ (completes k r _ st h))

  kept_in_room : (x : Node) (ps : List Piece) (st : State) (t : Bool) → ltb r (length st.pieces + length ps) ≡ t → Holding k r st
      → Stepped (k + 1) r (cond t (stop 8) (go (completed (with_list x (length st.pieces) (length ps)) (with_pieces ps st))))
  kept_in_room x ps st true e h = omega arith
  kept_in_room x ps st false e h =
      let fit = ltb-false r (length st.pieces + length ps) e in
      completes k r _ (with_pieces ps st) (h.0, simp length-append (omega arith))

  keep_stepped : (x : Node) (l : Option (List Piece)) (st : State) → Holding k r st → Stepped (k + 1) r (keeping r x l st)
  unfolding keeping
  keep_stepped x None st h = completes k r x st h
  keep_stepped x (Some ps) st h = kept_in_room x ps st (ltb r (length st.pieces + length ps)) refl h

  scalar_stepped : (x : ScalarAt) (tag : Option YamlTag) (st : State) → Holding k r st → Stepped (k + 1) r (scalar_kept text events r x tag st)
  unfolding scalar_kept
  scalar_stepped x tag st h = keep_stepped _ _ st h

  pub stepped : (e : Result (Event × ℕ) Malformed) (st : State) → Holding k r st → Stepped (k + 1) r (on_read text events room r e st)
  unfolding on_scalar
  stepped (Ok (SequenceStart index tag, n)) st h = start_stepped Sequence index tag st h
  stepped (Ok (SequenceEnd index, n)) st h = end_stepped Sequence index st.opens st h
  stepped (Ok (MappingStart index tag, n)) st h = start_stepped Mapping index tag st h
  stepped (Ok (MappingEnd index, n)) st h = end_stepped Mapping index st.opens st h
  stepped (Ok (Scalar index column style empty_span tag value, n)) st h = before_root_lem (k + 1) r st _ (within_room_lem (k + 1) r room st _ (scalar_stepped _ tag st h))
  stepped (Ok (Alias index, n)) st h = alias_stepped index st h
  stepped (Err e) st h = omega arith

-- ---- the run

ended_bounded : (n r k : ℕ) (st : State) → Holding k r st → k ≤ n → Bounded n r (ending k st)
unfolding ending
ended_bounded n r k st h l = by (root_done st)
  where
    by : (t : Bool) → Bounded n r (cond t (built st.nodes st.pieces) (refused 9 k))
    by true = (omega arith, h.1)
    by false = (omega arith, l)

module _ (text events : List ℕ) (bytes : Bytes events) (room r : ℕ) where
  -- an event that leads on ends further on, within the bytes
  led_on : (i : ℕ) (st n : State) → on_read text events room r (read_event events i) st ≡ go n
      → (i < next_place (read_event events i)) × (next_place (read_event events i) ≤ length events)
  led_on i st n e =
      onward events i (read_event events i) (answer_within events i bytes)
      (λ bad. stop_not_go 3 n (sym (ap (λ (x : Result (Event × ℕ) Malformed). on_read text events room r x st) bad) ∙ e))

  -- event number k stands at i, and at most k nodes are complete before it
  pub run_bounded : (f i k : ℕ) (st : State) → Holding k r st → k ≤ i → i ≤ length events → Bounded (length events) r (run text events room r f i k st)
  unfolding run
  run_bounded zero i k st h l m = ended_bounded (length events) r k st h (omega arith)
  run_bounded (suc f) i k st h l m =
      by (ltb i (length events)) (on_read text events room r (read_event events i) st) refl (stepped text events room r k (read_event events i) st h)
      (λ j u g a b. run_bounded f j (k + 1) u g a b)
    where
      by : (t : Bool) (n : Next) → on_read text events room r (read_event events i) st ≡ n → Stepped (k + 1) r n
          → ((j : ℕ) (u : State) → Holding (k + 1) r u → k + 1 ≤ j → j ≤ length events → Bounded (length events) r (run text events room r f j (k + 1) u))
          → Bounded (length events) r (cond t (follow n (λ (u : State). run text events room r f (next_place (read_event events i)) (k + 1) u) k) (ending k st))
      by false n e g rest = ended_bounded (length events) r k st h (omega arith)
      by true (stop number) e g rest = (g, omega arith)
      by true (go u) e g rest = let on = led_on i st u e in rest (next_place (read_event events i)) u g (omega arith) on.1

-- ---- the calls

bounded_wider : (m n r s : ℕ) (o : Outcome) → m ≤ n → r ≤ s → Bounded m r o → Bounded n s o
bounded_wider m n r s (built xs ps) l h b = (omega arith, omega arith)
bounded_wider m n r s (refused number place) l h b = (b.0, omega arith)

admitted_bounded : (n r : ℕ) (a : Result Bool TextError) (o : Outcome) → Bounded n r o → Bounded n r (admitted a o)
admitted_bounded n r (Ok ascii) o h = h
admitted_bounded n r (Err TooLong) o h = (omega arith, omega arith)
admitted_bounded n r (Err NotUtf8) o h = (omega arith, omega arith)

parents_bounded : (n r : ℕ) (o : Outcome) → Bounded n r o → Bounded n r (with_parents o)
parents_bounded n r (built xs ps) h = (let e = parented-length xs 0 in let l = h.0 in omega arith, h.1)
parents_bounded n r (refused number place) h = h

room_limited : (size : ℕ) → piece_room size ≤ piece_limit
room_limited size = omega arith

-- `build`: as many nodes as there are event bytes at most, and as many pieces as may be kept
pub building_bounded : (text events : List ℕ) (size pieces_size : ℕ) → Bytes events → Bounded events_limit piece_limit (building text events size pieces_size)
unfolding building run_all
building_bounded text events size pieces_size bytes = by (ltb events_limit (length events)) refl
  where
    all : Outcome
    all = run text events (record_room size) (piece_room pieces_size) (length events) 0 0 empty

    by : (t : Bool) → ltb events_limit (length events) ≡ t → Bounded events_limit piece_limit (cond t (refused 1 0) (admitted (admission text) (with_parents all)))
    by true e = (omega arith, omega arith)
    by false e =
        admitted_bounded events_limit piece_limit (admission text) (with_parents all)
        (parents_bounded events_limit piece_limit all
        (bounded_wider (length events) events_limit (piece_room pieces_size) piece_limit all (ltb-false events_limit (length events) e) (room_limited pieces_size)
        (run_bounded text events bytes (record_room size) (piece_room pieces_size) (length events) 0 0 empty (omega arith, omega arith) (omega arith) (omega arith))))

one_bounded : (r : ℕ) (t : Bool) (n : Next) → Stepped 1 r n → Bounded 1 r (cond t (refused 3 0) (follow n (λ (st : State). built st.nodes st.pieces) 0))
one_bounded r true n g = (omega arith, omega arith)
one_bounded r false (go st) g = g
one_bounded r false (stop number) g = (g, omega arith)

-- the call on one scalar: one node
pub scalar_bounded : (text : List ℕ) (m : Mark) (value : List ℕ) (pieces_size : ℕ) → Bounded 1 piece_limit (scalar_call text m value pieces_size)
unfolding scalar_call one_scalar
scalar_bounded text m value pieces_size =
    let x = scalar_at text false m value 0 in
    let o = one_scalar text m value pieces_size in
    let r = piece_room pieces_size in
    admitted_bounded 1 piece_limit (admission_of_both text value) o
    (bounded_wider 1 1 r piece_limit o (omega arith) (room_limited pieces_size)
    (one_bounded r (ltb folded m.style) (scalar_kept text [] r x None empty) (scalar_stepped text [] 0 r 0 x None empty (omega arith, omega arith))))
