-- Demand 3 at the public calls: `scalar_demand3` of the call on one scalar, `build_demand3` of a document. A scalar's start is a boundary
-- of its text, so the pieces that the machine keeps are those of the walk from document 01's first byte; later events only add to them.
use mathlib.Core.Path.{◌≡◌, refl, sym, ap, ap₂, ◌∙◌, subst}
use mathlib.Core.Bool.{Bool, true, false, cond}
use mathlib.Core.Logic.{◌⊎◌, inl, inr}
use mathlib.Core.List.{List, [], ◌∷◌, ◌++◌, append-nil, append_assoc}
use Rattle.std.specs.Prelude.{is_some, Some, None, Option, Result, Ok, Err}
use Prim.Native.Nat.{ℕ, zero, suc, ◌+◌, ◌-◌, ◌*◌, ◌≤◌, ◌<◌}
use native.Mathlib.Omega.{arith}
use borrow.Author.Tests.{lt-ltb, le-ltb, lt-leb, le-leb, ltb-true, ltb-false, leb-false, ne_eqb}
use lib.Dec.{ltb, leb, eqb}
use lib.ListN.{length, drop, replicate}
use lib.Seq.{drop-append_seam}
use Rattle.utf8.specs.Utf8.{is_ascii}
use Rattle.utf8.specs.Tests.{clash, by_order}
use Rattle.text.specs.Admitted.{AdmittedText}
use Rattle.text.proofs.AdmissionLaws.{admitted_text}
use Rattle.text.specs.Admission.{text_limit, admission, admission_of_both}
use Rattle.text.specs.declared.admission.TextError.{TextError}
use Rattle.text.specs.declared.admission.TextError.TheVariants.{TooLong, NotUtf8}
use Rattle.utf8.specs.Boundary.{Boundary}
use Rattle.utf8.proofs.Utf8Laws.{utf8_complete}
use Rattle.style.specs.Style.{plain, folded, style_number, style_of}
use Rattle.style.specs.StyleLaws.{known_back}
use Rattle.schema.specs.Tag.{resolve_scalar}
use Rattle.schema.specs.Record.{truth}
use Rattle.schema.specs.declared.plain.Resolved.{Resolved}
use Rattle.measure.specs.Scalar.{scalar_measure}
use Rattle.measure.proofs.MeasuredLaws.{scalar_says}
use Rattle.utf8.specs.Ascii.{Bytes}
use Rattle.event.specs.Read.{events_limit, part, part_of, read_event}
use Rattle.event.specs.Encode.{Tag, untagged, tagged, YamlEvent, sequence_start, sequence_end, mapping_start, mapping_end, scalar, alias, encode_tag, encode_event}
use Rattle.event.specs.Meaning.{StandsAt, placed_tag, placed, said_tag, said}
use Rattle.event.specs.EventList.{encode_events, AllSound, Front}
use Rattle.event.proofs.EventListLaws.{Stand, event_takes, encode_events_append, all_stand, front_of, sound_split, one_stands}
use Rattle.event.proofs.EncodeLaws.{stands_inside}
use Rattle.event.proofs.ReadLaws.{sound_is_read, parts_are}
use Rattle.event.specs.declared.malformed.Malformed.{Malformed}
use Rattle.event.specs.declared.read.Event.{Event}
use Rattle.event.specs.declared.tag.YamlTag.{YamlTag}
use Rattle.provenance.specs.Escape.{escapes_reach}
use Rattle.provenance.specs.EscapeLaws.{style_fair}
use Rattle.provenance.specs.Grammar.{rules_of}
use Rattle.provenance.specs.Reading.{Reading, Piece, pieces_of}
use Rattle.provenance.specs.Start.{list_from}
use Rattle.provenance.specs.Layout.{flat, laid_by, piece_numbers, walked_number, answer_of, left_of, laid_pieces}
use Rattle.provenance.specs.Demand.{Demand3}
use Rattle.provenance.specs.Alike.{pieces_end}
use Rattle.provenance.proofs.DemandLaws.{listed_only, listed_if, demand3}
use Rattle.provenance.specs.declared.step.Step.{Step}
use Rattle.provenance.specs.declared.walk.Walked.{Walked}
use Rattle.provenance.specs.declared.walk.Walked.TheVariants.{Listed, NoRoom, NoList}
use Rattle.records.specs.Record.{absent, no_tag, no_list, piece_list, with_list, with_parent}
use Rattle.records.specs.Parent.{holder, or_absent, parented}
use Rattle.spans.specs.Scalar.{Mark, mark, start_at, scalar_at, walk_first, suffix_of, tag_info, resolved_by, span_measure, scalar_over, scalar_node, event_node}
use Rattle.spans.specs.Collection.{closes}
use Rattle.parser.specs.Machine.{State, empty, Next, go, stop, Outcome, built, refused, depth_limit, root_done, before_root, within_depth, within_room, completed, on_start, ended, on_end, on_alias, keeping}
use Rattle.parser.specs.Machine.{awaits_value, scalar_kept, on_scalar, on_read, follow, ending, run, run_all}
use Rattle.parser.proofs.RunLaws.{stop_not_go, run_stopped, run_enough, parents_built, parents_refused}
use Rattle.parser.specs.EventRun.{completed_by, reached, run_events, malformed, EventsAsList}
use Rattle.records.specs.Layout.{record_room, piece_room}
use Rattle.parser.specs.Call as call
use Rattle.parser.specs.Call.{record_of, admitted, with_parents, building, one_scalar, scalar_call}
use Rattle.parser.specs.Demand.{resolved_as, scalar_of, EntrySays, TagSays, walked_by, read_pieces, list_in, number_of, walked_in, ScalarDemand3, ScalarRecord, has_list, MeasuredPlain, Consecutive, ScalarListed, ListsBuilt, NoRoomAt, BuildDemand3}
use Rattle.records.specs.declared.record.Extent.{Extent}
use Rattle.records.specs.declared.record.TagInfo.{TagInfo}
use Rattle.records.specs.declared.record.Node.{Node}
use Rattle.records.specs.declared.record.PieceList.{PieceList}
use Rattle.spans.specs.declared.open.Collection.{Collection}
use Rattle.spans.specs.declared.open.Collection.TheVariants.{Sequence, Mapping}
use Rattle.spans.specs.declared.open.Open.{Open}
use Rattle.spans.proofs.SpanLaws.{no_start_outside, node_extent, node_measured, pieces_are, measured_list, measured_pieces_end}
use Rattle.parser.proofs.Pieces.{filled_none}
use Rattle.parser.proofs.EventRun.{go_is, stop_is, refused_not_built, in_order_lem, events_as_list, over_through, passing, StoppedAt, stopped_at}
use Rattle.parser.proofs.AwaitedLaws.{awaited_is}
use Rattle.parser.proofs.Growths.{gate, past_root, past_room, Grown, reached_grown, run_grown}

-- ---- the walk of a scalar starts where document 01 says

module _ (text : List ℕ) (awaited : Bool) (m : Mark) (value : List ℕ) where
  abbrev found : Option (List Piece)
  found = list_from (rules_of m.style m.column) text (walk_first text awaited m value) value

  pub walk_demand3 : (most : ℕ)
      → Demand3 (rules_of m.style m.column) escapes_reach text (walk_first text awaited m value) value most (answer_of most found) (left_of most found)
  walk_demand3 most = demand3 (rules_of m.style m.column) (style_fair m.style) text (walk_first text awaited m value) value most

  -- a record that differs from the machine's in its list only
  pub entry_says : AdmittedText text → (place : ℕ) (t : TagInfo) (r : Resolved) (x : Node) → with_list x absent 0 ≡ with_list (scalar_node text (scalar_at text awaited m value place) t r) absent 0
      → EntrySays text awaited m value r place t x
  unfolding scalar_over
  entry_says sound place t r x e =
      let s = scalar_at text awaited m value place in
      let span = ap (λ (y : Node). y.extent) e ∙ node_extent text s t r in
      record {
        kind = ap (λ (y : Node). y.kind) e;
        span = record { lies = span; on_boundary = rw span (no_start_outside text sound.utf8 awaited m value) };
        tag = ap (λ (y : Node). y.tag) e;
        subtree = ap (λ (y : Node). y.subtree) e;
        payload = ap (λ (y : Node). y.payload) e;
        measured = (
          (scalar_measure (drop (start_at text awaited m value) text) value m.style m.empty m.column).measured,
          ap (λ (y : Node). y.measured) e ∙ node_measured text s t r,
          scalar_says (drop (start_at text awaited m value) text) value m.style m.empty m.column,
        );
      }

-- ---- what a record's list finds in the buffer

read_numbers : (ps : List Piece) (rest : List ℕ) → read_pieces (length ps) (flat piece_numbers ps ++ rest) ≡ ps
unfolding read_pieces
read_numbers [] rest = refl
read_numbers (p ∷ ps) rest = ap (λ (l : List Piece). p ∷ l) (read_numbers ps rest)

numbers_append : (ps qs : List Piece) → flat piece_numbers (ps ++ qs) ≡ flat piece_numbers ps ++ flat piece_numbers qs
numbers_append [] qs = refl
numbers_append (p ∷ ps) qs = ap (λ (l : List ℕ). p.kind ∷ p.start ∷ p.end ∷ p.content ∷ l) (numbers_append ps qs)

numbers_length : (ps : List Piece) → length (flat piece_numbers ps) ≡ 4 * length ps
numbers_length [] = refl
numbers_length (p ∷ ps) = let i = numbers_length ps in omega arith

-- the pieces own, which come after the pieces before
list_found : (size : ℕ) (before own rest : List Piece) → list_in (laid_pieces size ((before ++ own) ++ rest)) (piece_list (length before) (length own)) ≡ own
unfolding laid_by
list_found size before own rest =
    let n : 4 * length before ≡ length (flat piece_numbers before) = sym (numbers_length before) in
    let tail : List ℕ = flat piece_numbers rest ++ replicate (size - 4 * length ((before ++ own) ++ rest)) 0 in
    let is : laid_pieces size ((before ++ own) ++ rest) ≡ flat piece_numbers before ++ (flat piece_numbers own ++ tail) =
    ap (λ (l : List ℕ). l ++ replicate (size - 4 * length ((before ++ own) ++ rest)) 0) (numbers_append (before ++ own) rest ∙ ap (λ (l : List ℕ). l ++ flat piece_numbers rest) (numbers_append before own))
    ∙ simp append_assoc in
    ap (λ (l : List ℕ). read_pieces (length own) (drop (4 * length before) l)) is
    ∙ ap (λ (k : ℕ). read_pieces (length own) (drop k (flat piece_numbers before ++ (flat piece_numbers own ++ tail)))) n
    ∙ ap (read_pieces (length own)) (drop-append_seam (flat piece_numbers before) (flat piece_numbers own ++ tail))
    ∙ read_numbers own tail

none_found : (b : List ℕ) (l : PieceList) → l.count ≡ 0 → list_in b l ≡ []
unfolding read_pieces
none_found b l e = ap (λ (n : ℕ). read_pieces n (drop (4 * l.first) b)) e

-- ---- what is kept of a scalar whose walk gives the list o, where `used` pieces are kept and at most `most` are let in

-- of the record and the pieces that are added
record Keeps (most : ℕ) (x : Node) (o : Option (List Piece)) (st : State) (st' : State) : Type 0 where
  node : Node
  nodes : st'.nodes ≡ st.nodes ++ (node ∷ [])
  same : with_list node absent 0 ≡ with_list x absent 0
  answer : walked_by node.list ≡ answer_of (most - length st.pieces) o
  pieces : st'.pieces ≡ st.pieces ++ left_of (most - length st.pieces) o
  finds : (size : ℕ) (rest : List Piece) → list_in (laid_pieces size ((st.pieces ++ left_of (most - length st.pieces) o) ++ rest)) node.list ≡ left_of (most - length st.pieces) o

module _ (most : ℕ) (small : most < absent) (x : Node) (un : x.list ≡ no_list) (st : State) where
  keeps_none : Keeps most x None st (completed x st)
  unfolding completed answer_of left_of
  keeps_none =
      record {
        node = x;
        nodes = refl;
        same = refl;
        answer = ap walked_by un;
        pieces = sym (append-nil st.pieces);
        finds = λ size rest. none_found _ x.list (ap (λ (l : PieceList). l.count) un);
      }

  keeps_some : (ps : List Piece) → length st.pieces + length ps ≤ most
      → Keeps most x (Some ps) st (completed (with_list x (length st.pieces) (length ps)) (record { nodes = st.nodes; opens = st.opens; pieces = st.pieces ++ ps }))
  unfolding completed answer_of left_of
  keeps_some ps fits =
      let le : leb (length ps) (most - length st.pieces) ≡ true = le-leb (length ps) (most - length st.pieces) (omega arith) in
      let ne : eqb (length st.pieces) absent ≡ false = ne_eqb (length st.pieces) absent (λ e. omega arith) in
      record {
        node = with_list x (length st.pieces) (length ps);
        nodes = refl;
        same = refl;
        answer = rw (ne, le) refl;
        pieces = rw le refl;
        finds = λ size rest. rw le (list_found size st.pieces ps rest);
      }

  keeps : (o : Option (List Piece)) (st' : State) → keeping most x o st ≡ go st' → Keeps most x o st st'
  unfolding keeping
  keeps None st' e = subst (λ (s : State). Keeps most x None st s) (go_is _ st' e) keeps_none
  keeps (Some ps) st' e =
      let w = gate (ltb most (length st.pieces + length ps)) 8 _ st' e in
      subst (λ (s : State). Keeps most x (Some ps) st s) (go_is _ st' w.1) (keeps_some ps (ltb-false most (length st.pieces + length ps) w.0))

-- ---- the call on one scalar

-- what a call comes to whose scalar has the record x, without a list, and whose walk gives the list o
abbrev kept_alone : ℕ → Node → Option (List Piece) → Outcome
kept_alone size x o = follow (keeping (piece_room size) x o empty) (λ (st : State). built st.nodes st.pieces) 0

record KeptAlone (size : ℕ) (o : Option (List Piece)) (out : Outcome) : Type 0 where
  number : number_of out ≡ walked_number (walked_in out)
  answer : walked_in out ≡ answer_of (piece_room size) o
  finds : list_in (call.pieces_after size out) (record_of out).list ≡ left_of (piece_room size) o
  all_numbers : call.pieces_after size out ≡ laid_pieces size (left_of (piece_room size) o)

module _ (size : ℕ) (x : Node) (un : x.list ≡ no_list) where
  alone_no_room : (ps : List Piece) → piece_room size < length ps → KeptAlone size (Some ps) (refused (walked_number NoRoom) 0)
  unfolding answer_of left_of read_pieces
  alone_no_room ps lt =
      let no_fit : leb (length ps) (piece_room size) ≡ false = lt-leb _ _ lt in
      record { number = refl; answer = rw no_fit refl; finds = rw no_fit refl; all_numbers = rw no_fit (sym (filled_none size)) }

  alone_listed : (ps : List Piece) → length ps ≤ piece_room size → KeptAlone size (Some ps) (built (with_list x 0 (length ps) ∷ []) ps)
  unfolding answer_of left_of
  alone_listed ps le =
      let fit : leb (length ps) (piece_room size) ≡ true = le-leb _ _ le in
      let same : ([] ++ ps) ++ [] ≡ ps = append-nil ps in
      record { number = refl; answer = rw fit refl; finds = rw fit (rw same at (list_found size [] ps [])); all_numbers = rw fit refl }

  alone : (o : Option (List Piece)) → KeptAlone size o (kept_alone size x o)
  unfolding keeping completed answer_of left_of
  alone None =
      record {
        number = ap (λ (l : PieceList). walked_number (walked_by l)) (sym un);
        answer = ap walked_by un;
        finds = none_found _ x.list (ap (λ (l : PieceList). l.count) un);
        all_numbers = refl;
      }
  alone (Some ps) =
      by_order (piece_room size) (length ps)
      (λ lt. let e : ltb (piece_room size) (0 + length ps) ≡ true = lt-ltb (piece_room size) (0 + length ps) (omega arith) in rw e (alone_no_room ps lt))
      (λ le. let e : ltb (piece_room size) (0 + length ps) ≡ false = le-ltb (piece_room size) (0 + length ps) (omega arith) in rw e (alone_listed ps le))

-- a record has a list just if its walk gave one, which its pieces are
record Answered (l : PieceList) (most : ℕ) (o : Option (List Piece)) : Type 0 where
  list : has_list l ≡ is_some o
  found : has_list l ≡ true → o ≡ Some (left_of most o)

-- what a walk answered, told apart
abbrev told : Walked → ℕ
told NoList = 0
told (Listed n) = 1
told NoRoom = 2

answered : (l : PieceList) (most : ℕ) (o : Option (List Piece)) → walked_by l ≡ answer_of most o → Answered l most o
unfolding answer_of left_of
answered l most None e = by (eqb l.first absent) refl e
  where
    by : (t : Bool) → eqb l.first absent ≡ t → cond t NoList (Listed l.count) ≡ NoList → Answered l most None
    by true f e = record { list = rw f refl; found = λ h. absurd (clash (sym h ∙ rw f refl)) }
    by false f e = absurd (let z : ◌≡◌ {A = ℕ} 1 0 = ap told e in omega arith)
answered l most (Some ps) e = by (eqb l.first absent) refl (leb (length ps) most) refl e
  where
    by : (t : Bool) → eqb l.first absent ≡ t → (b : Bool) → leb (length ps) most ≡ b → cond t NoList (Listed l.count) ≡ cond b (Listed (length ps)) NoRoom
        → Answered l most (Some ps)
    by true f true g e = absurd (let z : ◌≡◌ {A = ℕ} 0 1 = ap told e in omega arith)
    by true f false g e = absurd (let z : ◌≡◌ {A = ℕ} 0 2 = ap told e in omega arith)
    by false f true g e = record { list = rw f refl; found = λ h. rw g refl }
    by false f false g e = absurd (let z : ◌≡◌ {A = ℕ} 1 2 = ap told e in omega arith)

truth_one : (t : Bool) → truth t ≡ 1 → t ≡ true
truth_one true e = refl
truth_one false e = absurd (omega arith)

both_admitted : (text value : List ℕ) → AdmittedText text → AdmittedText value → admission_of_both text value ≡ Ok (is_ascii text)
unfolding admission_of_both
both_admitted text value s v =
    rw (le-ltb text_limit (length text) s.within, le-ltb text_limit (length value) v.within, utf8_complete s.utf8, utf8_complete v.utf8) refl

module _ (text : List ℕ) (sound : AdmittedText text) (m : Mark) (value : List ℕ) (value_sound : AdmittedText value) (known : m.style ≤ folded) (size : ℕ) where
  abbrev alone_node : Node
  alone_node = scalar_node text (scalar_at text false m value 0) no_tag (resolve_scalar value m.style None)

  scalar_is : scalar_call text m value size ≡ kept_alone size alone_node (found text false m value)
  unfolding scalar_call one_scalar scalar_kept event_node tag_info resolved_by
  scalar_is =
      rw (both_admitted text value sound value_sound, le-ltb folded m.style known)
      (ap (kept_alone size alone_node) (pieces_are text false m value 0))

  alone_no_list : alone_node.list ≡ no_list
  unfolding scalar_over
  alone_no_list = refl

  -- rows 1, 2 and 3 let the call pass: demand 3 of its answer, its record and every number of its buffer
  pub scalar_demand3 : ScalarDemand3 text m value size (scalar_call text m value size)
  scalar_demand3 =
      subst (λ (out : Outcome). ScalarDemand3 text m value size out) (sym scalar_is) (of_kept (alone size alone_node alone_no_list _))
    where
      of_kept : {out : Outcome} → KeptAlone size (found text false m value) out → ScalarDemand3 text m value size out
      of_kept {out} k =
          record {
            number = k.number;
            demand3 =
                subst (λ (w : Walked). Demand3 (rules_of m.style m.column) escapes_reach text (walk_first text false m value) value (piece_room size) w (list_in (call.pieces_after size out) (record_of out).list)) (sym k.answer)
                (subst (λ (l : List Piece). Demand3 (rules_of m.style m.column) escapes_reach text (walk_first text false m value) value (piece_room size) (answer_of (piece_room size) (found text false m value)) l) (sym k.finds)
                (walk_demand3 text false m value (piece_room size)));
            all_numbers = k.all_numbers ∙ ap (laid_pieces size) (sym k.finds);
          }

  alone_same : (o : Option (List Piece)) (xs : List Node) (ps : List Piece) → kept_alone size alone_node o ≡ built xs ps → with_list (record_of (kept_alone size alone_node o)) absent 0 ≡ with_list alone_node absent 0
  unfolding keeping completed
  alone_same None xs ps e = refl
  alone_same (Some qs) xs ps e = by (ltb (piece_room size) (0 + length qs)) e
    where
      by : (t : Bool) → follow (cond t (stop 8) (go (completed (with_list alone_node 0 (length qs)) (record { nodes = []; opens = []; pieces = qs })))) (λ (st : State). built st.nodes st.pieces) 0 ≡ built xs ps
          → with_list (record_of (follow (cond t (stop 8) (go (completed (with_list alone_node 0 (length qs)) (record { nodes = []; opens = []; pieces = qs })))) (λ (st : State). built st.nodes st.pieces) 0)) absent 0 ≡ with_list alone_node absent 0
      by true f = absurd (refused_not_built 8 0 xs ps f)
      by false f = refl

  record_is : (xs : List Node) (ps : List Piece) → scalar_call text m value size ≡ built xs ps → with_list (record_of (scalar_call text m value size)) absent 0 ≡ with_list alone_node absent 0
  record_is xs ps e = ap (λ (o : Outcome). with_list (record_of o) absent 0) scalar_is ∙ alone_same _ xs ps (sym scalar_is ∙ e)

  -- and its record, or zeros
  pub scalar_record : ScalarRecord text m value (scalar_call text m value size)
  unfolding scalar_over
  scalar_record =
      record {
        entry = λ xs ps e. entry_says text false m value sound 0 no_tag (resolve_scalar value m.style None) _ (record_is xs ps e);
        parent = λ xs ps e. ap (λ (y : Node). y.parent) (record_is xs ps e);
        zero = λ number place e. ap record_of e;
      }

  kept_alone_lem : KeptAlone size (found text false m value) (scalar_call text m value size)
  kept_alone_lem = subst (λ (out : Outcome). KeptAlone size (found text false m value) out) (sym scalar_is) (alone size alone_node alone_no_list _)

  -- what the flag says of a plain scalar's list
  pub measured_plain : m.style ≡ plain → (xs : List Node) (ps : List Piece) → scalar_call text m value size ≡ built xs ps → (record_of (scalar_call text m value size)).measured ≡ 1
      → MeasuredPlain text m value size (scalar_call text m value size)
  unfolding scalar_over
  measured_plain is_plain xs ps e one =
      let x = scalar_at text false m value 0 in
      let flag : (span_measure text x).measured ≡ true = truth_one (span_measure text x).measured (sym (ap (λ (y : Node). y.measured) (record_is xs ps e)) ∙ one) in
      let on = no_start_outside text sound.utf8 false m value in
      let are = pieces_are text false m value 0 in
      let walked : walked_by (record_of (scalar_call text m value size)).list ≡ answer_of (piece_room size) (found text false m value) =
      rw e (rw e at kept_alone_lem.answer) in
      let a = answered (record_of (scalar_call text m value size)).list (piece_room size) (found text false m value) walked in
      let ends = ap (λ (k : Extent). k.end) (scalar_record.entry xs ps e).span.lies in
      record {
        list = a.list ∙ ap is_some (sym are) ∙ measured_list text sound.utf8 x on flag value_sound.utf8 is_plain;
        end = λ h.
            ap (pieces_end (start_at text false m value)) kept_alone_lem.finds
            ∙ measured_pieces_end text sound.utf8 x on flag value_sound.utf8 is_plain _ (are ∙ a.found h)
            ∙ (omega arith);
      }

-- ---- nodes with their parents

-- the nodes from number k on
drop-parented : (k n : ℕ) (xs : List Node) → drop k (parented n xs) ≡ parented (n + k) (drop k xs)
unfolding parented
drop-parented zero n xs = let e : n + 0 ≡ n = omega arith in rw e
drop-parented (suc k) n [] = refl
drop-parented (suc k) n (x ∷ xs) = let e : n + 1 + k ≡ n + suc k = omega arith in drop-parented k (n + 1) xs ∙ ap (λ (m : ℕ). parented m (drop k xs)) e

consecutive_parented : (n a e : ℕ) (xs : List Node) → Consecutive a xs e → Consecutive a (parented n xs) e
unfolding parented Consecutive
consecutive_parented n a e [] c = c
consecutive_parented n a e (x ∷ xs) (inl c) = inl (c.0, consecutive_parented (n + 1) a e xs c.1)
consecutive_parented n a e (x ∷ xs) (inr c) = inr (c.0, c.1, consecutive_parented (n + 1) (a + x.list.count) e xs c.2)

-- a parent changes nothing of what a scalar's record says
listed_parented : (text events : List ℕ) (room most : ℕ) (before : List YamlEvent) (m : Mark) (tag : Tag) (value : List ℕ) (xs : List Node) (p : List ℕ)
    → ScalarListed text events room most before m tag value xs p → ScalarListed text events room most before m tag value (parented 0 xs) p
unfolding parented
listed_parented text events room most before m tag value xs p l =
    let n = 0 + completed_by before in
    let x = l.entry in
    record {
      st = l.st;
      let_through = l.let_through;
      node = with_parent l.node (or_absent (holder (n + 1) 1 l.later));
      later = parented (n + 1) l.later;
      place = drop-parented (completed_by before) 0 xs ∙ ap (parented n) l.place;
      value_place_is = l.value_place_is;
      value_there = l.value_there;
      tag_info_is = l.tag_info_is;
      tag_there = l.tag_there;
      entry = record { kind = x.kind; span = x.span; tag = x.tag; subtree = x.subtree; payload = x.payload; measured = x.measured };
      demand3 = l.demand3;
    }

-- ---- a document: the calls' first rows

module _ (text events : List ℕ) (size pieces_size : ℕ) where
  abbrev all : Outcome
  all = run_all text events (record_room size) (piece_room pieces_size)

  -- a document that rows 1 and 2 let pass
  pub record Passed (o : Outcome) : Type 0 where
    pub events_short : length events ≤ events_limit
    pub text_sound : AdmittedText text
    pub runs : with_parents all ≡ o

  admitted_or : (o : Outcome) → building text events size pieces_size ≡ o → (o ≡ refused 1 0) ⊎ (o ≡ refused 2 0) ⊎ Passed o
  unfolding building
  admitted_or o e = by (ltb events_limit (length events)) refl (admission text) refl e
    where
      by : (t : Bool) → ltb events_limit (length events) ≡ t → (a : Result Bool TextError) → admission text ≡ a
          → cond t (refused 1 0) (admitted a (with_parents all)) ≡ o → (o ≡ refused 1 0) ⊎ (o ≡ refused 2 0) ⊎ Passed o
      by true l a ad f = inl (sym f)
      by false l (Err TooLong) ad f = inl (sym f)
      by false l (Err NotUtf8) ad f = inr (inl (sym f))
      by false l (Ok x) ad f = inr (inr (record { events_short = ltb-false events_limit (length events) l; text_sound = admitted_text text x ad; runs = f }))

  building_runs : length events ≤ events_limit → AdmittedText text → building text events size pieces_size ≡ with_parents all
  unfolding building admission
  building_runs l s = rw (le-ltb events_limit (length events) l, le-ltb text_limit (length text) s.within, utf8_complete s.utf8) refl

-- ---- a scalar event of a document

room_small : (size : ℕ) → piece_room size < absent
room_small size = omega arith

-- a gate that is passed on the way to another number
gate_stop : (t : Bool) (m k : ℕ) (n : Next) → (m ≡ k → ⊥) → cond t (stop m) n ≡ stop k → (t ≡ false) × (n ≡ stop k)
gate_stop true m k n ne e = absurd (ne (stop_is m k e))
gate_stop false m k n ne e = (refl, e)

start_no_8 : (text : List ℕ) (collection : Collection) (index : ℕ) (tag : Option YamlTag) (st : State) → on_start text collection index tag st ≡ stop 8 → ⊥
unfolding on_start before_root within_depth
start_no_8 text collection index tag st h =
    let a = gate_stop (root_done st) 5 8 _ (λ z. omega arith) h in
    let b = gate_stop (leb depth_limit (length st.opens)) 6 8 _ (λ z. omega arith) a.1 in
    stop_not_go 8 _ (sym b.1)

end_no_8 : (text : List ℕ) (room : ℕ) (collection : Collection) (index : ℕ) (os : List Open) (st : State) → on_end text room collection index os st ≡ stop 8 → ⊥
unfolding ended within_room
end_no_8 text room collection index [] st h = let z : ◌≡◌ {A = ℕ} 4 8 = stop_is 4 8 h in omega arith
end_no_8 text room collection index (o ∷ os) st h = by (closes collection o) h
  where
    within : ended text room index o os st ≡ stop 8 → ⊥
    within f = let b = gate_stop (leb room (length st.nodes)) 7 8 _ (λ z. omega arith) f in stop_not_go 8 _ (sym b.1)

    by : (t : Bool) → cond t (ended text room index o os st) (stop 4) ≡ stop 8 → ⊥
    by true f = within f
    by false f = let z : ◌≡◌ {A = ℕ} 4 8 = stop_is 4 8 f in omega arith

alias_no_8 : (text : List ℕ) (room index : ℕ) (st : State) → on_alias text room index st ≡ stop 8 → ⊥
unfolding on_alias before_root within_room
alias_no_8 text room index st h =
    let a = gate_stop (root_done st) 5 8 _ (λ z. omega arith) h in
    let b = gate_stop (leb room (length st.nodes)) 7 8 _ (λ z. omega arith) a.1 in
    stop_not_go 8 _ (sym b.1)

-- where a tag stands in the body of a start and of a scalar, and a value, whose event stands at i: past the tag byte and the body's length,
-- the marker index, and a scalar's column, style and flag
abbrev start_tag_place : ℕ → ℕ
start_tag_place i = i + 3 + 4

abbrev tag_place : ℕ → ℕ
tag_place i = start_tag_place i + 6

abbrev value_place : ℕ → Tag → ℕ
value_place i tag = tag_place i + length (encode_tag tag)

-- what a reader makes of a scalar's mark, its style by its number, is that mark
abbrev as_read : Mark → Mark
as_read m = mark m.index m.column (style_number (style_of m.style)) m.empty

mark_read : (events : List ℕ) (i : ℕ) (m : Mark) (tag : Tag) (value : List ℕ) → StandsAt events i (scalar_of m tag value) → as_read m ≡ m
mark_read events i m tag value p = ap (λ (y : ℕ). mark m.index m.column y m.empty) (known_back m.style p.sound.rest.style_known)

-- the value that a reader finds in the event bytes is the event's
value_found : (events : List ℕ) (i : ℕ) (m : Mark) (tag : Tag) (value : List ℕ) → StandsAt events i (scalar_of m tag value)
    → part_of events (part (value_place i tag) (length value)) ≡ value
unfolding placed said
value_found events i m tag value p =
    let e : ◌≡◌ {A = Option YamlEvent} (Some (scalar_of (as_read m) (said_tag events (placed_tag (tag_place i) tag)) (part_of events (part (value_place i tag) (length value)))))
    (Some (scalar_of m tag value)) = parts_are events i (scalar_of m tag value) p in
    cc

tag_found : (events : List ℕ) (i : ℕ) (m : Mark) (tag : Tag) (value : List ℕ) → StandsAt events i (scalar_of m tag value)
    → said_tag events (placed_tag (tag_place i) tag) ≡ tag
unfolding placed said
tag_found events i m tag value p =
    let e : ◌≡◌ {A = Option YamlEvent} (Some (scalar_of (as_read m) (said_tag events (placed_tag (tag_place i) tag)) (part_of events (part (value_place i tag) (length value)))))
    (Some (scalar_of m tag value)) = parts_are events i (scalar_of m tag value) p in
    cc

-- a scalar is what its event's handle and suffix make of it
resolved_found : (events : List ℕ) (j : ℕ) (tag : Tag) (value : List ℕ) (style : ℕ) → said_tag events (placed_tag j tag) ≡ tag → resolved_by events value style (placed_tag j tag) ≡ resolved_as tag value style
unfolding resolved_by
resolved_found events j untagged value style e = refl
resolved_found events j (tagged h x) value style e =
    let eh : part_of events (part (j + 1 + 2) (length h)) ≡ h = cc in
    let ex : part_of events (part (j + 1 + 2 + length h + 2) (length x)) ≡ x = cc in
    rw (eh, ex) refl

tag_says : (text events : List ℕ) (start j : ℕ) (tag : Tag) → said_tag events (placed_tag j tag) ≡ tag → TagSays text events start tag (tag_info text start (suffix_of (placed_tag j tag)))
unfolding tag_info
tag_says text events start j untagged e = refl
tag_says text events start j (tagged h x) e =
    let ex : part_of events (part (j + 1 + 2 + length h + 2) (length x)) ≡ x = cc in
    (j + 1 + 2 + length h + 2, ex, refl)

module _ (text events : List ℕ) (sound : AdmittedText text) (room most : ℕ) (small : most < absent)
    (i : ℕ) (m : Mark) (tag : Tag) (value : List ℕ) (stands : StandsAt events i (scalar_of m tag value)) (st : State) where
  abbrev awaited : Bool
  awaited = awaits_value st.opens

  abbrev value_at : ℕ
  value_at = value_place i tag

  abbrev tag_at : Option YamlTag
  tag_at = placed_tag (tag_place i) tag

  -- its record without a list
  abbrev node_here : Node
  node_here =
      scalar_node text (scalar_at text awaited m value value_at)
      (tag_info text (start_at text awaited m value) (suffix_of tag_at)) (resolved_by events value m.style tag_at)

  no_list_yet : node_here.list ≡ no_list
  unfolding scalar_over
  no_list_yet = refl

  abbrev found_here : Option (List Piece)
  found_here = found text awaited m value

  kept_is : scalar_kept text events most (scalar_at text awaited (as_read m) (part_of events (part value_at (length value))) value_at) tag_at st ≡ keeping most node_here found_here st
  unfolding scalar_kept event_node
  kept_is =
      ap₂ (λ (n : Mark) (v : List ℕ). scalar_kept text events most (scalar_at text awaited n v value_at) tag_at st) (mark_read events i m tag value stands) (value_found events i m tag value stands)
      ∙ ap (λ (o : Option (List Piece)). keeping most node_here o st) (pieces_are text awaited m value value_at)

  abbrev step_here : Next
  step_here = on_read text events room most (Ok (placed i (scalar_of m tag value))) st

  -- it leads on: what is kept
  leads : (st' : State) → step_here ≡ go st' → Keeps most node_here found_here st st'
  unfolding placed on_scalar
  leads st' e =
      keeps most small node_here no_list_yet st found_here st' (sym kept_is ∙ (past_room room st _ st' (past_root st _ st' e).1).1)

  entry_here : (x : Node) → with_list x absent 0 ≡ with_list node_here absent 0
      → EntrySays text awaited m value (resolved_as tag value m.style) value_at (tag_info text (start_at text awaited m value) (suffix_of tag_at)) x
  entry_here x e =
      subst (λ (r : Resolved). EntrySays text awaited m value r value_at (tag_info text (start_at text awaited m value) (suffix_of tag_at)) x)
      (resolved_found events (tag_place i) tag value m.style (tag_found events i m tag value stands))
      (entry_says text awaited m value sound value_at _ _ x e)

  tag_here : TagSays text events (start_at text awaited m value) tag (tag_info text (start_at text awaited m value) (suffix_of tag_at))
  tag_here = tag_says text events (start_at text awaited m value) (tag_place i) tag (tag_found events i m tag value stands)

  -- row 8 refuses it
  pub record TooMany : Type 0 where
    pub before_root_lem : root_done st ≡ false
    pub record_room_is : length st.nodes < room
    pub can_start : Boundary text (walk_first text awaited m value)
    pub steps : List Step
    pub reading : Reading (rules_of m.style m.column) (drop (walk_first text awaited m value) text) value steps
    pub too_many : most < length st.pieces + length (pieces_of (walk_first text awaited m value) steps)

  too_many_only : step_here ≡ stop (walked_number NoRoom) → TooMany
  unfolding placed on_scalar before_root within_room keeping
  too_many_only e =
      let a = gate_stop (root_done st) 5 8 _ (λ z. omega arith) e in
      let b = gate_stop (leb room (length st.nodes)) 7 8 _ (λ z. omega arith) a.1 in
      listed_only (rules_of m.style m.column) (style_fair m.style) text (walk_first text awaited m value) value
      (λ none_here. absurd (no_list_goes_on (sym (ap (λ (o : Option (List Piece)). keeping most node_here o st) none_here) ∙ sym kept_is ∙ b.1)))
      (λ can ts reads is.
      let over : most < length st.pieces + length (pieces_of (walk_first text awaited m value) ts) =
      no_fit (pieces_of (walk_first text awaited m value) ts) (sym (ap (λ (o : Option (List Piece)). keeping most node_here o st) is) ∙ sym kept_is ∙ b.1) in
      record { before_root_lem = a.0; record_room_is = leb-false room (length st.nodes) b.0; can_start = can; steps = ts; reading = reads; too_many = over })
    where
      no_list_goes_on : keeping most node_here None st ≡ stop 8 → ⊥
      no_list_goes_on f = stop_not_go 8 _ (sym f)

      no_fit : (ps : List Piece) → keeping most node_here (Some ps) st ≡ stop 8 → most < length st.pieces + length ps
      no_fit ps f = by (ltb most (length st.pieces + length ps)) refl f
        where
          by : (t : Bool) → ltb most (length st.pieces + length ps) ≡ t → cond t (stop 8) (go (completed (with_list node_here (length st.pieces) (length ps)) (record { nodes = st.nodes; opens = st.opens; pieces = st.pieces ++ ps }))) ≡ stop 8
              → most < length st.pieces + length ps
          by true is g = ltb-true most (length st.pieces + length ps) is
          by false is g = absurd (stop_not_go 8 _ (sym g))

  too_many_if : TooMany → step_here ≡ stop (walked_number NoRoom)
  unfolding placed on_scalar before_root within_room keeping
  too_many_if t =
      let is : found_here ≡ Some (pieces_of (walk_first text awaited m value) t.steps) =
      listed_if (rules_of m.style m.column) (style_fair m.style) text (walk_first text awaited m value) value t.can_start t.steps t.reading in
      let r : leb room (length st.nodes) ≡ false = lt-leb room (length st.nodes) t.record_room_is in
      let over = lt-ltb most (length st.pieces + length (pieces_of (walk_first text awaited m value) t.steps)) t.too_many in
      rw (t.before_root_lem, r) (kept_is ∙ ap (λ (o : Option (List Piece)). keeping most node_here o st) is ∙ rw over refl)

-- only a scalar is refused by row 8
other_number : (text events : List ℕ) (room most i : ℕ) (e : YamlEvent) (st : State) → on_read text events room most (Ok (placed i e)) st ≡ stop 8
    → (m : Mark) × (tag : Tag) × (value : List ℕ) × (e ≡ scalar_of m tag value)
unfolding placed on_start ended on_alias before_root within_depth within_room
other_number text events room most i (sequence_start m t) st h = absurd (start_no_8 text Sequence m (placed_tag (start_tag_place i) t) st h)
other_number text events room most i (sequence_end m) st h = absurd (end_no_8 text room Sequence m st.opens st h)
other_number text events room most i (mapping_start m t) st h = absurd (start_no_8 text Mapping m (placed_tag (start_tag_place i) t) st h)
other_number text events room most i (mapping_end m) st h = absurd (end_no_8 text room Mapping m st.opens st h)
other_number text events room most i (scalar m c y f t v) st h = (mark m c y f, t, v, refl)
other_number text events room most i (alias m) st h = absurd (alias_no_8 text room m st h)

-- ---- a document that is built

drop_front : (before : List Node) (x : Node) (own xs : List Node) → xs ≡ (before ++ (x ∷ [])) ++ own → drop (length before) xs ≡ x ∷ own
drop_front before x own xs e = ap (drop (length before)) (e ∙ append_assoc before (x ∷ []) own) ∙ drop-append_seam before (x ∷ own)

module _ (text events : List ℕ) (size pieces_size : ℕ) where
  abbrev records_in : ℕ
  records_in = record_room size

  abbrev most : ℕ
  most = piece_room pieces_size

  module _ (sound : AdmittedText text) (es : List YamlEvent) (ok : AllSound es) (bytes : events ≡ encode_events es) (xs : List Node) (ps : List Piece)
      (runs : run_events text events records_in most ending 0 0 es empty ≡ built xs ps) where
    listed : (before : List YamlEvent) (m : Mark) (tag : Tag) (value : List ℕ) (here next : State) (more : ℕ)
        → reached text events records_in most 0 before empty ≡ go here → (stands : StandsAt events (length (encode_events before)) (scalar_of m tag value))
        → Keeps most (node_here text events sound records_in most (room_small pieces_size) (length (encode_events before)) m tag value stands here)
        (found text (awaits_value here.opens) m value) here next → Grown most more next (record { nodes = xs; opens = []; pieces = ps })
        → ScalarListed text events records_in most before m tag value xs (laid_pieces pieces_size ps)
    listed before m tag value here next more to_here stands k g =
        let o : Option (List Piece) = found text (awaits_value here.opens) m value in
        let room : ℕ = most - length here.pieces in
        let left : List Piece = left_of room o in
        let i : ℕ = length (encode_events before) in
        let all_pieces : ps ≡ (here.pieces ++ left) ++ g.left = g.pieces ∙ ap (λ (l : List Piece). l ++ g.left) k.pieces in
        let finds : list_in (laid_pieces pieces_size ps) k.node.list ≡ left = ap (λ (l : List Piece). list_in (laid_pieces pieces_size l) k.node.list) all_pieces ∙ k.finds pieces_size g.left in
        let first : ℕ = walk_first text (awaits_value here.opens) m value in
        let tag_numbers : TagInfo = tag_info text (start_at text (awaits_value here.opens) m value) (suffix_of (placed_tag (tag_place i) tag)) in
        let so_far = reached_grown text events records_in most (room_small pieces_size) 0 before empty here to_here in
        let awaited_is_here = awaited_is text events records_in most before here to_here in
        let number : completed_by before ≡ length here.nodes = sym so_far.count ∙ sym (ap length so_far.nodes) in
        record {
          st = here;
          let_through = to_here;
          node = k.node;
          later = g.own;
          place =
              ap (λ (n : ℕ). drop n xs) number
              ∙ drop_front here.nodes k.node g.own xs (g.nodes ∙ ap (λ (l : List Node). l ++ g.own) k.nodes);
          value_place_is = value_place i tag;
          value_there = value_found events i m tag value stands;
          tag_info_is = tag_numbers;
          tag_there =
              subst (λ (a : Bool). TagSays text events (start_at text a m value) tag tag_numbers) awaited_is_here
              (tag_here text events sound records_in most (room_small pieces_size) i m tag value stands here);
          entry =
              subst (λ (a : Bool). EntrySays text a m value (resolved_as tag value m.style) (value_place i tag) tag_numbers k.node) awaited_is_here
              (entry_here text events sound records_in most (room_small pieces_size) i m tag value stands here k.node k.same);
          demand3 =
              subst
              (λ (a : Bool). Demand3 (rules_of m.style m.column) escapes_reach text (walk_first text a m value) value room (walked_by k.node.list) (list_in (laid_pieces pieces_size ps) k.node.list))
              awaited_is_here
              (subst (λ (w : Walked). Demand3 (rules_of m.style m.column) escapes_reach text first value room w (list_in (laid_pieces pieces_size ps) k.node.list)) (sym k.answer)
              (subst (λ (l : List Piece). Demand3 (rules_of m.style m.column) escapes_reach text first value room (answer_of room o) l) (sym finds)
              (walk_demand3 text (awaits_value here.opens) m value room)));
        }

    each_scalar : (before after : List YamlEvent) (m : Mark) (tag : Tag) (value : List ℕ)
        → es ≡ before ++ (scalar_of m tag value ∷ after)
        → ScalarListed text events records_in most before m tag value xs (laid_pieces pieces_size ps)
    each_scalar before after m tag value split =
        let e : YamlEvent = scalar_of m tag value in
        let p = passing text events records_in most ending 0 0 before e after empty xs ps (ap (λ (l : List YamlEvent). run_events text events records_in most ending 0 0 l empty) (sym split) ∙ runs) in
        let ok' : AllSound (before ++ (e ∷ after)) = subst AllSound split ok in
        let z : 0 + length (encode_events before) ≡ length (encode_events before) = omega arith in
        let stands : StandsAt events (length (encode_events before)) e = one_stands events before e after [] ok' (bytes ∙ ap encode_events split ∙ sym (append-nil (encode_events (before ++ (e ∷ after))))) in
        let on : on_read text events records_in most (Ok (placed (length (encode_events before)) e)) p.here ≡ go p.next =
        ap (λ (j : ℕ). on_read text events records_in most (Ok (placed j e)) p.here) (sym z) ∙ p.on in
        let k = leads text events sound records_in most (room_small pieces_size) (length (encode_events before)) m tag value stands p.here p.next on in
        let g = run_grown text events records_in most (room_small pieces_size) p.place p.number after p.next xs ps p.rest in
        listed before m tag value p.here p.next (completed_by after) p.to_here stands k g

    lists_all : Consecutive 0 xs (length ps)
    lists_all =
        let g = run_grown text events records_in most (room_small pieces_size) 0 0 es empty xs ps runs in
        let l : length ps ≡ length g.left = ap length g.pieces in
        let e : length ps ≡ 0 + length g.left = omega arith in
        subst (λ (n : ℕ). Consecutive 0 xs n) (sym e) (subst (λ (l : List Node). Consecutive 0 l (0 + length g.left)) (sym g.nodes) g.lists)

  -- no row 3 gives a document
  never_built : (i k : ℕ) (es : List YamlEvent) (st : State) (xs : List Node) (ps : List Piece) → run_events text events records_in most malformed i k es st ≡ built xs ps → ⊥
  unfolding run_events
  never_built i k [] st xs ps e = refused_not_built 3 k xs ps e
  never_built i k (x ∷ es) st xs ps e = by (on_read text events records_in most (Ok (placed i x)) st) e (λ s f. never_built (i + length (encode_event x)) (k + 1) es s xs ps f)
    where
      by : (n : Next) → follow n (λ (s : State). run_events text events records_in most malformed (i + length (encode_event x)) (k + 1) es s) k ≡ built xs ps
          → ((s : State) → run_events text events records_in most malformed (i + length (encode_event x)) (k + 1) es s ≡ built xs ps → ⊥) → ⊥
      by (stop m) f more = refused_not_built m k xs ps f
      by (go s) f more = more s f

  module _ (bytes : Bytes events) where
    abbrev front : Front events
    front = front_of events bytes

    abbrev as_list : EventsAsList text events records_in most front.events front.rest
    as_list = events_as_list text events records_in most bytes front.events front.rest front.sound front.bytes

    lists_built : (xs : List Node) (ps : List Piece) → Passed text events size pieces_size (built xs ps) → ListsBuilt text events size pieces_size xs ps
    lists_built xs ps p = by front.ends (parents_built (all text events size pieces_size) xs ps p.runs)
      where
        by : (front.rest ≡ []) ⊎ ((0 < length front.rest) × ((e : YamlEvent) → StandsAt events (length (encode_events front.events)) e → ⊥))
            → (ys : List Node) × (all text events size pieces_size ≡ built ys ps) × (parented 0 ys ≡ xs) → ListsBuilt text events size pieces_size xs ps
        by (inl none_left) (ys, all-is, are) =
            let runs : run_events text events records_in most ending 0 0 front.events empty ≡ built ys ps = sym (as_list.whole none_left) ∙ all-is in
            let is : events ≡ encode_events front.events = front.bytes ∙ ap (λ (l : List ℕ). encode_events front.events ++ l) none_left ∙ append-nil (encode_events front.events) in
            record {
              list = front.events;
              sound = front.sound;
              bytes = is;
              each = λ before after m tag value split.
                  subst (λ (l : List Node). ScalarListed text events records_in most before m tag value l (laid_pieces pieces_size ps)) are
                  (listed_parented text events records_in most before m tag value ys (laid_pieces pieces_size ps)
                  (each_scalar p.text_sound front.events front.sound is ys ps runs before after m tag value split));
              all_pieces =
                  subst (λ (l : List Node). Consecutive 0 l (length ps)) are
                  (consecutive_parented 0 0 (length ps) ys (lists_all p.text_sound front.events front.sound is ys ps runs));
            }
        by (inr faulty) (ys, all-is, are) = absurd (never_built 0 0 front.events empty ys ps (sym (as_list.faulty faulty.0 faulty.1) ∙ all-is))

    -- ---- row 8

    ending_no_8 : (k n : ℕ) (st : State) → ending k st ≡ refused 8 n → ⊥
    unfolding ending
    ending_no_8 k n st e = by (root_done st) e
      where
        by : (t : Bool) → cond t (built st.nodes st.pieces) (refused 9 k) ≡ refused 8 n → ⊥
        by true f = refused_not_built 8 n _ _ (sym f)
        by false f = let z : ◌≡◌ {A = ℕ} 9 8 = cc in omega arith

    malformed_no_8 : (k n : ℕ) (st : State) → malformed k st ≡ refused 8 n → ⊥
    malformed_no_8 k n st e = let z : ◌≡◌ {A = ℕ} 3 8 = cc in omega arith

    no_room_here : (k : ℕ) → Passed text events size pieces_size (refused 8 k) → StoppedAt text events records_in most 0 0 front.events empty 8 k → NoRoomAt text events size pieces_size k
    no_room_here k p s = by s.event refl (other_number text events records_in most (0 + length (encode_events s.before)) s.event s.here s.stops)
      where
        by : (e : YamlEvent) → e ≡ s.event
            → (m : Mark) × (tag : Tag) × (value : List ℕ) × (s.event ≡ scalar_of m tag value) → NoRoomAt text events size pieces_size k
        by e same (m, tag, value, is) =
            let x : YamlEvent = scalar_of m tag value in
            let split : front.events ≡ s.before ++ (x ∷ s.after) = s.split ∙ ap (λ (y : YamlEvent). s.before ++ (y ∷ s.after)) is in
            let ok : AllSound (s.before ++ (x ∷ s.after)) = subst AllSound split front.sound in
            let whole : events ≡ encode_events (s.before ++ (x ∷ s.after)) ++ front.rest = front.bytes ∙ ap (λ (l : List YamlEvent). encode_events l ++ front.rest) split in
            let stands : StandsAt events (length (encode_events s.before)) x = one_stands events s.before x s.after front.rest ok whole in
            let z : 0 + length (encode_events s.before) ≡ length (encode_events s.before) = omega arith in
            let stops : on_read text events records_in most (Ok (placed (length (encode_events s.before)) x)) s.here ≡ stop 8 =
            ap (λ (j : ℕ). on_read text events records_in most (Ok (placed j x)) s.here) (sym z) ∙ ap (λ (y : YamlEvent). on_read text events records_in most (Ok (placed (0 + length (encode_events s.before)) y)) s.here) (sym is) ∙ s.stops in
            let t = too_many_only text events p.text_sound records_in most (room_small pieces_size) (length (encode_events s.before)) m tag value stands s.here stops in
            let num = s.number in
            record {
              text_sound = p.text_sound;
              events_short = p.events_short;
              before = s.before;
              sound = (sound_split s.before x s.after ok).0;
              rest = encode_events (x ∷ s.after) ++ front.rest;
              bytes = whole ∙ ap (λ (l : List ℕ). l ++ front.rest) (encode_events_append s.before (x ∷ s.after)) ∙ append_assoc (encode_events s.before) (encode_events (x ∷ s.after)) front.rest;
              number = omega arith;
              st = s.here;
              let_through = s.to_here;
              mark = m;
              tag = tag;
              value = value;
              stands = stands;
              before_root_lem = t.before_root_lem;
              record_room_is = t.record_room_is;
              first = walk_first text (awaits_value s.here.opens) m value;
              first_is = ap (λ (a : Bool). walk_first text a m value) (awaited_is text events records_in most s.before s.here s.to_here);
              can_start = t.can_start;
              steps = t.steps;
              reading = t.reading;
              too_many = t.too_many;
            }

    no_room_found : (k : ℕ) → Passed text events size pieces_size (refused 8 k) → NoRoomAt text events size pieces_size k
    no_room_found k p = by front.ends
      where
        by : (front.rest ≡ []) ⊎ ((0 < length front.rest) × ((e : YamlEvent) → StandsAt events (length (encode_events front.events)) e → ⊥)) → NoRoomAt text events size pieces_size k
        by (inl none_left) = no_room_here k p (stopped_at text events records_in most ending 8 ending_no_8 0 0 front.events empty k (sym (as_list.whole none_left) ∙ parents_refused (all text events size pieces_size) 8 k p.runs))
        by (inr faulty) = no_room_here k p (stopped_at text events records_in most malformed 8 malformed_no_8 0 0 front.events empty k (sym (as_list.faulty faulty.0 faulty.1) ∙ parents_refused (all text events size pieces_size) 8 k p.runs))

    no_room_refused : (k : ℕ) → NoRoomAt text events size pieces_size k → building text events size pieces_size ≡ refused 8 k
    unfolding run_all
    no_room_refused k n =
        let i : ℕ = length (encode_events n.before) in
        let x : YamlEvent = scalar_of n.mark n.tag n.value in
        let last : ℕ → State → Outcome = (λ (m : ℕ) (st : State). run text events records_in most (length events) i m st) in
        let z : 0 + i ≡ i = omega arith in
        let stand : Stand events 0 n.before i = subst (λ (m : ℕ). Stand events 0 n.before m) z (all_stand events 0 n.before n.rest n.sound n.bytes) in
        let first_is : n.first ≡ walk_first text (awaits_value n.st.opens) n.mark n.value =
        n.first_is ∙ sym (ap (λ (a : Bool). walk_first text a n.mark n.value) (awaited_is text events records_in most n.before n.st n.let_through)) in
        let t : TooMany text events n.text_sound records_in most (room_small pieces_size) i n.mark n.tag n.value n.stands n.st =
        record {
          before_root_lem = n.before_root_lem;
          record_room_is = n.record_room_is;
          can_start = subst (λ (m : ℕ). Boundary text m) first_is n.can_start;
          steps = n.steps;
          reading = subst (λ (m : ℕ). Reading (rules_of n.mark.style n.mark.column) (drop m text) n.value n.steps) first_is n.reading;
          too_many = subst (λ (m : ℕ). most < length n.st.pieces + length (pieces_of m n.steps)) first_is n.too_many;
        } in
        let stops = too_many_if text events n.text_sound records_in most (room_small pieces_size) i n.mark n.tag n.value n.stands n.st t in
        let read : read_event events i ≡ Ok (placed i x) = sound_is_read events i x n.stands in
        let takes = event_takes x in
        let inside : i + length (encode_event x) ≤ length events = stands_inside events i (encode_event x) n.stands.rest n.stands.starts (omega arith) in
        let num = n.number in
        let numbered : 0 + length n.before ≡ k = omega arith in
        building_runs text events size pieces_size n.events_short n.text_sound
        ∙ ap with_parents (
        in_order_lem text events records_in most last i (λ f m st h. run_enough text events bytes records_in most f (length events) i m st h (omega arith)) (length events) 0 0 n.before empty stand (omega arith)
        ∙ over_through text events records_in most last 0 0 n.before empty n.st n.let_through
        ∙ run_stopped text events records_in most (length events) i (0 + length n.before) 8 n.st (omega arith) (omega arith) (ap (λ (e : Result (Event × ℕ) Malformed). on_read text events records_in most e n.st) read ∙ stops)
        ∙ ap (refused 8) numbered)

    -- demand 3 of every scalar event of a document
    pub build_demand3 : BuildDemand3 text events size pieces_size
    build_demand3 =
        record {
          lists = λ xs ps e. lists_of xs ps (admitted_or text events size pieces_size (built xs ps) e);
          no_room_only = λ k e. no_room_of k (admitted_or text events size pieces_size (refused 8 k) e);
          no_room_if = no_room_refused;
        }
      where
        lists_of : (xs : List Node) (ps : List Piece) → (built xs ps ≡ refused 1 0) ⊎ (built xs ps ≡ refused 2 0) ⊎ Passed text events size pieces_size (built xs ps) → ListsBuilt text events size pieces_size xs ps
        lists_of xs ps (inl e) = absurd (refused_not_built 1 0 xs ps (sym e))
        lists_of xs ps (inr (inl e)) = absurd (refused_not_built 2 0 xs ps (sym e))
        lists_of xs ps (inr (inr p)) = lists_built xs ps p

        no_room_of : (k : ℕ) → (refused 8 k ≡ refused 1 0) ⊎ (refused 8 k ≡ refused 2 0) ⊎ Passed text events size pieces_size (refused 8 k) → NoRoomAt text events size pieces_size k
        no_room_of k (inl e) = absurd (let z : ◌≡◌ {A = ℕ} 8 1 = cc in omega arith)
        no_room_of k (inr (inl e)) = absurd (let z : ◌≡◌ {A = ℕ} 8 2 = cc in omega arith)
        no_room_of k (inr (inr p)) = no_room_found k p
