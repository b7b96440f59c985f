-- Where spans start and end: at boundaries, within the text. And a scalar's pieces are those of the walk from document 01's first byte.
use Rattle.std.specs.Prelude.{◌≡◌, refl, Bool, true, false, ◌&&◌, not, cond, ℕ, ◌+◌, ◌-◌, ◌≤◌, ◌<◌, eqb, List, length, get_or, take, drop}
use Rattle.std.specs.Prelude.{Option, None, Some, IfSome, is_some, unwrap_or}
use Rattle.std.proofs.Common.{sym, ◌∙◌, subst, arith, lt-ltb, eqb-true, length-drop, length-take, drop-cons, take_all, get_or-drop}
use Rattle.std.proofs.Math.Path.{ap}
use Rattle.std.proofs.Math.Decide.{dec_lt}
use Rattle.std.proofs.Math.ListN.{get_or-eq_default}
use Rattle.utf8.specs.Utf8.{Utf8}
use Rattle.utf8.specs.Characters.{codes, first_char, char_of}
use Rattle.utf8.specs.Class.{is_continuation}
use Rattle.utf8.specs.Boundary.{Boundary}
use Rattle.utf8.proofs.Utf8Laws.{char_at, boundary_splits}
use Rattle.text.specs.Offset.{byte_offset}
use Rattle.text.proofs.OffsetLaws.{offset_boundary}
use Rattle.text.specs.Admission.{text_limit}
use Rattle.text.specs.Admitted.{AdmittedText}
use Rattle.schema.specs.Record.{truth}
use Rattle.schema.specs.declared.plain.Resolved.{Resolved}
use Rattle.measure.specs.Scalar.{plain, scalar_measure, scalar_len}
use Rattle.measure.specs.Plain.{reaches, plain_reach}
use Rattle.measure.proofs.MeasuredLaws.{measured_boundary, scalar_reaches}
use Rattle.event.specs.Read.{events_limit, part_of}
use Rattle.event.specs.Proved.{TextPart, TextParts}
use Rattle.event.specs.declared.string.Part.{Part}
use Rattle.event.specs.declared.tag.YamlTag.{YamlTag}
use Rattle.provenance.specs.Grammar.{rules_of}
use Rattle.provenance.specs.Reading.{Piece}
use Rattle.provenance.specs.Start.{list_from, scalar_list}
use Rattle.provenance.specs.Alike.{reads_alike, past_span, pieces_end}
use Rattle.provenance.proofs.Measured.{pieces_list, pieces_end_at}
use Rattle.spans.specs.Scalar.{Mark, ScalarAt, step_past, colon, scalar_start, scalar_at, span_measure, span_len, list_at, walk_first}
use Rattle.spans.specs.Scalar.{scalar_over, scalar_node, event_node}
use Rattle.spans.specs.Start.{NoStartOutside}
use Rattle.spans.specs.Collection.{is_mapping, open_brace, close_brace, close_bracket}
use Rattle.spans.specs.Collection.{collection_start, collection_end, collection_over, collection_node}
use Rattle.spans.specs.Fits.{TagFits}
use Rattle.records.specs.Record.{extent}
use Rattle.records.specs.declared.record.TagInfo.{TagInfo}
use Rattle.spans.specs.declared.open.Collection.{Collection}
use Rattle.spans.specs.declared.open.Collection.TheVariants.{Sequence, Mapping}
use Rattle.spans.specs.declared.open.Open.{Open}

-- ---- a step past a byte

inside : (text : List ℕ) (i c : ℕ) → 0 < c → get_or text i 0 ≡ c → i < length text
inside text i c h e = go (dec_lt i (length text))
  where
    go : Dec (i < length text) → i < length text
    go (yes l) = l
    go (no l) = absurd (let z : get_or text i 0 ≡ 0 = get_or-eq_default text 0 {n = i} (omega arith) in omega arith)

pub step_within : (text : List ℕ) (c i : ℕ) → 0 < c → i ≤ length text → step_past text c i ≤ length text
unfolding step_past
step_within text c i h l = go (eqb (get_or text i 0) c) refl
  where
    go : (t : Bool) → eqb (get_or text i 0) c ≡ t → cond t (i + 1) i ≤ length text
    go true e = let k = inside text i c h (eqb-true (get_or text i 0) c e) in omega arith
    go false e = l

-- an ASCII byte is a character
pub step_boundary : (text : List ℕ) (c i : ℕ) → Utf8 text → 0 < c → c < 0x80 → Boundary text i → Boundary text (step_past text c i)
unfolding step_past first_char char_of
step_boundary text c i u h l b = go (eqb (get_or text i 0) c) refl
  where
    go : (t : Bool) → eqb (get_or text i 0) c ≡ t → Boundary text (cond t (i + 1) i)
    go true e =
        let is : get_or text i 0 ≡ c = eqb-true (get_or text i 0) c e in
        let k = inside text i c h is in
        let n : (first_char (drop i text)).len ≡ 1 = rw (drop-cons text i 0 k, is, lt-ltb c 0x80 l) refl in
        subst (λ (m : ℕ). Boundary text (i + m)) n (char_at u b k).next
    go false e = b

-- ---- starts

pub offset_start : (text : List ℕ) → Utf8 text → (value : List ℕ) (style : ℕ) (awaited : Bool) (i : ℕ) → Boundary text i
    → Boundary text (scalar_start text i value style awaited)
unfolding scalar_start
offset_start text u value style awaited i b = go (awaited && (eqb style plain && eqb (length value) 0))
  where
    go : (t : Bool) → Boundary text (cond t (step_past text colon i) i)
    go true = step_boundary text colon i u (omega arith) (omega arith) b
    go false = b

pub no_start_outside : NoStartOutside
no_start_outside text u awaited m value = offset_start text u value m.style awaited (byte_offset text m.index) (offset_boundary u m.index)

pub collection_start_boundary : (text : List ℕ) (o : Open) → Boundary text o.start → IfSome o.first (Boundary text)
    → Boundary text (collection_start text o)
unfolding collection_start
collection_start_boundary text o a b = go (is_mapping o.collection && not (eqb (get_or text o.start 0) open_brace))
  where
    first : (f : Option ℕ) → IfSome f (Boundary text) → Boundary text (unwrap_or f o.start)
    first None h = a
    first (Some i) h = h

    go : (t : Bool) → Boundary text (cond t (unwrap_or o.first o.start) o.start)
    go true = first o.first b
    go false = a

-- ---- spans

pub span_within : (text : List ℕ) (x : ScalarAt) → x.start ≤ length text → x.start + span_len text x ≤ length text
unfolding scalar_measure
span_within text x h = let l = length-drop x.start text in omega arith

pub end_within : (text : List ℕ) (collection : Collection) (i : ℕ) → i ≤ length text → collection_end text collection i ≤ length text
unfolding collection_end
end_within text Sequence i h = step_within text close_bracket i (omega arith) h
end_within text Mapping i h = step_within text close_brace i (omega arith) h

-- a scalar's span, as its record says, goes from its start as far as its measure says from there on
pub node_extent : (text : List ℕ) (x : ScalarAt) (tag : TagInfo) (r : Resolved)
    → (scalar_node text x tag r).extent ≡ extent x.start (x.start + scalar_len (drop x.start text) x.value x.style x.empty_span x.column)
unfolding scalar_over
node_extent text x tag r = refl

-- ---- the rest of a text from a boundary on

pub rest_is : (text : List ℕ) (i : ℕ) → take (length text - i) (drop i text) ≡ drop i text
rest_is text i = take_all (length text - i) (drop i text) (simp length-drop (omega arith))

pub rest_utf8 : (text : List ℕ) (i : ℕ) → Utf8 text → Boundary text i → Utf8 (take (length text - i) (drop i text))
rest_utf8 text i u b = rw (rest_is text i) (boundary_splits u b).back

-- ---- the starts of records

pub collection_node_boundary : (text : List ℕ) (o : Open) (i n : ℕ) → Boundary text o.start → IfSome o.first (Boundary text)
    → Boundary text (collection_node text o i n).extent.start
unfolding collection_node collection_over
collection_node_boundary text o i n a b = collection_start_boundary text o a b

pub event_node_boundary : (text events : List ℕ) (x : ScalarAt) (tag : Option YamlTag) → Boundary text x.start
    → Boundary text (event_node text events x tag).extent.start
unfolding event_node scalar_over
event_node_boundary text events x tag on = on

-- ---- parts of the event bytes

-- the suffix of a tag within the event bytes
pub tag_fits : (events : List ℕ) (t : Option YamlTag) → TextParts events t → length events ≤ events_limit → TagFits t
tag_fits events None p h = tt
tag_fits events (Some t) p h = let i = p.1.inside in (omega arith, omega arith)

-- a part, as a range of the event bytes
pub range_is : (events : List ℕ) (v : Part) → take (v.at + v.len - v.at) (drop v.at events) ≡ part_of events v
range_is events v = let e : v.at + v.len - v.at ≡ v.len = omega arith in rw e

pub part_few : (events : List ℕ) (v : Part) (n : ℕ) → v.len ≤ n → length (part_of events v) ≤ n
part_few events v n h = rw (length-take v.len (drop v.at events)) (omega arith)

-- a value is admitted
pub value_sound : (events : List ℕ) (v : Part) → TextPart events v → v.len ≤ text_limit → AdmittedText (part_of events v)
value_sound events v p few = record { within = part_few events v text_limit few; utf8 = p.utf8 }

-- ---- the walk

-- the pieces are those of the walk from document 01's first byte on
pub pieces_are : (text : List ℕ) (awaited : Bool) (m : Mark) (value : List ℕ) (place : ℕ)
    → list_at text (scalar_at text awaited m value place) ≡ list_from (rules_of m.style m.column) text (walk_first text awaited m value) value
unfolding scalar_list walk_first
pieces_are text awaited m value place = refl

-- ---- measured (02, (b), (c))

-- whether a scalar's span was measured, as its record says, is what its measure says from its start on
pub node_measured : (text : List ℕ) (x : ScalarAt) (tag : TagInfo) (r : Resolved)
    → (scalar_node text x tag r).measured ≡ truth (scalar_measure (drop x.start text) x.value x.style x.empty_span x.column).measured
unfolding scalar_over
node_measured text x tag r = refl

-- a boundary of what is left of a text is one of the text
boundary_later : {text : List ℕ} {i n : ℕ} → Boundary text i → Boundary (drop i text) n → Boundary text (i + n)
boundary_later {text} {i} {n} on b =
    let l = length-drop i text in
    let w = b.within in
    let o = on.within in
    record { within = omega arith; edge = ap is_continuation (sym (get_or-drop i text n 0)) ∙ b.edge }

module _ (text : List ℕ) (utf8 : Utf8 text) (x : ScalarAt) (on : Boundary text x.start)
    (measured : (span_measure text x).measured ≡ true) where
  -- what is measured ends at a boundary of the text
  pub measured_ends : Boundary text (x.start + span_len text x)
  measured_ends = boundary_later on (measured_boundary (boundary_splits utf8 on).back x.value x.style x.empty_span x.column measured)

  module _ (value_utf8 : Utf8 x.value) (is_plain : x.style ≡ plain) where
    abbrev rest : List ℕ
    rest = drop x.start text

    reaches_span : plain_reach (codes x.value) (codes rest) ≡ reaches (span_len text x)
    reaches_span =
        rw is_plain (scalar_reaches (boundary_splits utf8 on).back x.value x.empty_span x.column (rw is_plain at measured))

    list_is : list_at text x ≡ scalar_list text x.start (span_len text x) x.value plain x.column
    list_is = rw is_plain refl

    -- a plain scalar that is measured has a list just if its walk goes along with its measure
    pub measured_list : is_some (list_at text x) ≡ reads_alike (codes x.value) (codes rest)
    measured_list = ap is_some list_is ∙ pieces_list x.column (span_len text x) utf8 on value_utf8 reaches_span

    -- and its pieces then end so far past its span
    pub measured_pieces_end : (ps : List Piece) → list_at text x ≡ Some ps
        → pieces_end x.start ps ≡ x.start + (span_len text x + past_span (codes x.value) (codes rest))
    measured_pieces_end ps e = pieces_end_at x.column (span_len text x) utf8 on value_utf8 reaches_span ps (sym list_is ∙ e)
