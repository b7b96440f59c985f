-- What a step of the machine adds: as many nodes as its event completes behind those there are, pieces behind those there are, and the lists of
-- the new nodes take the new pieces one after the other. So what stands in the buffers stays where it is, up to the end of the run (`run_grown`).
use Rattle.std.specs.Prelude.{Option, Result, Ok, Err, Some, None}
use mathlib.Core.Path.{◌≡◌, refl, sym, ap, ap₂, ◌∙◌, subst}
use mathlib.Core.Bool.{Bool, true, false, cond}
use mathlib.Core.Logic.{inl, inr}
use mathlib.Core.List.{List, [], ◌∷◌, ◌++◌, append-nil, append_assoc}
use Prim.Native.Nat.{ℕ, ◌+◌, ◌≤◌, ◌<◌}
use native.Mathlib.Omega.{arith}
use borrow.Author.Tests.{ltb-false}
use lib.Dec.{ltb, leb}
use lib.ListN.{length, length-append}
use Rattle.provenance.specs.Reading.{Piece}
use Rattle.event.specs.Encode.{YamlEvent, sequence_start, sequence_end, mapping_start, mapping_end, scalar, alias, encode_event}
use Rattle.event.specs.Meaning.{placed}
use Rattle.event.specs.declared.tag.YamlTag.{YamlTag}
use Rattle.event.specs.declared.read.Event.{Event}
use Rattle.event.specs.declared.malformed.Malformed.{Malformed}
use Rattle.event.specs.declared.read.Event.TheVariants.{SequenceStart, SequenceEnd, MappingStart, MappingEnd, Scalar, Alias}
use Rattle.records.specs.Record.{absent, no_list, with_list}
use Rattle.spans.specs.Scalar.{ScalarAt, scalar_over, event_node}
use Rattle.spans.specs.Collection.{closes, collection_over, collection_node}
use Rattle.parser.specs.Machine.{State, Next, go, stop, built, refused, depth_limit, root_done, before_root, within_depth, within_room}
use Rattle.parser.specs.Machine.{completed, on_start, ended, on_end, on_alias, keeping, scalar_kept, on_scalar, on_read, ending, follow}
use Rattle.parser.proofs.RunLaws.{stop_not_go}
use Rattle.parser.specs.EventRun.{nodes_completed, completed_by, go_on, reached, run_events}
use Rattle.parser.specs.Demand.{Consecutive}
use Rattle.records.specs.declared.record.Node.{Node}
use Rattle.spans.specs.declared.open.Collection.{Collection}
use Rattle.spans.specs.declared.open.Collection.TheVariants.{Sequence, Mapping}
use Rattle.spans.specs.declared.open.Open.{Open}
use Rattle.parser.proofs.EventRun.{go_is, refused_not_built}

-- ---- gates

pub gate : (t : Bool) (m : ℕ) (n : Next) (st : State) → cond t (stop m) n ≡ go st → (t ≡ false) × (n ≡ go st)
gate true m n st e = absurd (stop_not_go m st e)
gate false m n st e = (refl, e)

pub past_root : (st : State) (n : Next) (st' : State) → before_root st n ≡ go st' → (root_done st ≡ false) × (n ≡ go st')
unfolding before_root
past_root st n st' e = gate (root_done st) 5 n st' e

pub past_depth : (st : State) (n : Next) (st' : State) → within_depth st n ≡ go st' → n ≡ go st'
unfolding within_depth
past_depth st n st' e = (gate (leb depth_limit (length st.opens)) 6 n st' e).1

pub past_room : (room : ℕ) (st : State) (n : Next) (st' : State) → within_room room st n ≡ go st' → (leb room (length st.nodes) ≡ false) × (n ≡ go st')
unfolding within_room
past_room room st n st' e = gate (leb room (length st.nodes)) 7 n st' e

-- ---- lists one after the other

pub consecutive_append : (a m e : ℕ) (xs ys : List Node) → Consecutive a xs m → Consecutive m ys e → Consecutive a (xs ++ ys) e
unfolding Consecutive
consecutive_append a m e [] ys c d = subst (λ (n : ℕ). Consecutive n ys e) (sym c) d
consecutive_append a m e (x ∷ xs) ys (inl c) d = inl (c.0, consecutive_append a m e xs ys c.1 d)
consecutive_append a m e (x ∷ xs) ys (inr c) d = inr (c.0, c.1, consecutive_append (a + x.list.count) m e xs ys c.2 d)

-- ---- what is added, where so many pieces are let in: n nodes

pub record Grown (most n : ℕ) (st st' : State) : Type 0 where
  pub own : List Node
  pub count : length own ≡ n
  pub nodes : st'.nodes ≡ st.nodes ++ own
  pub left : List Piece
  pub pieces : st'.pieces ≡ st.pieces ++ left
  pub lists : Consecutive (length st.pieces) own (length st.pieces + length left)
  pub few : length st.pieces ≤ most → length st'.pieces ≤ most

pub grown_same : (most : ℕ) (st st' : State) → st'.nodes ≡ st.nodes → st'.pieces ≡ st.pieces → Grown most 0 st st'
unfolding Consecutive
grown_same most st st' n p =
    record {
      own = [];
      count = refl;
      nodes = n ∙ sym (append-nil st.nodes);
      left = [];
      pieces = p ∙ sym (append-nil st.pieces);
      lists = omega arith;
      few = λ h. rw p h;
    }

pub grown_on : (most n m : ℕ) (a b c : State) → Grown most n a b → Grown most m b c → Grown most (n + m) a c
grown_on most n m a b c g h =
    let size : length b.pieces ≡ length a.pieces + length g.left = ap length g.pieces ∙ length-append a.pieces g.left in
    let end : length b.pieces + length h.left ≡ length a.pieces + length (g.left ++ h.left) = rw (length-append g.left h.left) (omega arith) in
    let on : Consecutive (length a.pieces + length g.left) h.own (length a.pieces + length (g.left ++ h.left)) =
    subst (λ (n : ℕ). Consecutive n h.own (length a.pieces + length (g.left ++ h.left))) size (subst (λ (n : ℕ). Consecutive (length b.pieces) h.own n) end h.lists) in
    record {
      own = g.own ++ h.own;
      count = length-append g.own h.own ∙ ap₂ ◌+◌ g.count h.count;
      nodes = h.nodes ∙ ap (λ (l : List Node). l ++ h.own) g.nodes ∙ append_assoc a.nodes g.own h.own;
      left = g.left ++ h.left;
      pieces = h.pieces ∙ ap (λ (l : List Piece). l ++ h.left) g.pieces ∙ append_assoc a.pieces g.left h.left;
      lists = consecutive_append (length a.pieces) (length a.pieces + length g.left) (length a.pieces + length (g.left ++ h.left)) g.own h.own g.lists on;
      few = λ f. h.few (g.few f);
    }

-- a node without a list is complete
grown_node : (most : ℕ) (x : Node) (st st₁ : State) → x.list ≡ no_list → st₁.nodes ≡ st.nodes → st₁.pieces ≡ st.pieces → Grown most 1 st (completed x st₁)
unfolding completed Consecutive
grown_node most x st st₁ un n p =
    record {
      own = x ∷ [];
      count = refl;
      nodes = ap (λ (l : List Node). l ++ (x ∷ [])) n;
      left = [];
      pieces = p ∙ sym (append-nil st.pieces);
      lists = inl (un, omega arith);
      few = λ h. rw p h;
    }

grown_listed : (most : ℕ) (x : Node) (st : State) (ps : List Piece) → most < absent → length st.pieces + length ps ≤ most
    → Grown most 1 st (completed (with_list x (length st.pieces) (length ps)) (record { nodes = st.nodes; opens = st.opens; pieces = st.pieces ++ ps }))
unfolding completed Consecutive
grown_listed most x st ps small fits =
    record {
      own = with_list x (length st.pieces) (length ps) ∷ [];
      count = refl;
      nodes = refl;
      left = ps;
      pieces = refl;
      lists = inr (refl, omega arith, refl);
      few = λ h. rw (length-append st.pieces ps) fits;
    }

-- a scalar is complete, with the list that its walk gave
pub grown_kept : (most : ℕ) (x : Node) (o : Option (List Piece)) (st st' : State) → most < absent → x.list ≡ no_list → keeping most x o st ≡ go st' → Grown most 1 st st'
unfolding keeping
grown_kept most x None st st' small un e = subst (λ (s : State). Grown most 1 st s) (go_is (completed x st) st' e) (grown_node most x st st un refl refl)
grown_kept most x (Some ps) st st' small un e =
    let w = gate (ltb most (length st.pieces + length ps)) 8 _ st' e in
    let fits = ltb-false most (length st.pieces + length ps) w.0 in
    subst (λ (s : State). Grown most 1 st s) (go_is _ st' w.1) (grown_listed most x st ps small fits)

-- ---- each event

-- how many nodes it completes, as it is read
abbrev read_completes : Result (Event × ℕ) Malformed → ℕ
read_completes (Ok (SequenceStart index tag, n)) = 0
read_completes (Ok (SequenceEnd index, n)) = 1
read_completes (Ok (MappingStart index tag, n)) = 0
read_completes (Ok (MappingEnd index, n)) = 1
read_completes (Ok (Scalar index column style empty_span tag value, n)) = 1
read_completes (Ok (Alias index, n)) = 1
read_completes (Err e) = 0

placed_completes : (i : ℕ) (e : YamlEvent) → read_completes (Ok (placed i e)) ≡ nodes_completed e
unfolding placed
placed_completes i (sequence_start index tag) = refl
placed_completes i (sequence_end index) = refl
placed_completes i (mapping_start index tag) = refl
placed_completes i (mapping_end index) = refl
placed_completes i (scalar index column style empty_span tag value) = refl
placed_completes i (alias index) = refl

collection_no_list : (text : List ℕ) (o : Open) (i n : ℕ) → (collection_node text o i n).list ≡ no_list
unfolding collection_node collection_over
collection_no_list text o i n = refl

module _ (text events : List ℕ) (room most : ℕ) (small : most < absent) where
  start_grown : (collection : Collection) (index : ℕ) (tag : Option YamlTag) (st st' : State) → on_start text collection index tag st ≡ go st' → Grown most 0 st st'
  unfolding on_start
  start_grown collection index tag st st' e =
      subst (λ (s : State). Grown most 0 st s) (go_is _ st' (past_depth st _ st' (past_root st _ st' e).1)) (grown_same most st _ refl refl)

  end_grown : (collection : Collection) (index : ℕ) (os : List Open) (st st' : State) → on_end text room collection index os st ≡ go st' → Grown most 1 st st'
  unfolding ended
  end_grown collection index [] st st' e = absurd (stop_not_go 4 st' e)
  end_grown collection index (o ∷ os) st st' e = by (closes collection o) e
    where
      by : (t : Bool) → cond t (ended text room index o os st) (stop 4) ≡ go st' → Grown most 1 st st'
      by true f = opened f
        where
          opened : ended text room index o os st ≡ go st' → Grown most 1 st st'
          opened f = subst (λ (s : State). Grown most 1 st s) (go_is _ st' (past_room room st _ st' f).1) (grown_node most _ st _ (collection_no_list text o _ _) refl refl)
      by false f = absurd (stop_not_go 4 st' f)

  alias_grown : (index : ℕ) (st st' : State) → on_alias text room index st ≡ go st' → Grown most 1 st st'
  unfolding on_alias
  alias_grown index st st' e = subst (λ (s : State). Grown most 1 st s) (go_is _ st' (past_room room st _ st' (past_root st _ st' e).1).1) (grown_node most _ st _ refl refl refl)

  scalar_grown : (x : ScalarAt) (tag : Option YamlTag) (st st' : State) → scalar_kept text events most x tag st ≡ go st' → Grown most 1 st st'
  unfolding scalar_kept event_node scalar_over
  scalar_grown x tag st st' e = grown_kept most _ _ st st' small refl e

  pub step_grown : (e : Result (Event × ℕ) Malformed) (st st' : State) → on_read text events room most e st ≡ go st' → Grown most (read_completes e) st st'
  unfolding on_scalar
  step_grown (Ok (SequenceStart index tag, n)) st st' h = start_grown Sequence index tag st st' h
  step_grown (Ok (SequenceEnd index, n)) st st' h = end_grown Sequence index st.opens st st' h
  step_grown (Ok (MappingStart index tag, n)) st st' h = start_grown Mapping index tag st st' h
  step_grown (Ok (MappingEnd index, n)) st st' h = end_grown Mapping index st.opens st st' h
  step_grown (Ok (Scalar index column style empty_span tag value, n)) st st' h = scalar_grown _ tag st st' (past_room room st _ st' (past_root st _ st' h).1).1
  step_grown (Ok (Alias index, n)) st st' h = alias_grown index st st' h
  step_grown (Err e) st st' h = absurd (stop_not_go 3 st' h)

  -- ---- the run

  -- an event, and those after it
  event_grown : (i : ℕ) (x : YamlEvent) (es : List YamlEvent) (st s st' : State) → on_read text events room most (Ok (placed i x)) st ≡ go s → Grown most (completed_by es) s st'
      → Grown most (completed_by (x ∷ es)) st st'
  event_grown i x es st s st' is rest =
      subst (λ (n : ℕ). Grown most (n + completed_by es) st st') (placed_completes i x) (grown_on most _ _ st s st' (step_grown (Ok (placed i x)) st s is) rest)

  pub reached_grown : (i : ℕ) (es : List YamlEvent) (st st' : State) → reached text events room most i es st ≡ go st' → Grown most (completed_by es) st st'
  unfolding reached
  reached_grown i [] st st' e = subst (λ (s : State). Grown most 0 st s) (go_is st st' e) (grown_same most st st refl refl)
  reached_grown i (x ∷ es) st st' e = by (on_read text events room most (Ok (placed i x)) st) refl e (λ s h. reached_grown (i + length (encode_event x)) es s st' h)
    where
      by : (n : Next) → on_read text events room most (Ok (placed i x)) st ≡ n → go_on n (λ (s : State). reached text events room most (i + length (encode_event x)) es s) ≡ go st'
          → ((s : State) → reached text events room most (i + length (encode_event x)) es s ≡ go st' → Grown most (completed_by es) s st') → Grown most (completed_by (x ∷ es)) st st'
      by (stop m) is f rest = absurd (stop_not_go m st' f)
      by (go s) is f rest = event_grown i x es st s st' is (rest s f)

  -- a document that is built, as a state
  abbrev pub final : List Node → List Piece → State
  final xs ps = record { nodes = xs; opens = []; pieces = ps }

  ending_grown : (k : ℕ) (st : State) (xs : List Node) (ps : List Piece) → ending k st ≡ built xs ps → Grown most 0 st (final xs ps)
  unfolding ending
  ending_grown k st xs ps e = by (root_done st) e
    where
      by : (t : Bool) → cond t (built st.nodes st.pieces) (refused 9 k) ≡ built xs ps → Grown most 0 st (final xs ps)
      by true f = let a : xs ≡ st.nodes = cc in let b : ps ≡ st.pieces = cc in grown_same most st (final xs ps) a b
      by false f = absurd (refused_not_built 9 k xs ps f)

  pub run_grown : (i k : ℕ) (es : List YamlEvent) (st : State) (xs : List Node) (ps : List Piece) → run_events text events room most ending i k es st ≡ built xs ps → Grown most (completed_by es) st (final xs ps)
  unfolding run_events
  run_grown i k [] st xs ps e = ending_grown k st xs ps e
  run_grown i k (x ∷ es) st xs ps e = by (on_read text events room most (Ok (placed i x)) st) refl e (λ s h. run_grown (i + length (encode_event x)) (k + 1) es s xs ps h)
    where
      by : (n : Next) → on_read text events room most (Ok (placed i x)) st ≡ n → follow n (λ (s : State). run_events text events room most ending (i + length (encode_event x)) (k + 1) es s) k ≡ built xs ps
          → ((s : State) → run_events text events room most ending (i + length (encode_event x)) (k + 1) es s ≡ built xs ps → Grown most (completed_by es) s (final xs ps)) → Grown most (completed_by (x ∷ es)) st (final xs ps)
      by (stop m) is f rest = absurd (refused_not_built m k xs ps f)
      by (go s) is f rest = event_grown i x es st s (final xs ps) is (rest s f)
