-- The nodes that a call builds are the tree of its events, written in post-order, their records are sound, and each has the shape of the event
-- that completes it (N2, N3): kept by every step of the machine, and when the nodes get their parents after the run (02, (c)).
use mathlib.Core.Path.{◌≡◌, refl, sym, ap, subst, ◌∙◌}
use mathlib.Core.Bool.{Bool, true, false, cond}
use mathlib.Core.List.{List, [], ◌∷◌, ◌++◌, append_assoc, append-nil}
use Rattle.std.specs.Prelude.{Option, Result, Ok, Err, None, Some}
use Prim.Native.Nat.{ℕ, zero, suc, ◌+◌, ◌%◌, ◌<◌, ◌≤◌, zero-le}
use native.Mathlib.Decide.{dec_lt}
use native.Mathlib.Omega.{arith}
use borrow.Author.Tests.{lt-ltb, le-ltb, le-leb, eq-eqb, ltb-true, ltb-false, eqb-true}
use lib.Dec.{eqb, ltb, leb}
use lib.ListN.{length, length-append}
use Rattle.schema.specs.Record.{kind_number}
use Rattle.schema.specs.declared.plain.Resolved.{Resolved}
use Rattle.schema.specs.declared.plain.Resolved.TheVariants.{Null, Boolean, Integer, Real, Str, BadValue}
use Rattle.text.specs.Offset.{byte_offset}
use Rattle.text.specs.Admission.{admission, error_number}
use Rattle.text.specs.declared.admission.TextError.{TextError}
use Rattle.provenance.specs.Reading.{Piece}
use Rattle.event.specs.Read.{events_limit, read_event}
use Rattle.event.specs.declared.malformed.Malformed.{Malformed}
use Rattle.event.specs.declared.read.Event.{Event}
use Rattle.event.specs.declared.read.Event.TheVariants.{SequenceStart, SequenceEnd, MappingStart, MappingEnd, Scalar, Alias}
use Rattle.event.specs.declared.tag.YamlTag.{YamlTag}
use Rattle.records.specs.Record.{absent, with_list, with_parent, alias_node}
use Rattle.records.specs.Parent.{holder, or_absent, parented}
use Rattle.spans.specs.Scalar.{ScalarAt, list_at, suffix_of, tag_info, resolved_by, scalar_over, scalar_node, scalar_given, event_scalar, event_node}
use Rattle.spans.specs.Collection.{with_child, closes, collection_kind, members, collection_over, collection_node}
use Rattle.parser.specs.Machine.{State, empty, Next, go, stop, Outcome, built, refused, root_done, before_root, within_depth, within_room, completed, opening as opened, on_start, ended, on_end, on_alias, keeping, awaits_value, scalar_kept, on_scalar, on_read, next_place, ending, run, run_all}
use Rattle.records.specs.Layout.{record_room, piece_room}
use Rattle.parser.specs.Call.{admitted, building}
use Rattle.parser.proofs.RunLaws.{run_ended, run_stopped, stop_not_go, parents_built}
use Rattle.records.specs.declared.record.Node.{Node}
use Rattle.spans.specs.declared.open.Collection.{Collection}
use Rattle.spans.specs.declared.open.Collection.TheVariants.{Sequence, Mapping}
use Rattle.spans.specs.declared.open.Open.{Open}
use Rattle.records.specs.Forest.{Forest, nil, snoc, post_order, nodes_in, trees, last_root}
use Rattle.records.proofs.ParentLaws.{under_parent}
use Rattle.node.proofs.Alike.{sound_under, parented_nodes, parented_tree}
use Rattle.node.proofs.ForestLaws.{both_true}
use Rattle.node.specs.Growth.{Shape, scalar, alias, array, hash, Effect, opening, closing, leaf, faulty, effect_of, effects_from, with_tree, growth, tree_of, effects, shapes, completions, HasShape}
use Rattle.node.specs.Built.{Tree, SoundForest, Shaped, EveryBuiltTree}

-- ---- what holds between the growth and the machine's state

-- how far the tree is: the children so far of each open collection, the innermost first, or the root and its children
data Progress : Type 0 where
  growing : List Forest → Progress
  grown : Node → Forest → Progress

abbrev stack : Progress → List Forest
stack (growing fs) = fs ++ (nil ∷ [])
stack (grown x kids) = snoc nil x kids ∷ []

-- the node x, with these children, is complete
abbrev complete : Node → Forest → List Forest → Progress
complete x kids [] = grown x kids
complete x kids (f ∷ fs) = growing (snoc f x kids ∷ fs)

stack-complete : (x : Node) (kids : Forest) (fs : List Forest) → with_tree x kids (stack (growing fs)) ≡ stack (complete x kids fs)
stack-complete x kids [] = refl
stack-complete x kids (f ∷ fs) = refl

-- the innermost collection is o, its children so far are f, `outer` the nodes before its first
record Level (f : Forest) (o : Open) (outer xs : List Node) : Type 0 where
  sound : SoundForest f
  order : xs ≡ outer ++ post_order f
  before : o.before ≡ length outer
  children : o.children ≡ trees f

-- forests and collections, innermost first
abbrev Nested : List Forest → List Open → List Node → Type 0
Nested [] [] xs = xs ≡ []
Nested [] (o ∷ os) xs = ⊥
Nested (f ∷ fs) [] xs = ⊥
Nested (f ∷ fs) (o ∷ os) xs = (outer : List Node) × Nested fs os outer × Level f o outer xs

-- a complete tree and its nodes
record Whole (x : Node) (kids : Forest) (xs : List Node) : Type 0 where
  sound : SoundForest (snoc nil x kids)
  order : xs ≡ post_order (snoc nil x kids)

abbrev Kept : Progress → List Open → List Node → Type 0
Kept (growing fs) os xs = Nested fs os xs
Kept (grown x kids) os xs = (os ≡ []) × Whole x kids xs

-- ---- a node is complete

completes :
    (fs : List Forest) (os : List Open) (outer xs : List Node) (x : Node) (kids : Forest) (i : ℕ) →
    Nested fs os outer → SoundForest kids → Tree x kids → xs ≡ outer ++ (post_order kids ++ (x ∷ [])) →
    Kept (complete x kids fs) (with_child i os) xs
unfolding post_order SoundForest
completes [] [] outer xs x kids i n c t e = (refl, record { sound = (tt, c, t); order = e ∙ ap (λ (l : List Node). l ++ (post_order kids ++ (x ∷ []))) n })
completes [] (o ∷ os) outer xs x kids i n c t e = absurd n
completes (f ∷ fs) [] outer xs x kids i n c t e = absurd n
completes (f ∷ fs) (o ∷ os) outer xs x kids i (more, n, l) c t e =
    let k = l.children in (
      more,
      n,
      record {
        sound = (l.sound, c, t);
        order = e ∙ ap (λ (z : List Node). z ++ (post_order kids ++ (x ∷ []))) l.order ∙ append_assoc more (post_order f) (post_order kids ++ (x ∷ []));
        before = l.before;
        children = omega arith;
      },
    )

-- ---- a step that leads on

-- what it adds to the nodes, and to the growth
record Advance (m : Effect) (g : Progress) (st n : State) : Type 0 where
  new : List Node
  next : Progress
  nodes : n.nodes ≡ st.nodes ++ new
  kept : Kept next n.opens n.nodes
  onward : (ms : List Effect) (ys : List Node) → growth (m ∷ ms) (new ++ ys) (stack g) ≡ growth ms ys (stack next)
  shaped : (ms : List Effect) (ys : List Node) → Shaped (shapes ms) ys → Shaped (shapes (m ∷ ms)) (new ++ ys)

true_not_false : true ≡ false → ⊥
true_not_false e = let z : ◌≡◌ {A = ℕ} 0 1 = cc in omega arith

-- a row that does not refuse
cond_goes : (t : Bool) (m : ℕ) (x : Next) (n : State) → cond t (stop m) x ≡ go n → (t ≡ false) × (x ≡ go n)
cond_goes true m x n e = absurd (stop_not_go m n e)
cond_goes false m x n e = (refl, e)

same_state : (a n : State) → go a ≡ go n → a ≡ n
same_state a n e = cc

reached : (m : Effect) (g : Progress) (st a n : State) → Advance m g st a → go a ≡ go n → Advance m g st n
reached m g st a n v e = subst (Advance m g st) (same_state a n e) v

-- a complete tree has a root that is done
root_is_done : (st : State) (x : Node) (kids : Forest) → Kept (grown x kids) st.opens st.nodes → root_done st ≡ true
unfolding root_done post_order
root_is_done st x kids k =
    let o : length st.opens ≡ 0 = ap length k.0 in
    let n : length st.nodes ≡ nodes_in kids + 1 = ap length k.1.order ∙ length-append (post_order kids) (x ∷ []) in
    rw (eq-eqb (length st.opens) 0 o, lt-ltb 0 (length st.nodes) (omega arith))

-- ---- leaves

leaf_tree : (x : Node) → (1 ≤ x.kind) × (x.kind ≤ 6) → x.subtree ≡ 1 → Tree x nil
unfolding post_order
leaf_tree x (a, b) c =
    record {
      kind = rw (le-leb 1 x.kind a, le-leb x.kind 8 (omega arith));
      count = c;
      scalar = λ h. refl;
      array = λ e. absurd (omega arith);
      hash = λ e. absurd (omega arith);
    }

leaf-added :
    (g : Progress) (st : State) (x : Node) (ps : List Piece) (shape : Shape) → Kept g st.opens st.nodes → root_done st ≡ false → Tree x nil → HasShape shape x →
    Advance (leaf shape) g st (completed x (record { nodes = st.nodes; opens = st.opens; pieces = ps }))
unfolding completed growth SoundForest post_order
leaf-added (growing fs) st x ps shape k d t s =
    record {
      new = x ∷ [];
      next = complete x nil fs;
      nodes = refl;
      kept = completes fs st.opens st.nodes (st.nodes ++ (x ∷ [])) x nil x.extent.start k tt t refl;
      onward = λ ms ys. ap (growth ms ys) (stack-complete x nil fs);
      shaped = λ ms ys h. (s, h);
    }
leaf-added (grown y others) st x ps shape k d t s = absurd (true_not_false (sym (root_is_done st y others k) ∙ d))

leaf-kept :
    (g : Progress) (st n : State) (room : ℕ) (x : Node) (l : Option (List Piece)) → Kept g st.opens st.nodes → root_done st ≡ false → Tree x nil → HasShape scalar x →
    keeping room x l st ≡ go n → Advance (leaf scalar) g st n
unfolding keeping
leaf-kept g st n room x None k d t s e = reached (leaf scalar) g st (completed x st) n (leaf-added g st x st.pieces scalar k d t s) e
leaf-kept g st n room x (Some ps) k d t s e =
    let y = with_list x (length st.pieces) (length ps) in
    let u : Tree y nil = record { kind = t.kind; count = t.count; scalar = t.scalar; array = t.array; hash = t.hash } in
    let a = completed y (record { nodes = st.nodes; opens = st.opens; pieces = st.pieces ++ ps }) in
    reached (leaf scalar) g st a n (leaf-added g st y (st.pieces ++ ps) scalar k d u s) (cond_goes (ltb room (length st.pieces + length ps)) 8 (go a) n e).1

pub kind_bounds : (r : Resolved) → (1 ≤ kind_number r) × (kind_number r ≤ 6)
kind_bounds Null = (omega arith, omega arith)
kind_bounds (Boolean b) = (omega arith, omega arith)
kind_bounds (Integer z) = (omega arith, omega arith)
kind_bounds Real = (omega arith, omega arith)
kind_bounds Str = (omega arith, omega arith)
kind_bounds BadValue = (omega arith, omega arith)

scalar-kept :
    (text events : List ℕ) (room : ℕ) (x : ScalarAt) (tag : Option YamlTag) (g : Progress) (st n : State) →
    Kept g st.opens st.nodes → root_done st ≡ false → scalar_kept text events room x tag st ≡ go n → Advance (leaf scalar) g st n
unfolding scalar_kept event_node scalar_over
scalar-kept text events room x tag g st n k d e =
    let r = resolved_by events x.value x.style tag in
    let y = scalar_node text x (tag_info text x.start (suffix_of tag)) r in
    leaf-kept g st n room y (list_at text x) k d (leaf_tree y (kind_bounds r) refl) (kind_bounds r) e

-- ---- ends

-- what ends a collection is of its kind
same_kind : (collection is : Collection) (o : Open) → o.collection ≡ is → closes collection o ≡ true → is ≡ collection
unfolding closes
same_kind Sequence Sequence o q e = refl
same_kind Sequence Mapping o q e = absurd (true_not_false (sym (rw q at e)))
same_kind Mapping Sequence o q e = absurd (true_not_false (sym (rw q at e)))
same_kind Mapping Mapping o q e = refl

-- a mapping that ends has as many values as keys
even : (collection : Collection) (o : Open) → o.collection ≡ Mapping → closes collection o ≡ true → o.children % 2 ≡ 0
unfolding closes
even Sequence o q e = absurd (true_not_false (sym (rw q at e)))
even Mapping o q e = eqb-true (o.children % 2) 0 (rw q at e)

collection-tree :
    (text : List ℕ) (collection : Collection) (o : Open) (kids : Forest) (s e n : ℕ) →
    closes collection o ≡ true → o.children ≡ trees kids → n ≡ o.before + nodes_in kids → Tree (collection_over text o s e n) kids
unfolding collection_over members
collection-tree text collection o kids s e n ends c m = by o.collection refl
  where
    by : (is : Collection) → o.collection ≡ is → Tree (collection_over text o s e n) kids
    by Mapping q =
        let p = even collection o q ends in
        let k : collection_kind o.collection ≡ 8 = rw q refl in
        record {
          kind = rw q refl;
          count = omega arith;
          scalar = λ h. absurd (omega arith);
          array = λ h. absurd (omega arith);
          hash = λ h. rw q (omega arith);
        }
    by Sequence q =
        let k : collection_kind o.collection ≡ 7 = rw q refl in
        record {
          kind = rw q refl;
          count = omega arith;
          scalar = λ h. absurd (omega arith);
          array = λ h. rw q c;
          hash = λ h. absurd (omega arith);
        }

-- what the end of a collection completes
abbrev end_shape : Collection → Shape
end_shape Sequence = array
end_shape Mapping = hash

kind_shape : (collection : Collection) (x : Node) → x.kind ≡ collection_kind collection → x.measured ≡ 1 → HasShape (end_shape collection) x
kind_shape Sequence x e m = (e, m)
kind_shape Mapping x e m = (e, m)

collection_shape :
    (text : List ℕ) (collection : Collection) (o : Open) (i n : ℕ) → closes collection o ≡ true →
    HasShape (end_shape collection) (collection_node text o i n)
unfolding collection_node collection_over
collection_shape text collection o i n ends =
    kind_shape collection (collection_node text o i n) (ap collection_kind (same_kind collection o.collection o refl ends)) refl

end-added :
    (text : List ℕ) (collection : Collection) (o : Open) (os : List Open) (g : Progress) (st : State) (i : ℕ) → Kept g (o ∷ os) st.nodes → closes collection o ≡ true →
    Advance (closing (end_shape collection)) g st (completed (collection_node text o i (length st.nodes)) (record { nodes = st.nodes; opens = os; pieces = st.pieces }))
unfolding completed collection_node growth
end-added text collection o os (growing []) st i k c = absurd k
end-added text collection o os (growing (kids ∷ fs)) st i (outer, nest, l) c =
    let x = collection_node text o i (length st.nodes) in
    let n : length st.nodes ≡ length outer + nodes_in kids = ap length l.order ∙ length-append outer (post_order kids) in
    let b = l.before in
    let t = collection-tree text collection o kids _ _ (length st.nodes) c l.children (omega arith) in
    let e : st.nodes ++ (x ∷ []) ≡ outer ++ (post_order kids ++ (x ∷ [])) = ap (λ (z : List Node). z ++ (x ∷ [])) l.order ∙ append_assoc outer (post_order kids) (x ∷ []) in
    record {
      new = x ∷ [];
      next = complete x kids fs;
      nodes = refl;
      kept = completes fs os outer (st.nodes ++ (x ∷ [])) x kids x.extent.start nest l.sound t e;
      onward = λ ms ys. ap (growth ms ys) (stack-complete x kids fs);
      shaped = λ ms ys h. (collection_shape text collection o i (length st.nodes) c, h);
    }
end-added text collection o os (grown y others) st i k c = absurd (let z : ◌≡◌ {A = ℕ} (suc (length os)) 0 = ap length k.0 in omega arith)

closes_on : (t : Bool) (m : ℕ) (x : Next) (n : State) → cond t x (stop m) ≡ go n → (t ≡ true) × (x ≡ go n)
closes_on true m x n e = (refl, e)
closes_on false m x n e = absurd (stop_not_go m n e)

end_kept :
    (text : List ℕ) (room : ℕ) (collection : Collection) (index : ℕ) (os : List Open) (g : Progress) (st n : State) →
    Kept g os st.nodes → on_end text room collection index os st ≡ go n → Advance (closing (end_shape collection)) g st n
unfolding ended within_room
end_kept text room collection index [] g st n k e = absurd (stop_not_go 4 n e)
end_kept text room collection index (o ∷ os) g st n k e =
    let c = closes_on (closes collection o) 4 (ended text room index o os st) n e in
    let a = completed (collection_node text o (byte_offset text index) (length st.nodes)) (record { nodes = st.nodes; opens = os; pieces = st.pieces }) in
    reached (closing (end_shape collection)) g st a n (end-added text collection o os g st (byte_offset text index) k c.0) (cond_goes (leb room (length st.nodes)) 7 (go a) n c.1).1

-- ---- starts

start-kept :
    (text : List ℕ) (collection : Collection) (index : ℕ) (tag : Option YamlTag) (g : Progress) (st n : State) →
    Kept g st.opens st.nodes → on_start text collection index tag st ≡ go n → Advance opening g st n
unfolding on_start before_root within_depth growth SoundForest post_order
start-kept text collection index tag (grown y others) st n k e = absurd (true_not_false (sym (root_is_done st y others k) ∙ (cond_goes (root_done st) 5 _ n e).0))
start-kept text collection index tag (growing fs) st n k e =
    let a : State = record {
      nodes = st.nodes;
      opens = opened collection (byte_offset text index) tag (length st.nodes) ∷ st.opens;
      pieces = st.pieces;
    } in
    let z : st.nodes ≡ st.nodes ++ [] = sym (append-nil st.nodes) in
    reached opening (growing fs) st a n
    (record {
      new = [];
      next = growing (nil ∷ fs);
      nodes = z;
      kept = (st.nodes, k, record { sound = tt; order = z; before = refl; children = refl });
      onward = λ ms ys. refl;
      shaped = λ ms ys h. h;
    })
    (cond_goes (leb 64 (length st.opens)) 6 (go a) n (cond_goes (root_done st) 5 _ n e).1).1

-- ---- where the events end

nested_root : (fs : List Forest) (os : List Open) (xs : List Node) → Nested fs os xs → length os ≡ 0 → length xs ≡ 0
nested_root [] [] xs n e = ap length n
nested_root [] (o ∷ os) xs n e = absurd n
nested_root (f ∷ fs) [] xs n e = absurd n
nested_root (f ∷ fs) (o ∷ os) xs n e = absurd (omega arith)

refused_not_built : (m k : ℕ) (xs : List Node) (ps : List Piece) → refused m k ≡ built xs ps → ⊥
refused_not_built m k xs ps e = let z : ◌≡◌ {A = ℕ} 0 1 = cc in omega arith

built_at : (t : Bool) (xs ys : List Node) (ps qs : List Piece) (k : ℕ) → cond t (built xs ps) (refused 9 k) ≡ built ys qs → (t ≡ true) × (xs ≡ ys)
built_at true xs ys ps qs k e = (refl, cc)
built_at false xs ys ps qs k e = absurd (refused_not_built 9 k ys qs e)

-- ---- every step

module _ (text events : List ℕ) (room piece_room : ℕ) where
  step_kept : (e : Result (Event × ℕ) Malformed) (g : Progress) (st n : State) → Kept g st.opens st.nodes → on_read text events room piece_room e st ≡ go n → Advance (effect_of e) g st n
  unfolding on_alias on_scalar before_root within_room
  step_kept (Ok (SequenceStart index tag, m)) g st n k e = start-kept text Sequence index tag g st n k e
  step_kept (Ok (SequenceEnd index, m)) g st n k e = end_kept text room Sequence index st.opens g st n k e
  step_kept (Ok (MappingStart index tag, m)) g st n k e = start-kept text Mapping index tag g st n k e
  step_kept (Ok (MappingEnd index, m)) g st n k e = end_kept text room Mapping index st.opens g st n k e
  step_kept (Ok (Scalar index column style empty_span tag value, m)) g st n k e =
      let a = cond_goes (root_done st) 5 _ n e in
      let b = cond_goes (leb room (length st.nodes)) 7 _ n a.1 in
      scalar-kept text events piece_room (event_scalar text events (byte_offset text index) (awaits_value st.opens) (scalar_given (record { index = index; column = column; style = _; empty = empty_span }) tag value)) tag g st n k a.0 b.1
  step_kept (Ok (Alias index, m)) g st n k e =
      let a = cond_goes (root_done st) 5 _ n e in
      let b = cond_goes (leb room (length st.nodes)) 7 _ n a.1 in
      let x = alias_node (byte_offset text index) in
      reached (leaf alias) g st (completed x st) n (leaf-added g st x st.pieces alias k a.0 (leaf_tree x (omega arith, omega arith) refl) (refl, refl)) b.1
  step_kept (Err x) g st n k e = absurd (stop_not_go _ n e)

  -- ---- the ending

  -- what the rest of the events make of a growth
  record Made (ms : List Effect) (g : Progress) (before xs : List Node) : Type 0 where
    new : List Node
    nodes : xs ≡ before ++ new
    root : Node
    kids : Forest
    tree : growth ms new (stack g) ≡ snoc nil root kids ∷ []
    whole : Whole root kids xs
    shaped : Shaped (shapes ms) new

  ending_made : (k : ℕ) (g : Progress) (st : State) (xs : List Node) (ps : List Piece) → Kept g st.opens st.nodes → ending k st ≡ built xs ps → Made [] g st.nodes xs
  unfolding ending root_done growth
  ending_made k (growing fs) st xs ps h e =
      let d = both_true (eqb (length st.opens) 0) (ltb 0 (length st.nodes)) (built_at (root_done st) st.nodes xs st.pieces ps k e).0 in
      let l = nested_root fs st.opens st.nodes h (eqb-true (length st.opens) 0 d.0) in
      let m = ltb-true 0 (length st.nodes) d.1 in
      absurd (omega arith)
  ending_made k (grown x kids) st xs ps h e =
      let q = sym (built_at (root_done st) st.nodes xs st.pieces ps k e).1 in
      record {
        new = [];
        nodes = q ∙ sym (append-nil st.nodes);
        root = x;
        kids = kids;
        tree = refl;
        whole = record { sound = h.1.sound; order = q ∙ h.1.order };
        shaped = tt;
      }

  -- ---- the run

  after_step : (m : Effect) (ms : List Effect) (g : Progress) (st n : State) (xs : List Node) → (v : Advance m g st n) → Made ms v.next n.nodes xs → Made (m ∷ ms) g st.nodes xs
  after_step m ms g st n xs v r =
      record {
        new = v.new ++ r.new;
        nodes = r.nodes ∙ ap (λ (z : List Node). z ++ r.new) v.nodes ∙ append_assoc st.nodes v.new r.new;
        root = r.root;
        kids = r.kids;
        tree = v.onward ms r.new ∙ r.tree;
        whole = r.whole;
        shaped = v.shaped ms r.new r.shaped;
      }

  -- what the events from i on do, where one stands there, and where none does
  effects_on : (f i : ℕ) → i < length events → effects_from events (suc f) i ≡ effect_of (read_event events i) ∷ effects_from events f (next_place (read_event events i))
  unfolding effects_from
  effects_on f i l = rw (lt-ltb i (length events) l)

  effects_end : (f i : ℕ) → length events ≤ i → effects_from events f i ≡ []
  unfolding effects_from
  effects_end zero i l = refl
  effects_end (suc f) i l = rw (le-ltb i (length events) l)

  no_effects : (i : ℕ) → effects_from events zero i ≡ []
  unfolding effects_from
  no_effects i = refl

  run_none : (i k : ℕ) (st : State) → run text events room piece_room zero i k st ≡ ending k st
  unfolding run
  run_none i k st = refl

  run-next :
      (f i k : ℕ) (st n : State) → i < length events → on_read text events room piece_room (read_event events i) st ≡ go n →
      run text events room piece_room (suc f) i k st ≡ run text events room piece_room f (next_place (read_event events i)) (k + 1) n
  unfolding run
  run-next f i k st n l e = rw (lt-ltb i (length events) l, e)

  run-made :
      (f i k : ℕ) (g : Progress) (st : State) (xs : List Node) (ps : List Piece) → Kept g st.opens st.nodes →
      run text events room piece_room f i k st ≡ built xs ps → Made (effects_from events f i) g st.nodes xs
  run-made zero i k g st xs ps h e = rw (no_effects i) (ending_made k g st xs ps h (sym (run_none i k st) ∙ e))
  run-made (suc f) i k g st xs ps h e = by (dec_lt i (length events)) (λ n. run-made f (next_place (read_event events i)) (k + 1) n.0 n.1 xs ps)
    where
      Rest : Type 0
      Rest =
          (n : Progress × State) → Kept n.0 n.1.opens n.1.nodes → run text events room piece_room f (next_place (read_event events i)) (k + 1) n.1 ≡ built xs ps →
          Made (effects_from events f (next_place (read_event events i))) n.0 n.1.nodes xs

      onward : i < length events → Rest → (n : Next) → on_read text events room piece_room (read_event events i) st ≡ n → Made (effects_from events (suc f) i) g st.nodes xs
      onward l rest (stop m) q = absurd (refused_not_built m k xs ps (sym (run_stopped text events room piece_room (suc f) i k m st (omega arith) l q) ∙ e))
      onward l rest (go n) q =
          let v = step_kept (read_event events i) g st n h q in
          let r = after_step (effect_of (read_event events i)) _ g st n xs v (rest (v.next, n) v.kept (sym (run-next f i k st n l q) ∙ e)) in
          subst (λ (ms : List Effect). Made ms g st.nodes xs) (sym (effects_on f i l)) r

      by : Dec (i < length events) → Rest → Made (effects_from events (suc f) i) g st.nodes xs
      by (yes l) rest = onward l rest (on_read text events room piece_room (read_event events i) st) refl
      by (no l) rest = rw (effects_end (suc f) i (omega arith)) (ending_made k g st xs ps h (sym (run_ended text events room piece_room (suc f) i k st (omega arith)) ∙ e))

-- ---- the call

admitted-built : (a : Result Bool TextError) (o : Outcome) (xs : List Node) (ps : List Piece) → admitted a o ≡ built xs ps → o ≡ built xs ps
admitted-built (Ok ascii) o xs ps e = e
admitted-built (Err x) o xs ps e = absurd (refused_not_built (error_number x) 0 xs ps e)

limited_built : (t : Bool) (o : Outcome) (xs : List Node) (ps : List Piece) → cond t (refused 1 0) o ≡ built xs ps → (t ≡ false) × (o ≡ built xs ps)
limited_built true o xs ps e = absurd (refused_not_built 1 0 xs ps e)
limited_built false o xs ps e = (refl, e)

-- a parent changes no shape
shaped_parented : (n : ℕ) (ss : List Shape) (xs : List Node) → Shaped ss xs → Shaped ss (parented n xs)
unfolding parented
shaped_parented n [] [] h = tt
shaped_parented n [] (x ∷ xs) h = absurd h
shaped_parented n (s ∷ ss) [] h = absurd h
shaped_parented n (s ∷ ss) (x ∷ xs) (a, h) = (same_shape s (or_absent (holder (n + 1) 1 xs)) a, shaped_parented (n + 1) ss xs h)
  where
    same_shape : (s : Shape) (p : ℕ) → HasShape s x → HasShape s (with_parent x p)
    same_shape scalar p a = a
    same_shape alias p a = a
    same_shape array p a = a
    same_shape hash p a = a

-- no more nodes than events, which are no more than their bytes

shapes_few : (ms : List Effect) → length (shapes ms) ≤ length ms
shapes_few [] = omega arith
shapes_few (opening ∷ ms) = let l = shapes_few ms in omega arith
shapes_few (closing s ∷ ms) = let l = shapes_few ms in omega arith
shapes_few (leaf s ∷ ms) = let l = shapes_few ms in omega arith
shapes_few (faulty ∷ ms) = zero-le

effects_few : (events : List ℕ) (f i : ℕ) → length (effects_from events f i) ≤ f
unfolding effects_from
effects_few events zero i = zero-le
effects_few events (suc f) i = by (ltb i (length events)) (effects_few events f (next_place (read_event events i)))
  where
    by : (t : Bool) → length (effects_from events f (next_place (read_event events i))) ≤ f
        → length (cond t (effect_of (read_event events i) ∷ effects_from events f (next_place (read_event events i))) []) ≤ suc f
    by true l = omega arith
    by false l = zero-le

pub completions_few : (events : List ℕ) → length (completions events) ≤ length events
completions_few events =
    let a = shapes_few (effects_from events (length events) 0) in
    let b = effects_few events (length events) 0 in
    omega arith

-- a call that built: its events are within the limit, and its nodes are those of the run with their parents
pub built_run :
    (text events : List ℕ) (size piece_size : ℕ) (xs : List Node) (ps : List Piece) → building text events size piece_size ≡ built xs ps →
    (length events ≤ events_limit) × (ys : List Node) × (run_all text events (record_room size) (piece_room piece_size) ≡ built ys ps) × (parented 0 ys ≡ xs)
unfolding building
built_run text events size piece_size xs ps e =
    let l = limited_built (ltb events_limit (length events)) _ xs ps e in
    let p = parents_built _ xs ps (admitted-built (admission text) _ xs ps l.1) in
    (ltb-false events_limit (length events) l.0, p.0, p.1, p.2)

pub built_tree : EveryBuiltTree
unfolding run_all
built_tree text events size piece_size xs ps e =
    let r = built_run text events size piece_size xs ps e in
    let m = run-made text events (record_room size) (piece_room piece_size) (length events) 0 0 (growing []) empty r.1 ps refl r.2 in
    let whole = snoc nil m.root m.kids in
    let tree : tree_of events (post_order whole) ≡ whole ∷ [] = ap (λ (zs : List Node). tree_of events zs) (sym m.whole.order ∙ m.nodes) ∙ m.tree in
    let nodes : xs ≡ parented 0 (post_order whole) = sym r.3 ∙ ap (parented 0) m.whole.order in
    record {
      root = with_parent m.root absent;
      kids = under_parent (0 + nodes_in nil) (last_root 0 whole) m.kids;
      tree = ap (λ (zs : List Node). tree_of events zs) nodes ∙ parented_tree (effects events) whole m.whole.sound tree;
      order = nodes ∙ parented_nodes whole m.whole.sound;
      sound = sound_under 0 absent whole m.whole.sound;
      shaped = subst (Shaped (completions events)) r.3 (shaped_parented 0 (completions events) r.1 (subst (Shaped (completions events)) (sym m.nodes) m.shaped));
    }
