-- What the code does to its stack and buffers is what the machine does to its state, on plain values.
use mathlib.Core.Path.{◌≡◌, refl, sym, ap, subst, ◌∙◌}
use mathlib.Core.Bool.{true}
use mathlib.Core.List.{List, [], ◌∷◌, ◌++◌, append_assoc, append-nil}
use Prim.Native.Nat.{ℕ, ◌+◌, ◌-◌, ◌*◌, ◌/◌, ◌≤◌, ◌<◌}
use native.Mathlib.Omega.{arith}
use borrow.Author.Tests.{lt-ltb, le-ltb, le-leb, lt-leb}
use lib.Dec.{leb}
use lib.ListN.{length, take, replicate, length-append}
use Rattle.utf8.specs.Utf8.{Utf8}
use Rattle.utf8.specs.Boundary.{Boundary}
use Rattle.text.specs.Offset.{byte_offset, cursor_at, Stands}
use Rattle.text.proofs.OffsetLaws.{cursor_stands}
use Rattle.text.specs.declared.offset.Cursor.{Cursor}
use Rattle.provenance.specs.Reading.{Piece}
use Rattle.provenance.specs.Layout.{room, laid_pieces, answer_of, buffer_of}
use Rattle.provenance.specs.declared.walk.Walked.{Walked}
use Rattle.provenance.specs.declared.walk.Walked.TheVariants.{Listed, NoRoom, NoList}
use Rattle.event.specs.declared.tag.YamlTag.{YamlTag}
use Rattle.records.specs.Record.{record_width, with_list}
use Rattle.records.specs.Parent.{parented}
use Rattle.records.specs.Forest.{Forest, nil, snoc, post_order, nodes_in}
use Rattle.records.specs.Adopt.{adopted, Chain, Sized}
use Rattle.records.proofs.AdoptLaws.{chain_behind, completed_laid}
use Rattle.spans.specs.Scalar.{ScalarAt, scalar_over, event_node}
use Rattle.spans.specs.Collection.{with_child, closes, collection_over, collection_node}
use Rattle.parser.specs.Machine.{State, Next, go, stop, depth_limit, root_done, before_root, within_depth, within_room, completed, opening, on_start, ended, on_end, keeping}
use Rattle.records.specs.Layout.{laid_nodes, stored, record_room, piece_limit}
use Rattle.parser.specs.Opens.{Below, OnBoundaries}
use Rattle.parser.specs.Held.{gate, is_root_done, Held, Nest, Nested, Rooted, Leaf, Moved, Counted}
use Rattle.records.specs.declared.record.Node.{Node}
use Rattle.spans.specs.declared.open.Collection.{Collection}
use Rattle.spans.specs.declared.open.Open.{Open}
use Rattle.parser.specs.declared.on_event.Builder.{Builder}
use Rattle.std.specs.Prelude.{Option, Result, Ok, Err, IsErrAnd, Some, None, IfSome}
use Rattle.parser.proofs.Pieces.{Walks, walks_of, back_zero, back_with}
use Rattle.parser.proofs.Opens.{below_more, boundaries_more}
use Rattle.parser.specs.declared.answer.Refusal.{Refusal}
use Rattle.parser.specs.declared.answer.Refusal.TheVariants.{AfterRoot, NoRecordRoom}
use Rattle.parser.proofs.Gates.{gate_shut, gate_open, handed_on}
use Rattle.parser.proofs.Starts.{cursor_offset, cursor_boundary}

abbrev pub builder : ℕ → ℕ → Cursor → List Open → Builder
builder nodes used cursor stack = record { nodes = nodes; used = used; cursor = cursor; stack = stack }

-- ---- trees

-- a node without children is a tree of its own
pub leaf_rooted : (x : Node) (st : State) → Leaf x → Nested st → Rooted x 0 st
unfolding post_order Sized
leaf_rooted x st l t =
    record {
      outer = st.nodes;
      nest = t;
      kids = nil;
      order = sym (append-nil st.nodes);
      sized = tt;
      children = refl;
      count = l.count;
      parent = l.parent;
    }

pub event_node_leaf : (text events : List ℕ) (x : ScalarAt) (tag : Option YamlTag) → Leaf (event_node text events x tag)
unfolding event_node scalar_over
event_node_leaf text events x tag = record { count = refl; parent = refl }

pub list_leaf : (x : Node) (i n : ℕ) → Leaf x → Leaf (with_list x i n)
list_leaf x i n l = record { count = l.count; parent = l.parent }

nest_more : (x : Node) (i : ℕ) (os : List Open) (outer xs : List Node) (kids : Forest) → Nest os outer → Sized kids → x.subtree ≡ nodes_in kids + 1
    → xs ≡ outer ++ post_order kids → Nest (with_child i os) (xs ++ (x ∷ []))
unfolding post_order Sized
nest_more x i [] outer xs kids t s n e = tt
nest_more x i (o ∷ os) outer xs kids (more, t, l) s n e =
    let k = l.children in (
      more,
      t,
      record {
        kids = snoc l.kids x kids;
        order =
            ap (λ (z : List Node). z ++ (x ∷ [])) (e ∙ ap (λ (z : List Node). z ++ post_order kids) l.order)
            ∙ regroup more (post_order l.kids) (post_order kids);
        sized = (l.sized, s, n);
        before = l.before;
        children = omega arith;
      },
    )
  where
    regroup : (a b c : List Node) → ((a ++ b) ++ c) ++ (x ∷ []) ≡ a ++ (b ++ (c ++ (x ∷ [])))
    regroup a b c = simp append_assoc

pub completed_nested : (x : Node) (k : ℕ) (st : State) → Rooted x k st → Nested (completed x st)
unfolding completed
completed_nested x k st r = nest_more x x.extent.start st.opens r.outer st.nodes r.kids r.nest r.sized r.count r.order

module _ {text : List ℕ} {size pieces_size : ℕ} {st : State} {c : Builder} {b p : List ℕ} (h : Held text size pieces_size st c b p) where
  -- ---- rows: where a gate was shut, and where it was open

  pub root_is : root_done st ≡ is_root_done c
  unfolding root_done
  root_is = rw (h.opens_are, h.nodes_are)

  pub root_refused : (n : Next) (x : Refusal) (r : Result (Unit {0}) Refusal) → gate (is_root_done c) AfterRoot ≡ Err x → IsErrAnd r (λ y. y ≡ x)
      → (b' : Builder) (records' pieces' : List ℕ) → Moved text size pieces_size c.nodes (before_root st n) r b' records' pieces'
  unfolding before_root
  root_refused n x r shut on b' records' pieces' =
      let is = gate_shut _ _ _ shut in
      rw (root_is, is.0, handed_on _ _ _ on is.1) refl

  pub past_root : (n : Next) (u : Unit {0}) → gate (is_root_done c) AfterRoot ≡ Ok u → before_root st n ≡ n
  unfolding before_root
  past_root n u e = rw (root_is, gate_open _ _ _ e)

  pub room_refused : (n : Next) (x : Refusal) (r : Result (Unit {0}) Refusal) → gate (leb (length b / record_width) c.nodes) NoRecordRoom ≡ Err x → IsErrAnd r (λ y. y ≡ x)
      → (b' : Builder) (records' pieces' : List ℕ) → Moved text size pieces_size c.nodes (within_room (record_room size) st n) r b' records' pieces'
  unfolding within_room
  room_refused n x r shut on b' records' pieces' =
      let is = gate_shut _ _ _ shut in
      rw (h.nodes_are, ← h.size_is, is.0, handed_on _ _ _ on is.1) refl

  pub in_room : (n : Next) (u : Unit {0}) → gate (leb (length b / record_width) c.nodes) NoRecordRoom ≡ Ok u → within_room (record_room size) st n ≡ n
  unfolding within_room
  in_room n u e = rw (h.nodes_are, ← h.size_is, gate_open _ _ _ e)

  pub too_deep : (n : Next) → depth_limit ≤ length c.stack → within_depth st n ≡ stop 6
  unfolding within_depth
  too_deep n l = rw (h.opens_are, le-leb depth_limit (length c.stack) l)

  pub not_deep : (n : Next) → length c.stack < depth_limit → within_depth st n ≡ n
  unfolding within_depth
  not_deep n l = rw (h.opens_are, lt-leb depth_limit (length c.stack) l)

  -- ---- the cursor moves

  pub moved_cursor : (cur : Cursor) → Stands text cur.chars cur.offset → Held text size pieces_size st (builder c.nodes c.used cur c.stack) b p
  moved_cursor cur on = record { records_held = h.records_held; pieces_held = h.pieces_held; opens_held = h.opens_held; cursor_stands = on }

  -- ---- a node is complete

  rooted_place : (x : Node) (k : ℕ) (r : Rooted x k st) → c.nodes ≡ length r.outer + nodes_in r.kids
  rooted_place x k r = sym h.nodes_are ∙ ap length r.order ∙ length-append r.outer (post_order r.kids)

  -- its children's counts lead from one to the next
  pub rooted_chain : (x : Node) (k : ℕ) → Rooted x k st → c.nodes ≤ record_room size → Chain b k c.nodes
  rooted_chain x k r l =
      let is = h.size_is in
      chain_behind size r.outer r.kids r.sized c.nodes k (rooted_place x k r) r.children b
      (h.records_hold ∙ ap (λ (xs : List Node). laid_nodes size (parented 0 xs)) r.order) (omega arith)

  pub pushed : (x : Node) (k : ℕ) (b₁ b' : List ℕ) → c.nodes < record_room size → Boundary text x.extent.start → Rooted x k st → length b' ≡ length b
      → b₁ ≡ adopted b c.nodes k c.nodes → b' ≡ stored b₁ c.nodes x
      → Held text size pieces_size (completed x st) (builder (c.nodes + 1) c.used c.cursor (with_child x.extent.start c.stack)) b' p
  unfolding completed
  pushed x k b₁ b' l on r lb ea eb =
      record {
        records_held = record {
          size_is = lb ∙ h.size_is;
          nodes_are = length-append st.nodes (x ∷ []) ∙ ap (λ (n : ℕ). n + 1) h.nodes_are;
          records_hold =
              eb
              ∙ ap (λ (z : List ℕ). stored z c.nodes x)
              (ea ∙ ap (λ (z : List ℕ). adopted z c.nodes k c.nodes) (h.records_hold ∙ ap (λ (xs : List Node). laid_nodes size (parented 0 xs)) r.order))
              ∙ completed_laid size r.outer r.kids r.sized c.nodes k (rooted_place x k r) r.children x r.count r.parent (omega arith)
              ∙ ap (λ (xs : List Node). laid_nodes size (parented 0 (xs ++ (x ∷ [])))) (sym r.order);
          records_fit = omega arith;
        };
        pieces_held = h.pieces_held;
        opens_held = record {
          opens_are = ap (with_child x.extent.start) h.opens_are;
          below = below_more x.extent.start c.stack c.nodes h.below;
          on_boundaries = boundaries_more text x.extent.start c.stack on h.on_boundaries;
        };
        cursor_stands = h.cursor_stands;
      }

  -- which is one node more
  pub moved_on : (x : Node) (c' : Builder) (b' p' : List ℕ) → Held text size pieces_size (completed x st) c' b' p' × Nested (completed x st)
      → Held text size pieces_size (completed x st) c' b' p' × Nested (completed x st) × (c'.nodes ≤ c.nodes + 1)
  unfolding completed
  moved_on x c' b' p' (g, t) =
      let n : length st.nodes + 1 ≡ c'.nodes = sym (length-append st.nodes (x ∷ [])) ∙ g.nodes_are in
      let m = h.nodes_are in
      (g, t, omega arith)

  -- ---- a collection starts

  pub opened : (collection : Collection) (index : ℕ) (tag : Option YamlTag) (cur : Cursor) (v : Unit {0}) → Utf8 text → cur ≡ cursor_at text index
      → gate (is_root_done c) AfterRoot ≡ Ok v → length c.stack < depth_limit → Nested st
      → Moved text size pieces_size c.nodes (on_start text collection index tag st) (Ok (tt {0})) (builder c.nodes c.used cur (opening collection cur.offset tag c.nodes ∷ c.stack)) b p
  unfolding on_start post_order Sized
  opened collection index tag cur v u e g l t =
      let o : cur.offset ≡ byte_offset text index = cursor_offset text index cur e in
      rw (past_root _ _ g, not_deep _ l) (
        record {
          records_held = h.records_held;
          pieces_held = h.pieces_held;
          opens_held = record {
            opens_are = rw (← o, h.nodes_are, h.opens_are) refl;
            below = (omega arith, h.below);
            on_boundaries = (cursor_boundary u index cur e, tt, h.on_boundaries);
          };
          cursor_stands = rw e (cursor_stands text index);
        },
        (st.nodes, t, record { kids = nil; order = sym (append-nil st.nodes); sized = tt; before = refl; children = refl }),
        omega arith,
      )

  -- ---- a collection ends

  module _ (inner : Open) (os : List Open) (is : c.stack ≡ inner ∷ os) where
    abbrev pub outside : State
    outside = record { nodes = st.nodes; opens = os; pieces = st.pieces }

    pub matched : (room index : ℕ) (collection : Collection) → closes collection inner ≡ true
        → on_end text room collection index st.opens st ≡ within_room room st (go (completed (collection_node text inner (byte_offset text index) c.nodes) outside))
    unfolding ended
    matched room index collection e = rw (h.opens_are, is, e, h.nodes_are)

    pub inner_below : (inner.before + inner.children ≤ c.nodes) × Below os c.nodes
    inner_below = rw is at h.below

    pub inner_on : Boundary text inner.start × IfSome inner.first (λ first. Boundary text first) × OnBoundaries text os
    inner_on = rw is at h.on_boundaries

    -- the node of the innermost collection is the root of the trees since it was opened
    pub inner_rooted : (i : ℕ) → Nested st → Rooted (collection_node text inner i c.nodes) inner.children outside
    unfolding collection_node collection_over
    inner_rooted i t =
        let nest : Nest (inner ∷ os) st.nodes = subst (λ (z : List Open). Nest z st.nodes) (h.opens_are ∙ is) t in
        let l = nest.2 in
        let n : c.nodes ≡ length nest.0 + nodes_in l.kids = sym h.nodes_are ∙ ap length l.order ∙ length-append nest.0 (post_order l.kids) in
        let before = l.before in
        record {
          outer = nest.0;
          nest = nest.1;
          kids = l.kids;
          order = l.order;
          sized = l.sized;
          children = l.children;
          count = omega arith;
          parent = refl;
        }

    -- the innermost collection is taken off, and the cursor moves
    pub popped : (cur : Cursor) → Stands text cur.chars cur.offset → Held text size pieces_size outside (builder c.nodes c.used cur os) b p
    popped cur on =
        record {
          records_held = h.records_held;
          pieces_held = h.pieces_held;
          opens_held = record { opens_are = refl; below = inner_below.1; on_boundaries = inner_on.2 };
          cursor_stands = on;
        }

  -- ---- a scalar's walk in the free part of the pieces

  -- what the walk left there
  module _ (y : List ℕ) (len : length y ≡ pieces_size - 4 * c.used) where
    pub walk_no_room : (x : Node) (o : Option (List Piece)) → Walks (length y) o NoRoom y → keeping (pieces_size / 4) x o st ≡ stop 8
    unfolding keeping
    walk_no_room x None w = absurd w
    walk_no_room x (Some ps) w =
        let l = w.0 in
        let f = h.pieces_fit in
        rw (h.pieces_are, lt-ltb (pieces_size / 4) (c.used + length ps) (omega arith))

    -- the buffer is as it was, and the node has no list
    pub walk_no_list : (x : Node) (o : Option (List Piece)) → Walks (length y) o NoList y
        → (keeping (pieces_size / 4) x o st ≡ go (completed x st)) × (take (4 * c.used) p ++ y ≡ p)
    unfolding keeping
    walk_no_list x None w =
        (refl, back_zero h.pieces_held y (w ∙ ap (λ (n : ℕ). replicate n 0) len))
    walk_no_list x (Some ps) w = absurd w

    -- n pieces more
    pub record Listing (x : Node) (o : Option (List Piece)) (n : ℕ) : Type 0 where
      pub with_pieces : State
      pub nested : Nested st → Nested with_pieces
      pub held : Held text size pieces_size with_pieces (builder c.nodes (c.used + n) c.cursor c.stack) b (take (4 * c.used) p ++ y)
      pub kept : keeping (pieces_size / 4) x o st ≡ go (completed (with_list x c.used n) with_pieces)
      pub fits : c.used + n ≤ piece_limit

    pub walk_listed : (x : Node) (o : Option (List Piece)) (n : ℕ) → Walks (length y) o (Listed n) y → Listing x o n
    unfolding keeping
    walk_listed x None n w = absurd w
    walk_listed x (Some ps) n w =
        let a : n ≡ length ps = w.0 in
        let more = back_with h.pieces_held ps y (w.1 ∙ ap (λ (m : ℕ). laid_pieces m ps) len) len in
        let fit = more.pieces_fit in
        let few = h.pieces_few in
        record {
          with_pieces = record { nodes = st.nodes; opens = st.opens; pieces = st.pieces ++ ps };
          nested = λ t. t;
          held = record { records_held = h.records_held; pieces_held = rw a more; opens_held = h.opens_held; cursor_stands = h.cursor_stands };
          kept = rw (h.pieces_are, ← a, le-ltb (pieces_size / 4) (c.used + n) (omega arith)) refl;
          fits = omega arith;
        }

    -- so what is listed can be counted
    pub walk_counted : (x : Node) (o : Option (List Piece)) (w : Walked) → w ≡ answer_of (room (length y)) o → y ≡ buffer_of (length y) o → Counted c.used w
    walk_counted x o NoRoom e f = tt
    walk_counted x o NoList e f = tt
    walk_counted x o (Listed n) e f = (walk_listed x o n (walks_of (length y) o (Listed n) y e f)).fits
