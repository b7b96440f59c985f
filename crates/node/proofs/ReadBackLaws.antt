-- On a buffer that `build` filled, the accessors give back the tree of the events (N2, N3): `read_back`.
use mathlib.Core.Path.{◌≡◌, refl, sym, ap, subst, ◌∙◌}
use mathlib.Core.Bool.{Bool, true, false}
use mathlib.Core.Logic.{◌⊎◌, inl, inr}
use mathlib.Core.List.{List, [], ◌∷◌, ◌++◌, append_assoc, append-nil}
use Rattle.std.specs.Prelude.{None, Option, Some, if◌then◌else◌, option_map, slice_get}
use Rattle.std.proofs.lemmas.Option.{none-some, same_Some}
use Prim.Native.Nat.{ℕ, zero, suc, ◌+◌, ◌-◌, ◌*◌, ◌<◌, ◌≤◌}
use native.Mathlib.Decide.{dec_lt}
use native.Mathlib.Omega.{arith}
use borrow.Author.Tests.{lt-ltb, le-leb, eqb-true}
use lib.Dec.{eqb}
use lib.ListN.{length, length-append}
use Rattle.records.specs.Record.{absent}
use Rattle.records.specs.Layout.{laid_nodes}
use Rattle.records.specs.Parent.{parented}
use Rattle.records.proofs.ParentLaws.{order_length, under_parent}
use Rattle.records.specs.declared.record.Node.{Node}
use Rattle.node.specs.Chain.{◌>>=◌}
use Rattle.node.proofs.Answers.{members_of, item_members, entry-members}
use Rattle.node.proofs.Members.{member_left, member_right, member_past, member_within, member_some}
use Rattle.node.specs.Source.{is_measured_at}
use Rattle.node.specs.Record.{is_kind, existing, record_at}
use Rattle.node.specs.RecordLaws.{record_laid}
use Rattle.node.specs.Child.{place_at, record_before, array_item, parent_at}
use Rattle.node.specs.Entry.{hash_entry}
use Rattle.node.specs.declared.entry.YamlHashEntry.{YamlHashEntry}
use Rattle.records.specs.Forest.{Forest, nil, snoc, post_order, nodes_in, last_root, trees}
use Rattle.node.specs.Forest.{roots, pairs_of, Has}
use Rattle.node.proofs.ForestLaws as forest
use Rattle.node.proofs.SearchLaws as search
use Rattle.node.proofs.Parents.{Parent, parents, parents-length, at_last, roots_parent, child-parent, parent_child, parents_in, parents_said, parented_again}
use Rattle.node.specs.Growth.{Shape, scalar, alias, array, hash, completions, HasShape}
use Rattle.node.specs.Built.{Tree, SoundForest, Shaped}
use Rattle.node.proofs.Alike.{parented_nodes}
use Rattle.node.proofs.GrowthLaws.{completions_few, built_run, built_tree}
use Rattle.node.specs.ReadBack.{IsChild, NodeReadBack, ReadBack, EveryTreeReadBack}

-- ---- a tree's place among the nodes

-- the tree of x with its children in the nodes xs, s of them before it
record TreeAmong (xs : List Node) (s : ℕ) (x : Node) (kids : Forest) : Type 0 where
  pre : List Node
  suf : List Node
  here : xs ≡ pre ++ (post_order kids ++ (x ∷ suf))
  before : s ≡ length pre
  sound : SoundForest kids
  root : Tree x kids

tree_among : (f : Forest) (front back : List Node) (s : ℕ) (x : Node) (kids : Forest) → SoundForest f → Has f (length front) s x kids → TreeAmong (front ++ (post_order f ++ back)) s x kids
unfolding Has SoundForest post_order
tree_among nil front back s x kids c h = absurd h
tree_among (snoc f y others) front back s x kids c (inl h) =
    let e : front ++ (post_order f ++ ((post_order others ++ (y ∷ [])) ++ back)) ≡ front ++ (post_order (snoc f y others) ++ back) = simp append_assoc in
    subst (λ (l : List Node). TreeAmong l s x kids) e (tree_among f front ((post_order others ++ (y ∷ [])) ++ back) s x kids c.0 h)
tree_among (snoc f y others) front back s x kids c (inr (inl h)) =
    let e : (front ++ post_order f) ++ (post_order others ++ ((y ∷ []) ++ back)) ≡ front ++ (post_order (snoc f y others) ++ back) = simp append_assoc in
    let n : length front + nodes_in f ≡ length (front ++ post_order f) = sym (length-append front (post_order f)) in
    subst (λ (l : List Node). TreeAmong l s x kids) e (tree_among others (front ++ post_order f) ((y ∷ []) ++ back) s x kids c.1 (subst (λ (m : ℕ). Has others m s x kids) n h))
tree_among (snoc f y others) front back s x kids c (inr (inr (a, b, d))) =
    let e : front ++ (post_order (snoc f y others) ++ back) ≡ (front ++ post_order f) ++ (post_order others ++ (y ∷ back)) = simp append_assoc in
    let n : length (front ++ post_order f) ≡ length front + nodes_in f = length-append front (post_order f) in
    rw (b, d) (record { pre = front ++ post_order f; suf = back; here = e; before = a ∙ sym n; sound = c.1; root = c.2 })

-- every number is that of a tree's root
pub located : (f : Forest) (p n : ℕ) → n < nodes_in f → (s : ℕ) × (x : Node) × (kids : Forest) × Has f p s x kids × (p + n ≡ s + nodes_in kids)
unfolding Has post_order
located nil p n h = absurd (omega arith)
located (snoc f y others) p n h = by (dec_lt n (nodes_in f)) (dec_lt n (nodes_in f + nodes_in others)) (located f p n) (located others (p + nodes_in f) (n - nodes_in f))
  where
    Found : Forest → ℕ → ℕ → Type 0
    Found g q m = (s : ℕ) × (x : Node) × (kids : Forest) × Has g q s x kids × (q + m ≡ s + nodes_in kids)

    by :
        Dec (n < nodes_in f) → Dec (n < nodes_in f + nodes_in others) → (n < nodes_in f → Found f p n) →
        (n - nodes_in f < nodes_in others → Found others (p + nodes_in f) (n - nodes_in f)) → Found (snoc f y others) p n
    by (yes l) d front next = let w = front l in (w.0, w.1, w.2, inl w.3, w.4)
    by (no l) (yes d) front next = let w = next (omega arith) in let e = w.4 in (w.0, w.1, w.2, inr (inl w.3), omega arith)
    by (no l) (no d) front next = let o = order_length f y others in (p + nodes_in f, y, others, inr (inr (refl, refl, refl)), omega arith)

-- ---- keys and values are roots

-- the roots two by two: a pair's key and value are among them
pair-roots :
    (p : ℕ) (f : Forest) (i : ℕ) (e : YamlHashEntry) → slice_get (pairs_of p f) i ≡ Some e →
    ((j : ℕ) × (slice_get (roots p f) j ≡ Some e.key)) × ((j : ℕ) × (slice_get (roots p f) j ≡ Some e.value))
pair-roots p nil i e q = absurd (let h = member_within (pairs_of p nil) i e q in omega arith)
pair-roots p (snoc nil x kids) i e q = absurd (let h = member_within (pairs_of p (snoc nil x kids)) i e q in omega arith)
pair-roots p (snoc (snoc f y others) x kids) i e q = by (dec_lt i (length (pairs_of p f))) (pair-roots p f i e)
  where
    whole : Forest
    whole = snoc (snoc f y others) x kids

    In : Forest → ℕ → Type 0
    In g r = (j : ℕ) × (slice_get (roots p g) j ≡ Some r)

    further : (r : ℕ) → In f r → In whole r
    further r (j, h) =
        let w = member_within (roots p f) j r h in
        let m = length-append (roots p f) (last_root p (snoc f y others) ∷ []) in
        (j, member_left (roots p (snoc f y others)) _ j (omega arith) ∙ member_left (roots p f) _ j w ∙ h)

    by : Dec (i < length (pairs_of p f)) → (slice_get (pairs_of p f) i ≡ Some e → In f e.key × In f e.value) → In whole e.key × In whole e.value
    by (yes l) before =
        let w = before (sym (member_left (pairs_of p f) _ i l) ∙ q) in
        (further e.key w.0, further e.value w.1)
    by (no l) before =
        let last = forest.last_entry p f y others x kids in
        let n = member_within (pairs_of p whole) i e q in
        let m = length-append (pairs_of p f) (last ∷ []) in
        let here : i ≡ length (pairs_of p f) + 0 = omega arith in
        let z = same_Some e last (sym q ∙ ap (slice_get (pairs_of p whole)) here ∙ member_right (pairs_of p f) (last ∷ []) 0) in
        let k = member_right (roots p f) (last_root p (snoc f y others) ∷ []) 0 in
        let a = length-append (roots p f) (last_root p (snoc f y others) ∷ []) in (
          (length (roots p f) + 0, member_left (roots p (snoc f y others)) _ (length (roots p f) + 0) (omega arith) ∙ k ∙ ap (λ (d : YamlHashEntry). Some d.key) (sym z)),
          (length (roots p (snoc f y others)) + 0, member_right (roots p (snoc f y others)) (last_root p whole ∷ []) 0 ∙ ap (λ (d : YamlHashEntry). Some d.value) (sym z)),
        )

-- a tree of the forest ends within it
has_inside : (f : Forest) (p s : ℕ) (x : Node) (kids : Forest) → Has f p s x kids → s + nodes_in kids < p + nodes_in f
unfolding Has
has_inside nil p s x kids h = absurd h
has_inside (snoc f y others) p s x kids (inl h) = let l = has_inside f p s x kids h in let n = order_length f y others in omega arith
has_inside (snoc f y others) p s x kids (inr (inl h)) = let l = has_inside others (p + nodes_in f) s x kids h in let n = order_length f y others in omega arith
has_inside (snoc f y others) p s x kids (inr (inr (a, b, c))) = let n = order_length f y others in let e = ap nodes_in c in omega arith

-- and of an even number of roots each is a pair's key or value
root-pairs :
    (p m : ℕ) (f : Forest) (i r : ℕ) → trees f ≡ 2 * m → slice_get (roots p f) i ≡ Some r →
    (j : ℕ) × (e : YamlHashEntry) × (slice_get (pairs_of p f) j ≡ Some e) × ((e.key ≡ r) ⊎ (e.value ≡ r))
root-pairs p m nil i r t q = absurd (let h = member_within (roots p nil) i r q in omega arith)
root-pairs p m (snoc nil x kids) i r t q = absurd (omega arith)
root-pairs p m (snoc (snoc f y others) x kids) i r t q =
    by (dec_lt i (length (roots p f))) (dec_lt i (length (roots p (snoc f y others)))) (root-pairs p (m - 1) f i r (omega arith))
  where
    whole : Forest
    whole = snoc (snoc f y others) x kids

    last : YamlHashEntry
    last = forest.last_entry p f y others x kids

    Found : Forest → Type 0
    Found g = (j : ℕ) × (e : YamlHashEntry) × (slice_get (pairs_of p g) j ≡ Some e) × ((e.key ≡ r) ⊎ (e.value ≡ r))

    at_last_pair : slice_get (pairs_of p whole) (length (pairs_of p f) + 0) ≡ Some last
    at_last_pair = member_right (pairs_of p f) (last ∷ []) 0

    by : Dec (i < length (roots p f)) → Dec (i < length (roots p (snoc f y others))) → (slice_get (roots p f) i ≡ Some r → Found f) → Found whole
    by (yes l) d before =
        let a = length-append (roots p f) (last_root p (snoc f y others) ∷ []) in
        let w = before (sym (member_left (roots p (snoc f y others)) _ i (omega arith) ∙ member_left (roots p f) _ i l) ∙ q) in
        (w.0, w.1, member_left (pairs_of p f) _ w.0 (member_within (pairs_of p f) w.0 w.1 w.2) ∙ w.2, w.3)
    by (no l) (yes d) before =
        let k = last_root p (snoc f y others) in
        let a = length-append (roots p f) (k ∷ []) in
        let here : i ≡ length (roots p f) + 0 = omega arith in
        let z = same_Some k r (sym (member_right (roots p f) (k ∷ []) 0) ∙ ap (slice_get (roots p (snoc f y others))) (sym here) ∙ sym (member_left (roots p (snoc f y others)) _ i d) ∙ q) in
        (length (pairs_of p f) + 0, last, at_last_pair, inl z)
    by (no l) (no d) before =
        let v = last_root p whole in
        let n = member_within (roots p whole) i r q in
        let a = length-append (roots p (snoc f y others)) (v ∷ []) in
        let here : i ≡ length (roots p (snoc f y others)) + 0 = omega arith in
        let z = same_Some v r (sym (member_right (roots p (snoc f y others)) (v ∷ []) 0) ∙ ap (slice_get (roots p whole)) (sym here) ∙ q) in
        (length (pairs_of p f) + 0, last, at_last_pair, inr z)

-- ---- only a collection has children

-- where members led to an answer there is a collection of that kind
only_kind : {A : Type 0} (kind : ℕ) (g : ℕ → Option A) (a : A) (o : Option Node) → (members_of kind o >>= g) ≡ Some a → (y : Node) × (o ≡ Some y) × (y.kind ≡ kind)
only_kind kind g a None e = absurd (none-some a e)
only_kind kind g a (Some y) e = (y, refl, eqb-true y.kind kind (by (eqb y.kind kind) e))
  where
    by : (t : Bool) → ((if t then Some y.payload.first else None) >>= g) ≡ Some a → t ≡ true
    by true e = refl
    by false e = absurd (none-some a e)

-- a record stands within the nodes
record_within : (size : ℕ) (xs : List Node) (n : ℕ) (y : Node) → record_at (laid_nodes size xs) n ≡ Some y → n < length xs
record_within size xs n y e = by (dec_lt n (length xs))
  where
    by : Dec (n < length xs) → n < length xs
    by (yes l) = l
    by (no l) = absurd (none-some y (sym (record_laid size xs n ∙ ap (λ (o : Option Node). o >>= existing) (member_past xs n (omega arith))) ∙ e))

-- ---- nodes of these shapes

shape_is_kind : (s : Shape) (x : Node) → HasShape s x → is_kind x.kind ≡ true
shape_is_kind scalar x (a, b) = rw (le-leb 1 x.kind a, le-leb x.kind 8 (omega arith))
shape_is_kind alias x e = rw e.0 refl
shape_is_kind array x e = rw e.0 refl
shape_is_kind hash x e = rw e.0 refl

shaped_length : (ss : List Shape) (xs : List Node) → Shaped ss xs → length ss ≡ length xs
shaped_length [] [] h = refl
shaped_length [] (x ∷ xs) h = absurd h
shaped_length (s ∷ ss) [] h = absurd h
shaped_length (s ∷ ss) (x ∷ xs) (a, h) = ap suc (shaped_length ss xs h)

shaped_member : (ss : List Shape) (xs : List Node) → Shaped ss xs → (j : ℕ) (s : Shape) → slice_get ss j ≡ Some s → (y : Node) × (slice_get xs j ≡ Some y) × HasShape s y
shaped_member [] [] h j s e = absurd (none-some s e)
shaped_member [] (x ∷ xs) h j s e = absurd h
shaped_member (t ∷ ss) [] h j s e = absurd h
shaped_member (t ∷ ss) (x ∷ xs) (a, h) zero s e = (x, refl, subst (λ (z : Shape). HasShape z x) (same_Some t s e) a)
shaped_member (t ∷ ss) (x ∷ xs) (a, h) (suc j) s e = shaped_member ss xs h j s e

-- what the records of such nodes say of their parents
parents_read : (ss : List Shape) (xs : List Node) → Shaped ss xs → (c : ℕ)
    → option_map (λ (x : Node). x.parent) (slice_get xs c >>= existing) ≡ slice_get (parents_in xs) c
unfolding existing
parents_read [] [] h c = refl
parents_read [] (x ∷ xs) h c = absurd h
parents_read (s ∷ ss) [] h c = absurd h
parents_read (s ∷ ss) (x ∷ xs) (a, h) zero = rw (shape_is_kind s x a)
parents_read (s ∷ ss) (x ∷ xs) (a, h) (suc c) = parents_read ss xs h c

parent_read : (size : ℕ) (ss : List Shape) (xs : List Node) → Shaped ss xs → (c : ℕ) → parent_at (laid_nodes size xs) c ≡ slice_get (parents_in xs) c
unfolding parent_at
parent_read size ss xs h c = ap (option_map (λ (x : Node). x.parent)) (record_laid size xs c) ∙ parents_read ss xs h c

-- ---- over the nodes of a whole tree

module _ (size : ℕ) (events : List ℕ) (x : Node) (kids : Forest) (xs : List Node) (order : xs ≡ post_order (snoc nil x kids)) (sound : SoundForest (snoc nil x kids)) where
  tree : Forest
  tree = snoc nil x kids

  tree_nodes : nodes_in tree ≡ nodes_in kids + 1
  unfolding tree post_order
  tree_nodes = length-append (post_order kids) (x ∷ [])

  at : (s : ℕ) (y : Node) (others : Forest) → Has tree 0 s y others → TreeAmong xs s y others
  unfolding tree
  at s y others h =
      let e : post_order tree ++ [] ≡ xs = append-nil (post_order tree) ∙ sym order in
      subst (λ (l : List Node). TreeAmong l s y others) e (tree_among tree [] [] s y others sound h)

  -- a node whose tree stands among others
  among-read-back :
      (ys pre suf : List Node) (s : ℕ) (y : Node) (others : Forest) →
      ys ≡ pre ++ (post_order others ++ (y ∷ suf)) → s ≡ length pre → SoundForest others → Tree y others →
      NodeReadBack (laid_nodes size ys) events s (s + nodes_in others) y others
  among-read-back ys pre suf s y others here before c t =
      rw (here, before) (
      record {
        itself = forest.collection-record size pre suf others y t.kind;
        no_children = forest.no_children size pre suf others y t;
        item_count = forest.item_count size pre suf others y t;
        items = forest.items size pre suf others y c t;
        pair_count = forest.pair_count size pre suf others y t;
        pairs = forest.pairs size pre suf others y c t;
        values = λ eight key. search.values size pre events key suf others y c t eight;
        last_child_is = forest.last_child_is size pre suf others y c t;
        child_before_is = forest.child_before_is size pre (y ∷ suf) others c;
        before_first = forest.before_first size pre (y ∷ suf) others c;
      })

  nodes : (s : ℕ) (y : Node) (others : Forest) → Has tree 0 s y others → NodeReadBack (laid_nodes size xs) events s (s + nodes_in others) y others
  nodes s y others h = let p = at s y others h in among-read-back xs p.pre p.suf s y others p.here p.before p.sound p.root

  -- ---- kinds

  kinds : (ss : List Shape) → Shaped ss xs → (j : ℕ) (s : Shape) → slice_get ss j ≡ Some s → (y : Node) × (record_at (laid_nodes size xs) j ≡ Some y) × HasShape s y
  unfolding existing
  kinds ss h j s e =
      let f = shaped_member ss xs h j s e in
      let is : existing f.0 ≡ Some f.0 = rw (shape_is_kind s f.0 f.2) in
      (f.0, record_laid size xs j ∙ ap (λ (o : Option Node). o >>= existing) f.1 ∙ is, f.2)

  flags : (ss : List Shape) → Shaped ss xs → (j : ℕ) (s : Shape) → slice_get ss j ≡ Some s → (s ≡ scalar) ⊎ (is_measured_at (laid_nodes size xs) j ≡ Some 1)
  unfolding is_measured_at
  flags ss h j s e = let k = kinds ss h j s e in by s k.0 k.2 (ap (option_map (λ (y : Node). y.measured)) k.1)
    where
      by : (s : Shape) (y : Node) → HasShape s y → is_measured_at (laid_nodes size xs) j ≡ Some y.measured → (s ≡ scalar) ⊎ (is_measured_at (laid_nodes size xs) j ≡ Some 1)
      by scalar y a f = inl refl
      by alias y a f = inr (f ∙ ap Some a.1)
      by array y a f = inr (f ∙ ap Some a.1)
      by hash y a f = inr (f ∙ ap Some a.1)

  -- ---- children by the accessors and children in the tree

  root_child : (s : ℕ) (y : Node) (others : Forest) (i c : ℕ) → Has tree 0 s y others → slice_get (roots s others) i ≡ Some c → IsChild (laid_nodes size xs) (s + nodes_in others) c
  root_child s y others i c h e = by (dec_lt y.kind 7) (dec_lt y.kind 8) (at s y others h).root
    where
      by : Dec (y.kind < 7) → Dec (y.kind < 8) → Tree y others → IsChild (laid_nodes size xs) (s + nodes_in others) c
      by (yes a) d t =
          let l = member_within (roots s others) i c e in
          let r = forest.roots-length s others in
          let z = t.scalar a in
          absurd (omega arith)
      by (no a) (yes d) t = inl (i, (nodes s y others h).items (omega arith) i ∙ e)
      by (no a) (no d) t =
          let k = forest.kind_at_most y.kind t.kind in
          let eight : y.kind ≡ 8 = omega arith in
          let u = root-pairs s y.payload.first others i c (sym (t.hash eight)) e in
          inr (u.0, u.1, (nodes s y others h).pairs eight u.0 ∙ u.2, u.3)

  Rooted : ℕ → ℕ → Type 0
  Rooted m c = (s : ℕ) × (y : Node) × (others : Forest) × Has tree 0 s y others × (m ≡ s + nodes_in others) × (i : ℕ) × (slice_get (roots s others) i ≡ Some c)

  found : (m : ℕ) (y : Node) → record_at (laid_nodes size xs) m ≡ Some y → (s : ℕ) × (z : Node) × (others : Forest) × Has tree 0 s z others × (m ≡ s + nodes_in others) × (z ≡ y)
  unfolding tree post_order
  found m y e =
      let n = record_within size xs m y e in
      let t = ap length order in
      let f = located tree 0 m (omega arith) in
      let q : m ≡ f.0 + nodes_in f.2 = let z = f.4 in omega arith in
      (f.0, f.1, f.2, f.3, q, same_Some f.1 y (sym (nodes f.0 f.1 f.2 f.3).itself ∙ ap (record_at (laid_nodes size xs)) (sym q) ∙ e))

  child_root : (m c : ℕ) → IsChild (laid_nodes size xs) m c → Rooted m c
  unfolding Rooted
  child_root m c (inl (i, e)) =
      let o = only_kind 7 _ c (record_at (laid_nodes size xs) m) (sym (item_members (laid_nodes size xs) m i) ∙ e) in
      let f = found m o.0 o.1 in
      let a = (nodes f.0 f.1 f.2 f.3).items (ap (λ (z : Node). z.kind) f.5 ∙ o.2) i in
      (f.0, f.1, f.2, f.3, f.4, i, sym a ∙ ap (λ (z : ℕ). array_item (laid_nodes size xs) z i) (sym f.4) ∙ e)
  child_root m c (inr (i, d, e, which)) =
      let o = only_kind 8 _ d (record_at (laid_nodes size xs) m) (sym (entry-members (laid_nodes size xs) m i) ∙ e) in
      let f = found m o.0 o.1 in
      let a = (nodes f.0 f.1 f.2 f.3).pairs (ap (λ (z : Node). z.kind) f.5 ∙ o.2) i in
      let u = pair-roots f.0 f.2 i d (sym a ∙ ap (λ (z : ℕ). hash_entry (laid_nodes size xs) z i) (sym f.4) ∙ e) in
      let j = by f.0 f.2 which u.0 u.1 in
      (f.0, f.1, f.2, f.3, f.4, j.0, j.1)
    where
      by :
          (s : ℕ) (others : Forest) → (d.key ≡ c) ⊎ (d.value ≡ c) →
          (j : ℕ) × (slice_get (roots s others) j ≡ Some d.key) → (j : ℕ) × (slice_get (roots s others) j ≡ Some d.value) →
          (j : ℕ) × (slice_get (roots s others) j ≡ Some c)
      by s others (inl q) k v = (k.0, k.1 ∙ ap Some q)
      by s others (inr q) k v = (v.0, v.1 ∙ ap Some q)

  -- ---- exactly one parent

  -- the parent that the list has for c
  only_parent : (q m c : ℕ) → IsChild (laid_nodes size xs) m c → slice_get (parents 0 q tree) c ≡ Some m
  unfolding Rooted
  only_parent q m c h =
      let r = child_root m c h in
      let v = child-parent 0 q tree r.0 r.1 r.2 r.5 c r.3 r.6 in
      let same : c ≡ v.0 = let z = v.1 in omega arith in
      ap (slice_get (parents 0 q tree)) same ∙ v.2 ∙ ap Some (sym r.4)

  one_parent : (c : ℕ) → c < nodes_in kids → (p : ℕ) × IsChild (laid_nodes size xs) p c × ((m : ℕ) → IsChild (laid_nodes size xs) m c → m ≡ p)
  unfolding tree post_order
  one_parent c l =
      let n = tree_nodes in
      let k = parents-length 0 0 tree in
      let f = member_some (parents 0 0 tree) c (omega arith) in
      (f.0, by f.0 (parent_child 0 0 tree c f.0 f.1), λ m h. same_Some m f.0 (sym (only_parent 0 m c h) ∙ f.1))
    where
      by : (n : ℕ) → Parent 0 0 tree c n → IsChild (laid_nodes size xs) n c
      by n (inl (a, i, r)) =
          let h = member_within (roots 0 tree) i (0 + c) r in
          let first : i ≡ 0 = omega arith in
          let z = same_Some (last_root 0 tree) (0 + c) (ap (slice_get (roots 0 tree)) (sym first) ∙ r) in
          absurd (omega arith)
      by n (inr (s, y, others, h, q, i, r)) =
          subst (λ (z : ℕ). IsChild (laid_nodes size xs) z c) (sym q) (root_child s y others i c h (r ∙ ap Some (omega arith)))

  root_no_child : (m : ℕ) → IsChild (laid_nodes size xs) m (nodes_in kids) → ⊥
  unfolding tree post_order
  root_no_child m h =
      let here : nodes_in nil + nodes_in kids ≡ nodes_in kids = omega arith in
      let z = same_Some m (suc m) (sym (only_parent (suc m) m (nodes_in kids) h) ∙ ap (slice_get (parents 0 (suc m) tree)) (sym here) ∙ at_last 0 (suc m) nil x kids) in
      absurd (omega arith)

  -- ---- up and down

  above : (p c : ℕ) → IsChild (laid_nodes size xs) p c → c < p
  unfolding Rooted
  above p c h =
      let r = child_root p c h in
      let v = roots_parent r.0 0 r.2 r.5 c r.6 in
      let l = member_within (parents r.0 0 r.2) v.0 0 v.2 in
      let n = parents-length r.0 0 r.2 in
      let a = v.1 in
      let b = r.4 in
      omega arith

  module _ (said : (c : ℕ) → parent_at (laid_nodes size xs) c ≡ slice_get (parents 0 absent tree) c) where
    up : (p c : ℕ) → IsChild (laid_nodes size xs) p c → parent_at (laid_nodes size xs) c ≡ Some p
    up p c h = said c ∙ only_parent absent p c h

    down : (p c : ℕ) → parent_at (laid_nodes size xs) c ≡ Some p → (p ≡ absent) ⊎ IsChild (laid_nodes size xs) p c
    down p c e = by (parent_child 0 absent tree c p (sym (said c) ∙ e))
      where
        by : Parent 0 absent tree c p → (p ≡ absent) ⊎ IsChild (laid_nodes size xs) p c
        by (inl (a, i, r)) = inl a
        by (inr (s, y, others, h, q, i, r)) =
            inr (subst (λ (z : ℕ). IsChild (laid_nodes size xs) z c) (sym q) (root_child s y others i c h (r ∙ ap Some (omega arith))))

    root_none : parent_at (laid_nodes size xs) (nodes_in kids) ≡ Some absent
    unfolding tree post_order
    root_none =
        let here : nodes_in nil + nodes_in kids ≡ nodes_in kids = omega arith in
        said (nodes_in kids) ∙ ap (slice_get (parents 0 absent tree)) (sym here) ∙ at_last 0 absent nil x kids

    root_alone : length xs ≤ absent → (c : ℕ) → parent_at (laid_nodes size xs) c ≡ Some absent → c ≡ nodes_in kids
    unfolding tree post_order Rooted
    root_alone few c e = by (dec_lt c (nodes_in kids))
      where
        n : length xs ≡ nodes_in kids + 1
        n = ap length order ∙ tree_nodes

        by : Dec (c < nodes_in kids) → c ≡ nodes_in kids
        by (yes l) =
            let o = one_parent c l in
            let q = same_Some o.0 absent (sym (up o.0 c o.1) ∙ e) in
            let r = child_root o.0 c o.1 in
            let f = has_inside tree 0 r.0 r.1 r.2 r.3 in
            let t = tree_nodes in
            let m = r.4 in
            let long = n in
            absurd (omega arith)
        by (no l) =
            let w = member_within (parents 0 absent tree) c absent (sym (said c) ∙ e) in
            let k = parents-length 0 absent tree in
            let t = tree_nodes in
            omega arith

  last_is_root : length xs ≡ nodes_in kids + 1 → record_before (laid_nodes size xs) (length xs) ≡ Some (nodes_in kids)
  unfolding tree Has record_before place_at post_order
  last_is_root n =
      let r = (nodes 0 x kids (inr (inr (refl, refl, refl)))).itself in
      let d : length xs - 1 ≡ 0 + nodes_in kids = omega arith in
      rw (lt-ltb 0 (length xs) (omega arith), d, r) (ap Some (omega arith))

  whole_read_back : Shaped (completions events) xs → parents_in xs ≡ parents 0 absent (snoc nil x kids) → length xs ≤ absent
      → ReadBack (laid_nodes size xs) events (length xs) x kids
  unfolding tree
  whole_read_back shaped are few =
      let said : (c : ℕ) → parent_at (laid_nodes size xs) c ≡ slice_get (parents 0 absent tree) c =
      λ c. parent_read size (completions events) xs shaped c ∙ ap (λ (l : List ℕ). slice_get l c) are in
      let n : length xs ≡ nodes_in kids + 1 = ap length order ∙ tree_nodes in
      record {
        root = (last_is_root n, n);
        nodes = nodes;
        count = shaped_length (completions events) xs shaped;
        kinds = kinds (completions events) shaped;
        flags = flags (completions events) shaped;
        one_parent = one_parent;
        root_no_child = root_no_child;
        up = up said;
        down = down said;
        above = above;
        root_none = root_none said;
        root_alone = root_alone said few;
      }

-- ---- a call that built

pub read_back : EveryTreeReadBack
read_back text events size piece_size xs ps e =
    let t = built_tree text events size piece_size xs ps e in
    let r = built_run text events size piece_size xs ps e in
    let whole = snoc nil t.root t.kids in
    let again : parented 0 xs ≡ xs = ap (parented 0) (sym r.3) ∙ parented_again 0 r.1 ∙ r.3 in
    let order : xs ≡ post_order (under_parent 0 absent whole) = sym again ∙ ap (parented 0) t.order ∙ parented_nodes whole t.sound in
    let few = completions_few events in
    let count = shaped_length (completions events) xs t.shaped in
    let short = r.0 in
    record {
      root = t.root;
      kids = t.kids;
      tree = t.tree;
      read = whole_read_back size events t.root t.kids xs t.order t.sound t.shaped (ap parents_in order ∙ parents_said 0 absent whole) (omega arith);
    }
