-- Where a sound forest is laid out, going back from its last tree meets its trees one by one (N3).
use mathlib.Core.Path.{◌≡◌, refl, sym, ap, ◌∙◌}
use mathlib.Core.Bool.{Bool, true, false, ◌&&◌, cond}
use mathlib.Core.List.{List, [], ◌∷◌, ◌++◌, append_assoc}
use Rattle.std.specs.Prelude.{None, Option, Some, if◌then◌else◌, option_map, slice_get}
use Rattle.std.proofs.lemmas.Option.{same_Some}
use Prim.Native.Nat.{ℕ, zero, suc, ◌+◌, ◌-◌, ◌*◌, ◌<◌, ◌≤◌}
use native.Mathlib.Decide.{dec_lt}
use native.Mathlib.Omega.{arith}
use borrow.Author.Tests.{lt-ltb, le-leb, le-ltb, lt-leb, leb-true, eq-eqb, ne_eqb}
use lib.Dec.{ltb, leb, eqb}
use lib.ListN.{length, length-append}
use Rattle.records.specs.Layout.{laid_nodes}
use Rattle.records.proofs.ParentLaws.{order_length}
use Rattle.records.specs.declared.record.Node.{Node}
use Rattle.node.specs.Chain.{◌>>=◌}
use Rattle.node.specs.Record.{is_kind, existing, record_at}
use Rattle.node.proofs.Answers.{members_of, item_members, entry-members}
use Rattle.node.proofs.Members.{member_left, member_right, member_past, member_within}
use Rattle.node.specs.RecordLaws.{record_laid}
use Rattle.node.specs.Child.{place_at, record_before, last_child, child_before, steps_back, child_from_last, array_item}
use Rattle.node.specs.Kind.{len, children, len_at}
use Rattle.node.specs.Entry.{entry, pair_ending, hash_entry}
use Rattle.node.specs.declared.entry.YamlHashEntry.{YamlHashEntry}
use Rattle.records.specs.Forest.{Forest, nil, snoc, post_order, nodes_in, last_root, trees}
use Rattle.node.specs.Forest.{roots, pairs_of}
use Rattle.node.specs.Built.{Tree, SoundForest}

member_at : (front : List Node) (x : Node) (rest : List Node) → slice_get (front ++ (x ∷ rest)) (length front) ≡ Some x
member_at [] x rest = refl
member_at (a ∷ front) x rest = member_at front x rest

-- all but the last k trees
abbrev pub all_but : ℕ → Forest → Forest
all_but zero f = f
all_but (suc k) nil = nil
all_but (suc k) (snoc f x kids) = all_but k f

-- ---- roots and pairs by number

pub roots-length : (p : ℕ) (f : Forest) → length (roots p f) ≡ trees f
roots-length p nil = refl
roots-length p (snoc f x kids) = let r = roots-length p f in rw length-append (omega arith)

pub root_member : (p i : ℕ) (f : Forest) → i < trees f → slice_get (roots p f) i ≡ Some (last_root p (all_but (trees f - 1 - i) f))
root_member p i nil h = absurd (omega arith)
root_member p i (snoc f x kids) h = by (dec_lt i (trees f)) (roots-length p f) (root_member p i f)
  where
    by :
        Dec (i < trees f) → length (roots p f) ≡ trees f → (i < trees f → slice_get (roots p f) i ≡ Some (last_root p (all_but (trees f - 1 - i) f))) →
        slice_get (roots p (snoc f x kids)) i ≡ Some (last_root p (all_but (trees (snoc f x kids) - 1 - i) (snoc f x kids)))
    by (yes l) r before =
        let e : suc (trees f - 1 - i) ≡ trees (snoc f x kids) - 1 - i = omega arith in
        member_left (roots p f) _ i (omega arith) ∙ before l ∙ ap (λ (k : ℕ). Some (last_root p (all_but k (snoc f x kids)))) e
    by (no l) r before =
        let here : i ≡ length (roots p f) + 0 = omega arith in
        let e : 0 ≡ trees (snoc f x kids) - 1 - i = omega arith in
        ap (slice_get (roots p (snoc f x kids))) here ∙ member_right (roots p f) _ 0 ∙ ap (λ (k : ℕ). Some (last_root p (all_but k (snoc f x kids)))) e

pub pairs_length : (p m : ℕ) (f : Forest) → trees f ≡ 2 * m → length (pairs_of p f) ≡ m
pairs_length p m nil e = omega arith
pairs_length p m (snoc nil x kids) e = absurd (omega arith)
pairs_length p m (snoc (snoc f y others) x kids) e = let r = pairs_length p (m - 1) f (omega arith) in rw length-append (omega arith)

-- the pair of the last two trees
abbrev pub last_entry : ℕ → Forest → Node → Forest → Node → Forest → YamlHashEntry
last_entry p f y others x kids = entry (last_root p (snoc f y others)) y (last_root p (snoc (snoc f y others) x kids)) x

-- the last two trees of a forest as a pair, where p nodes come before the forest
abbrev pub last_pair : ℕ → Forest → Option YamlHashEntry
last_pair p nil = None
last_pair p (snoc nil x kids) = None
last_pair p (snoc (snoc g y others) x kids) = Some (entry (last_root p (snoc g y others)) y (last_root p (snoc (snoc g y others) x kids)) x)

pub pair_member : (p m i : ℕ) (f : Forest) → trees f ≡ 2 * m → i < m → slice_get (pairs_of p f) i ≡ last_pair p (all_but (2 * (m - 1 - i)) f)
pair_member p m i nil e h = absurd (omega arith)
pair_member p m i (snoc nil x kids) e h = absurd (omega arith)
pair_member p m i (snoc (snoc f y others) x kids) e h = by (dec_lt i (m - 1)) (pairs_length p (m - 1) f (omega arith)) (pair_member p (m - 1) i f (omega arith))
  where
    whole : Forest
    whole = snoc (snoc f y others) x kids

    by :
        Dec (i < m - 1) → length (pairs_of p f) ≡ m - 1 → (i < m - 1 → slice_get (pairs_of p f) i ≡ last_pair p (all_but (2 * (m - 1 - 1 - i)) f)) →
        slice_get (pairs_of p whole) i ≡ last_pair p (all_but (2 * (m - 1 - i)) whole)
    by (yes l) r before =
        let k : suc (suc (2 * (m - 1 - 1 - i))) ≡ 2 * (m - 1 - i) = omega arith in
        member_left (pairs_of p f) _ i (omega arith) ∙ before l ∙ ap (λ (k : ℕ). last_pair p (all_but k whole)) k
    by (no l) r before =
        let here : i ≡ length (pairs_of p f) + 0 = omega arith in
        let k : 0 ≡ 2 * (m - 1 - i) = omega arith in
        ap (slice_get (pairs_of p whole)) here ∙ member_right (pairs_of p f) _ 0 ∙ ap (λ (k : ℕ). last_pair p (all_but k whole)) k

-- ---- what a record counts

pub both_true : (a b : Bool) → (a && b) ≡ true → (a ≡ true) × (b ≡ true)
both_true true b e = (refl, e)
both_true false b e = absurd (let z : ◌≡◌ {A = ℕ} 0 1 = cc in omega arith)

pub kind_at_most : (k : ℕ) → is_kind k ≡ true → k ≤ 8
kind_at_most k e = leb-true k 8 (both_true (leb 1 k) (leb k 8) e).1

len_scalar : (x : Node) → x.kind < 7 → len x ≡ 0
len_scalar x h = rw (lt-ltb x.kind 7 h)

len_collection : (x : Node) → 7 ≤ x.kind → len x ≡ x.payload.first
len_collection x h = rw (le-ltb x.kind 7 h)

pub children-trees : (x : Node) (f : Forest) → Tree x f → children x ≡ trees f
children-trees x f t = by (dec_lt x.kind 7) (dec_lt x.kind 8)
  where
    by : Dec (x.kind < 7) → Dec (x.kind < 8) → children x ≡ trees f
    by (yes l) d = rw (lt-ltb x.kind 7 l) (sym (t.scalar l))
    by (no l) (yes d) = rw (le-ltb x.kind 7 (omega arith), ne_eqb x.kind 8 (λ e. omega arith)) (t.array (omega arith))
    by (no l) (no d) =
        let k = kind_at_most x.kind t.kind in
        let eight : x.kind ≡ 8 = omega arith in
        rw (le-ltb x.kind 7 (omega arith), eq-eqb x.kind 8 eight) (t.hash eight)

-- there are children where their number, or that of the pairs, is not 0
len-children : (x : Node) → (children x ≤ 2 * len x) × (len x ≤ children x)
len-children x = by (ltb x.kind 7) (eqb x.kind 8) x.payload.first
  where
    by : (t s : Bool) (m : ℕ) → (cond t 0 (cond s (2 * m) m) ≤ 2 * cond t 0 m) × (cond t 0 m ≤ cond t 0 (cond s (2 * m) m))
    by true s m = (omega arith, omega arith)
    by false true m = (omega arith, omega arith)
    by false false m = (omega arith, omega arith)

module _ (size : ℕ) (pre : List Node) where
  -- the forest laid out after `pre` and before `suf`
  abbrev pub laid : Forest → List Node → List ℕ
  laid f suf = laid_nodes size (pre ++ (post_order f ++ suf))

  -- all but its last tree is laid out there too
  pub laid_front : (f : Forest) (x : Node) (kids : Forest) (suf : List Node) → laid (snoc f x kids) suf ≡ laid f ((post_order kids ++ (x ∷ [])) ++ suf)
  unfolding post_order
  laid_front f x kids suf = let e : pre ++ (post_order (snoc f x kids) ++ suf) ≡ pre ++ (post_order f ++ ((post_order kids ++ (x ∷ [])) ++ suf)) = simp append_assoc in ap (laid_nodes size) e

  -- the root of the last tree is its record
  pub root_record : (suf : List Node) (f : Forest) (x : Node) (kids : Forest) → Tree x kids → record_at (laid (snoc f x kids) suf) (last_root (length pre) (snoc f x kids)) ≡ Some x
  unfolding post_order existing
  root_record suf f x kids t =
      let front = pre ++ (post_order f ++ post_order kids) in
      let e : pre ++ (post_order (snoc f x kids) ++ suf) ≡ front ++ (x ∷ suf) = simp append_assoc in
      let l : length pre + (nodes_in f + nodes_in kids) ≡ length front = simp length-append in
      rw (record_laid size (pre ++ (post_order (snoc f x kids) ++ suf)) (length pre + (nodes_in f + nodes_in kids)), e, l, member_at front x suf, t.kind)

  -- the child before it is the root of the tree before
  pub root_before :
      (suf : List Node) (g : Forest) (y : Node) (others : Forest) (x : Node) (kids : Forest) →
      SoundForest (snoc (snoc g y others) x kids) →
      child_before (laid (snoc (snoc g y others) x kids) suf) (last_root (length pre) (snoc (snoc g y others) x kids)) ≡ Some (last_root (length pre) (snoc g y others))
  unfolding child_before place_at SoundForest post_order
  root_before suf g y others x kids c =
      let f = snoc g y others in
      let s : x.subtree ≡ nodes_in kids + 1 = c.2.count in
      let n = order_length g y others in
      let more : 0 < x.subtree = omega arith in
      let fits : x.subtree ≤ last_root (length pre) (snoc f x kids) = omega arith in
      let d : last_root (length pre) (snoc f x kids) - x.subtree ≡ last_root (length pre) f = omega arith in
      let e = laid_front f x kids suf in
      let r : record_at (laid (snoc f x kids) suf) (last_root (length pre) f) ≡ Some y = rw e (root_record ((post_order kids ++ (x ∷ [])) ++ suf) g y others c.0.2) in
      rw (root_record suf f x kids c.2, lt-ltb 0 x.subtree more, le-leb x.subtree (last_root (length pre) (snoc f x kids)) fits, d, r)

  -- k steps back from the last tree stands the last of all trees but k
  pub steps-roots :
      (k : ℕ) (suf : List Node) (f : Forest) → k < trees f → SoundForest f →
      steps_back (laid f suf) k (last_root (length pre) f) ≡ Some (last_root (length pre) (all_but k f))
  unfolding steps_back SoundForest post_order
  steps-roots zero suf f h c = refl
  steps-roots (suc k) suf nil h c = absurd (omega arith)
  steps-roots (suc k) suf (snoc nil x kids) h c = absurd (omega arith)
  steps-roots (suc k) suf (snoc (snoc g y others) x kids) h c =
      let f = snoc g y others in
      let e = laid_front f x kids suf in
      let r = steps-roots k ((post_order kids ++ (x ∷ [])) ++ suf) f (omega arith) c.0 in
      ap (λ (o : Option ℕ). o >>= (steps_back (laid (snoc f x kids) suf) k)) (root_before suf g y others x kids c)
      ∙ rw e r

  -- of two trees, the roots as a pair
  pub root-pair :
      (suf : List Node) (g : Forest) (y : Node) (others : Forest) (x : Node) (kids : Forest) →
      SoundForest (snoc (snoc g y others) x kids) →
      pair_ending (laid (snoc (snoc g y others) x kids) suf) (last_root (length pre) (snoc (snoc g y others) x kids))
      ≡ Some (entry (last_root (length pre) (snoc g y others)) y (last_root (length pre) (snoc (snoc g y others) x kids)) x)
  unfolding pair_ending SoundForest post_order
  root-pair suf g y others x kids c =
      let f = snoc g y others in
      let e = laid_front f x kids suf in
      let r : record_at (laid (snoc f x kids) suf) (last_root (length pre) f) ≡ Some y = rw e (root_record ((post_order kids ++ (x ∷ [])) ++ suf) g y others c.0.2) in
      rw (root_record suf f x kids c.2, root_before suf g y others x kids c, r)

  -- the last child of a collection, whose record follows its children
  pub last-root :
      (suf : List Node) (f : Forest) → 0 < trees f → SoundForest f →
      record_before (laid f suf) (length pre + nodes_in f) ≡ Some (last_root (length pre) f)
  unfolding record_before place_at SoundForest post_order
  last-root suf nil h c = absurd (omega arith)
  last-root suf (snoc f x kids) h c =
      let n = order_length f x kids in
      let more : 0 < length pre + length (post_order (snoc f x kids)) = omega arith in
      let d : length pre + length (post_order (snoc f x kids)) - 1 ≡ last_root (length pre) (snoc f x kids) = omega arith in
      rw (lt-ltb 0 (length pre + length (post_order (snoc f x kids))) more, d, root_record suf f x kids c.2)

  -- a collection's record follows its children
  pub collection-record :
      (suf : List Node) (f : Forest) (x : Node) → is_kind x.kind ≡ true →
      record_at (laid f (x ∷ suf)) (length pre + nodes_in f) ≡ Some x
  unfolding existing
  collection-record suf f x k =
      let front = pre ++ post_order f in
      let e : pre ++ (post_order f ++ (x ∷ suf)) ≡ front ++ (x ∷ suf) = simp append_assoc in
      let l : length pre + nodes_in f ≡ length front = simp length-append in
      let n : slice_get (pre ++ (post_order f ++ (x ∷ suf))) (length pre + nodes_in f) ≡ Some x = rw (e, l) (member_at front x suf) in
      record_laid size (pre ++ (post_order f ++ (x ∷ suf))) (length pre + nodes_in f) ∙ rw (n, k)

  pub child-roots :
      (k : ℕ) (suf : List Node) (f : Forest) (x : Node) → k < trees f → SoundForest f → Tree x f →
      child_from_last (laid f (x ∷ suf)) (length pre + nodes_in f) k ≡ Some (last_root (length pre) (all_but k f))
  unfolding child_from_last
  child-roots k suf f x h c t =
      let b = laid f (x ∷ suf) in
      let n = children-trees x f t in
      let more : k < children x = omega arith in
      rw (collection-record suf f x t.kind, lt-ltb k (children x) more, last-root (x ∷ suf) f (omega arith) c) (steps-roots k (x ∷ suf) f h c)

  -- a collection says how many members it has
  pub members-said :
      (suf : List Node) (f : Forest) (x : Node) (kind : ℕ) → Tree x f → x.kind ≡ kind →
      members_of kind (record_at (laid f (x ∷ suf)) (length pre + nodes_in f)) ≡ Some x.payload.first
  members-said suf f x kind t e = rw (collection-record suf f x t.kind, eq-eqb x.kind kind e)

  -- item i of an array is root i of its children
  pub items :
      (suf : List Node) (f : Forest) (x : Node) → SoundForest f → Tree x f → x.kind ≡ 7 → (i : ℕ) →
      array_item (laid f (x ∷ suf)) (length pre + nodes_in f) i ≡ slice_get (roots (length pre) f) i
  items suf f x c t seven i = rw (item_members _ _ _, members-said suf f x 7 t seven) (by x.payload.first (t.array seven) (dec_lt i x.payload.first))
    where
      by :
          (m : ℕ) → m ≡ trees f → Dec (i < m) →
          (if ltb i m then child_from_last (laid f (x ∷ suf)) (length pre + nodes_in f) (m - 1 - i) else None) ≡ slice_get (roots (length pre) f) i
      by m e (yes h) =
          rw (lt-ltb i m h, child-roots (m - 1 - i) suf f x (omega arith) c t, e) (sym (root_member (length pre) i f (omega arith)))
      by m e (no h) =
          let l = roots-length (length pre) f in
          rw (le-ltb i m (omega arith)) (sym (member_past (roots (length pre) f) i (omega arith)))

  -- what holds of the last two trees of every forest holds of the last two of all but k
  back :
      (P : List ℕ → Forest → Type 0) →
      ((suf : List Node) (g : Forest) (y : Node) (others : Forest) (x : Node) (kids : Forest) → SoundForest (snoc (snoc g y others) x kids) →
      P (laid (snoc (snoc g y others) x kids) suf) (snoc (snoc g y others) x kids)) →
      (k : ℕ) (suf : List Node) (f : Forest) → suc k < trees f → SoundForest f → P (laid f suf) (all_but k f)
  unfolding SoundForest
  back P last zero suf nil h c = absurd (omega arith)
  back P last zero suf (snoc nil x kids) h c = absurd (omega arith)
  back P last zero suf (snoc (snoc g y others) x kids) h c = last suf g y others x kids c
  back P last (suc k) suf nil h c = absurd (omega arith)
  back P last (suc k) suf (snoc f x kids) h c = rw (laid_front f x kids suf) (back P last k ((post_order kids ++ (x ∷ [])) ++ suf) f (omega arith) c.0)

  pair-back :
      (k : ℕ) (suf : List Node) (f : Forest) → suc k < trees f → SoundForest f →
      pair_ending (laid f suf) (last_root (length pre) (all_but k f)) ≡ last_pair (length pre) (all_but k f)
  pair-back = back (λ b g. pair_ending b (last_root (length pre) g) ≡ last_pair (length pre) g) root-pair

  -- pair i of a hash is pair i of its children, whatever their keys (N2)
  pub pairs :
      (suf : List Node) (f : Forest) (x : Node) → SoundForest f → Tree x f → x.kind ≡ 8 → (i : ℕ) →
      hash_entry (laid f (x ∷ suf)) (length pre + nodes_in f) i ≡ slice_get (pairs_of (length pre) f) i
  pairs suf f x c t eight i = rw (entry-members _ _ _, members-said suf f x 8 t eight) (by x.payload.first (t.hash eight) (dec_lt i x.payload.first))
    where
      b : List ℕ
      b = laid f (x ∷ suf)

      by :
          (m : ℕ) → 2 * m ≡ trees f → Dec (i < m) →
          (if ltb i m then (child_from_last b (length pre + nodes_in f) (2 * (m - 1 - i))) >>= pair_ending b else None) ≡ slice_get (pairs_of (length pre) f) i
      by m e (yes h) =
          rw (lt-ltb i m h, child-roots (2 * (m - 1 - i)) suf f x (omega arith) c t)
          (pair-back (2 * (m - 1 - i)) (x ∷ suf) f (omega arith) c ∙ sym (pair_member (length pre) m i f (sym e) h))
      by m e (no h) =
          let l = pairs_length (length pre) m f (sym e) in
          rw (le-ltb i m (omega arith)) (sym (member_past (pairs_of (length pre) f) i (omega arith)))

  -- ---- how many there are

  len_is :
      (suf : List Node) (f : Forest) (x : Node) → Tree x f →
      len_at (laid f (x ∷ suf)) (length pre + nodes_in f) ≡ Some (len x)
  unfolding len_at
  len_is suf f x t = ap (option_map len) (collection-record suf f x t.kind)

  pub no_children :
      (suf : List Node) (f : Forest) (x : Node) → Tree x f → x.kind < 7 →
      (len_at (laid f (x ∷ suf)) (length pre + nodes_in f) ≡ Some 0) × (roots (length pre) f ≡ [])
  no_children suf f x t h = (len_is suf f x t ∙ ap Some (len_scalar x h), by f (t.scalar h))
    where
      by : (g : Forest) → trees g ≡ 0 → roots (length pre) g ≡ []
      by nil e = refl
      by (snoc g y others) e = absurd (omega arith)

  pub item_count :
      (suf : List Node) (f : Forest) (x : Node) → Tree x f → x.kind ≡ 7 →
      len_at (laid f (x ∷ suf)) (length pre + nodes_in f) ≡ Some (length (roots (length pre) f))
  item_count suf f x t seven = len_is suf f x t ∙ ap Some (len_collection x (omega arith) ∙ t.array seven ∙ sym (roots-length (length pre) f))

  pub pair_count :
      (suf : List Node) (f : Forest) (x : Node) → Tree x f → x.kind ≡ 8 →
      len_at (laid f (x ∷ suf)) (length pre + nodes_in f) ≡ Some (length (pairs_of (length pre) f))
  pair_count suf f x t eight =
      len_is suf f x t ∙ ap Some (len_collection x (omega arith) ∙ sym (pairs_length (length pre) x.payload.first f (sym (t.hash eight))))

  -- ---- the last child, and the child before

  pub last_child_is :
      (suf : List Node) (f : Forest) (x : Node) → SoundForest f → Tree x f →
      last_child (laid f (x ∷ suf)) (length pre + nodes_in f) ≡ slice_get (roots (length pre) f) (length (roots (length pre) f) - 1)
  unfolding last_child
  last_child_is suf f x c t = found ∙ by (dec_lt 0 (trees f)) (len-children x) (children-trees x f t) (roots-length (length pre) f)
    where
      b : List ℕ
      b = laid f (x ∷ suf)

      n : ℕ
      n = length pre + nodes_in f

      found : last_child b n ≡ (if ltb 0 (len x) then record_before b n else None)
      found = ap (λ (o : Option ℕ). o >>= (λ (k : ℕ). if ltb 0 k then record_before b n else None)) (len_is suf f x t)

      by :
          Dec (0 < trees f) → (children x ≤ 2 * len x) × (len x ≤ children x) → children x ≡ trees f → length (roots (length pre) f) ≡ trees f →
          (if ltb 0 (len x) then record_before b n else None) ≡ slice_get (roots (length pre) f) (length (roots (length pre) f) - 1)
      by (yes h) (a, d) q r =
          let none_after : trees f - 1 - (trees f - 1) ≡ 0 = omega arith in
          ap (λ (z : Bool). if z then record_before b n else None) (lt-ltb 0 (len x) (omega arith))
          ∙ last-root (x ∷ suf) f h c
          ∙ sym (ap (λ (m : ℕ). slice_get (roots (length pre) f) (m - 1)) r
          ∙ root_member (length pre) (trees f - 1) f (omega arith)
          ∙ ap (λ (k : ℕ). Some (last_root (length pre) (all_but k f))) none_after)
      by (no h) (a, d) q r =
          ap (λ (z : Bool). if z then record_before b n else None) (le-ltb 0 (len x) (omega arith))
          ∙ sym (member_past (roots (length pre) f) (length (roots (length pre) f) - 1) (omega arith))

  -- all but k, and the last of those
  all_but_one : (k : ℕ) (f : Forest) → all_but 1 (all_but k f) ≡ all_but (suc k) f
  all_but_one zero f = refl
  all_but_one (suc k) nil = refl
  all_but_one (suc k) (snoc f x kids) = all_but_one k f

  step_back :
      (k : ℕ) (suf : List Node) (f : Forest) → suc k < trees f → SoundForest f →
      child_before (laid f suf) (last_root (length pre) (all_but k f)) ≡ Some (last_root (length pre) (all_but (suc k) f))
  step_back k suf f h c =
      back (λ b g. child_before b (last_root (length pre) g) ≡ Some (last_root (length pre) (all_but 1 g))) root_before k suf f h c
      ∙ ap (λ (g : Forest). Some (last_root (length pre) g)) (all_but_one k f)

  -- before a child that is not the first comes the one that it follows
  pub child_before_is :
      (suf : List Node) (f : Forest) → SoundForest f → (i c : ℕ) → slice_get (roots (length pre) f) (suc i) ≡ Some c →
      child_before (laid f suf) c ≡ slice_get (roots (length pre) f) i
  child_before_is suf f s i c e =
      let l = member_within (roots (length pre) f) (suc i) c e in
      let r = roots-length (length pre) f in
      let k = trees f - 1 - suc i in
      let on : suc (trees f - 1 - suc i) ≡ trees f - 1 - i = omega arith in
      let here = same_Some c (last_root (length pre) (all_but k f)) (sym e ∙ root_member (length pre) (suc i) f (omega arith)) in
      ap (child_before (laid f suf)) here
      ∙ step_back k suf f (omega arith) s
      ∙ ap (λ (m : ℕ). Some (last_root (length pre) (all_but m f))) on
      ∙ sym (root_member (length pre) i f (omega arith))

  first_alone :
      (suf : List Node) (x : Node) (kids : Forest) → Tree x kids →
      child_before (laid (snoc nil x kids) suf) (last_root (length pre) (snoc nil x kids))
      ≡ record_before (laid (snoc nil x kids) suf) (length pre)
  unfolding child_before record_before post_order
  first_alone suf x kids t = by (dec_lt 0 (length pre)) t.count
    where
      by :
          Dec (0 < length pre) → x.subtree ≡ nodes_in kids + 1 →
          child_before (laid (snoc nil x kids) suf) (last_root (length pre) (snoc nil x kids))
          ≡ record_before (laid (snoc nil x kids) suf) (length pre)
      by (yes h) s =
          let d : last_root (length pre) (snoc nil x kids) - x.subtree ≡ length pre - 1 = omega arith in
          rw (root_record suf nil x kids t, lt-ltb 0 x.subtree (omega arith), le-leb x.subtree (last_root (length pre) (snoc nil x kids)) (omega arith), d, lt-ltb 0 (length pre) h)
      by (no h) s =
          rw (root_record suf nil x kids t, lt-ltb 0 x.subtree (omega arith), lt-leb x.subtree (last_root (length pre) (snoc nil x kids)) (omega arith), le-ltb 0 (length pre) (omega arith))

  first_back :
      (suf : List Node) (f : Forest) → 0 < trees f → SoundForest f →
      child_before (laid f suf) (last_root (length pre) (all_but (trees f - 1) f)) ≡ record_before (laid f suf) (length pre)
  unfolding SoundForest post_order
  first_back suf nil h c = absurd (omega arith)
  first_back suf (snoc nil x kids) h c = first_alone suf x kids c.2
  first_back suf (snoc (snoc g y others) x kids) h c =
      let f = snoc g y others in
      let e = laid_front f x kids suf in
      let k : trees (snoc f x kids) - 1 ≡ suc (trees f - 1) = omega arith in
      rw (e, k) (first_back ((post_order kids ++ (x ∷ [])) ++ suf) (snoc g y others) (omega arith) c.0)

  -- before the first child comes what stands before the whole collection
  pub before_first :
      (suf : List Node) (f : Forest) → SoundForest f → (c : ℕ) → slice_get (roots (length pre) f) 0 ≡ Some c →
      child_before (laid f suf) c ≡ record_before (laid f suf) (length pre)
  before_first suf f s c e =
      let l = member_within (roots (length pre) f) 0 c e in
      let r = roots-length (length pre) f in
      let on : trees f - 1 - 0 ≡ trees f - 1 = omega arith in
      let first = root_member (length pre) 0 f (omega arith) ∙ ap (λ (m : ℕ). Some (last_root (length pre) (all_but m f))) on in
      let here = same_Some c (last_root (length pre) (all_but (trees f - 1) f)) (sym e ∙ first) in
      ap (child_before (laid f suf)) here ∙ first_back suf f (omega arith) s
