-- Every node of a forest but its roots is a child of exactly one node (N3). The parents are a list beside the post-order, so that there is one
-- for each; that it says who is whose child is shown in both directions, and that it is what the nodes with their parents say (02, (c)).
use mathlib.Core.Path.{◌≡◌, refl, sym, ap, ap₂, ◌∙◌}
use mathlib.Core.Logic.{◌⊎◌, inl, inr}
use mathlib.Core.List.{List, [], ◌∷◌, ◌++◌}
use Rattle.std.specs.Prelude.{Option, Some, slice_get, cond, ltb}
use Rattle.std.proofs.lemmas.Option.{same_Some}
use Prim.Native.Nat.{ℕ, ◌+◌, ◌-◌, ◌<◌}
use native.Mathlib.Decide.{dec_lt}
use native.Mathlib.Omega.{arith}
use lib.ListN.{length, length-append}
use Rattle.records.specs.Record.{with_parent}
use Rattle.records.specs.Parent.{holder, or_absent, parented}
use Rattle.records.proofs.ParentLaws.{order_length, under_parent}
use Rattle.records.specs.declared.record.Node.{Node}
use Rattle.node.proofs.Members.{member_left, member_right, member_within}
use Rattle.records.specs.Forest.{Forest, nil, snoc, post_order, nodes_in, last_root}
use Rattle.node.specs.Forest.{roots, Has}

-- of a forest whose roots are the children of number q, and before which come p nodes
abbrev pub parents : ℕ → ℕ → Forest → List ℕ
parents p q nil = []
parents p q (snoc f x kids) = parents p q f ++ (parents (p + nodes_in f) (last_root p (snoc f x kids)) kids ++ (q ∷ []))

pub parents-length : (p q : ℕ) (f : Forest) → length (parents p q f) ≡ nodes_in f
unfolding post_order
parents-length p q nil = refl
parents-length p q (snoc f x kids) =
    let a = parents-length p q f in
    let b = parents-length (p + nodes_in f) (last_root p (snoc f x kids)) kids in
    let n = order_length f x kids in
    let ks = parents (p + nodes_in f) (last_root p (snoc f x kids)) kids in
    rw (length-append (parents p q f) (ks ++ (q ∷ [])), length-append ks (q ∷ [])) (omega arith)

-- ---- the parts of the list

module _ (p q : ℕ) (f : Forest) (x : Node) (kids : Forest) where
  in_front : (j n : ℕ) → slice_get (parents p q f) j ≡ Some n → slice_get (parents p q (snoc f x kids)) j ≡ Some n
  in_front j n e = member_left (parents p q f) _ j (member_within (parents p q f) j n e) ∙ e

  below : (j n : ℕ) → slice_get (parents (p + nodes_in f) (last_root p (snoc f x kids)) kids) j ≡ Some n → slice_get (parents p q (snoc f x kids)) (nodes_in f + j) ≡ Some n
  below j n e =
      let ks = parents (p + nodes_in f) (last_root p (snoc f x kids)) kids in
      ap (λ (m : ℕ). slice_get (parents p q (snoc f x kids)) (m + j)) (sym (parents-length p q f))
      ∙ member_right (parents p q f) (ks ++ (q ∷ [])) j
      ∙ member_left ks (q ∷ []) j (member_within ks j n e)
      ∙ e

  pub at_last : slice_get (parents p q (snoc f x kids)) (nodes_in f + nodes_in kids) ≡ Some q
  at_last =
      let ks = parents (p + nodes_in f) (last_root p (snoc f x kids)) kids in
      let a = parents-length p q f in
      let b = parents-length (p + nodes_in f) (last_root p (snoc f x kids)) kids in
      let here : nodes_in f + nodes_in kids ≡ length (parents p q f) + (length ks + 0) = omega arith in
      ap (slice_get (parents p q (snoc f x kids))) here ∙ member_right (parents p q f) (ks ++ (q ∷ [])) (length ks + 0) ∙ member_right ks (q ∷ []) 0

-- ---- a child has that parent

pub roots_parent : (p q : ℕ) (f : Forest) (i r : ℕ) → slice_get (roots p f) i ≡ Some r → (j : ℕ) × (r ≡ p + j) × (slice_get (parents p q f) j ≡ Some q)
roots_parent p q nil i r e = absurd (let h = member_within (roots p nil) i r e in omega arith)
roots_parent p q (snoc f x kids) i r e = by (dec_lt i (length (roots p f))) (roots_parent p q f i r)
  where
    Found : Forest → Type 0
    Found g = (j : ℕ) × (r ≡ p + j) × (slice_get (parents p q g) j ≡ Some q)

    by : Dec (i < length (roots p f)) → (slice_get (roots p f) i ≡ Some r → Found f) → Found (snoc f x kids)
    by (yes l) before =
        let w = before (sym (member_left (roots p f) _ i l) ∙ e) in
        (w.0, w.1, in_front p q f x kids w.0 q w.2)
    by (no l) before =
        let last = last_root p (snoc f x kids) in
        let n = member_within (roots p (snoc f x kids)) i r e in
        let m = length-append (roots p f) (last ∷ []) in
        let here : i ≡ length (roots p f) + 0 = omega arith in
        let z = same_Some r last (sym e ∙ ap (slice_get (roots p (snoc f x kids))) here ∙ member_right (roots p f) (last ∷ []) 0) in
        (nodes_in f + nodes_in kids, z, at_last p q f x kids)

pub child-parent :
    (p q : ℕ) (f : Forest) (s : ℕ) (x : Node) (kids : Forest) (i r : ℕ) → Has f p s x kids → slice_get (roots s kids) i ≡ Some r →
    (j : ℕ) × (r ≡ p + j) × (slice_get (parents p q f) j ≡ Some (s + nodes_in kids))
unfolding Has
child-parent p q nil s x kids i r h e = absurd h
child-parent p q (snoc f y others) s x kids i r (inl h) e =
    let w = child-parent p q f s x kids i r h e in
    (w.0, w.1, in_front p q f y others w.0 (s + nodes_in kids) w.2)
child-parent p q (snoc f y others) s x kids i r (inr (inl h)) e =
    let w = child-parent (p + nodes_in f) (last_root p (snoc f y others)) others s x kids i r h e in
    let a = w.1 in
    (nodes_in f + w.0, omega arith, below p q f y others w.0 (s + nodes_in kids) w.2)
child-parent p q (snoc f y others) s x kids i r (inr (inr (a, b, c))) e =
    let e' : slice_get (roots (p + nodes_in f) others) i ≡ Some r = ap (λ (z : ℕ). slice_get (roots z others) i) (sym a) ∙ ap (λ (z : Forest). slice_get (roots s z) i) (sym c) ∙ e in
    let n : s + nodes_in kids ≡ last_root p (snoc f y others) = ap (λ (z : Forest). s + nodes_in z) c ∙ omega arith in
    let w = roots_parent (p + nodes_in f) (s + nodes_in kids) others i r e' in
    let d = w.1 in
    (nodes_in f + w.0, omega arith, below p q f y others w.0 (s + nodes_in kids) (rw (sym n) w.2))

-- ---- a parent has that child

-- the parent of number p + j: q, where it is a root, or a node of the forest
abbrev pub Parent : ℕ → ℕ → Forest → ℕ → ℕ → Type 0
Parent p q f j n =
    ((n ≡ q) × (i : ℕ) × (slice_get (roots p f) i ≡ Some (p + j)))
    ⊎ ((s : ℕ) × (x : Node) × (kids : Forest) × Has f p s x kids × (n ≡ s + nodes_in kids) × (i : ℕ) × (slice_get (roots s kids) i ≡ Some (p + j)))

pub parent_child : (p q : ℕ) (f : Forest) (j n : ℕ) → slice_get (parents p q f) j ≡ Some n → Parent p q f j n
unfolding Has
parent_child p q nil j n e = absurd (let h = member_within (parents p q nil) j n e in omega arith)
parent_child p q (snoc f y others) j n e =
    by (dec_lt j (nodes_in f)) (dec_lt j (nodes_in f + nodes_in others)) (parent_child p q f j n) (parent_child (p + nodes_in f) (last_root p (snoc f y others)) others (j - nodes_in f) n)
  where
    whole : Forest
    whole = snoc f y others

    in_root : (i : ℕ) → slice_get (roots p f) i ≡ Some (p + j) → slice_get (roots p whole) i ≡ Some (p + j)
    in_root i r = member_left (roots p f) _ i (member_within (roots p f) i (p + j) r) ∙ r

    first_part : Parent p q f j n → Parent p q whole j n
    first_part (inl (a, i, r)) = inl (a, i, in_root i r)
    first_part (inr (s, x, kids, h, m, i, r)) = inr (s, x, kids, inl h, m, i, r)

    next_part : (p + nodes_in f) + (j - nodes_in f) ≡ p + j → Parent (p + nodes_in f) (last_root p whole) others (j - nodes_in f) n → Parent p q whole j n
    next_part z (inl (a, i, r)) = inr (p + nodes_in f, y, others, inr (inr (refl, refl, refl)), a ∙ omega arith, i, r ∙ ap Some z)
    next_part z (inr (s, x, kids, h, m, i, r)) = inr (s, x, kids, inr (inl h), m, i, r ∙ ap Some z)

    by :
        Dec (j < nodes_in f) → Dec (j < nodes_in f + nodes_in others) → (slice_get (parents p q f) j ≡ Some n → Parent p q f j n) →
        (slice_get (parents (p + nodes_in f) (last_root p whole) others) (j - nodes_in f) ≡ Some n → Parent (p + nodes_in f) (last_root p whole) others (j - nodes_in f) n) →
        Parent p q whole j n
    by (yes l) d front next =
        let a = parents-length p q f in
        first_part (front (sym (member_left (parents p q f) _ j (omega arith)) ∙ e))
    by (no l) (yes d) front next =
        let a = parents-length p q f in
        let ks = parents (p + nodes_in f) (last_root p whole) others in
        let b = parents-length (p + nodes_in f) (last_root p whole) others in
        let here : j ≡ length (parents p q f) + (j - nodes_in f) = omega arith in
        let u = ap (slice_get (parents p q whole)) here ∙ member_right (parents p q f) (ks ++ (q ∷ [])) (j - nodes_in f) ∙ member_left ks (q ∷ []) (j - nodes_in f) (omega arith) in
        next_part (omega arith) (next (sym u ∙ e))
    by (no l) (no d) front next =
        let w = member_within (parents p q whole) j n e in
        let a = parents-length p q whole in
        let o = order_length f y others in
        let here : j ≡ nodes_in f + nodes_in others = omega arith in
        let z = same_Some n q (sym e ∙ ap (slice_get (parents p q whole)) here ∙ at_last p q f y others) in
        let r : slice_get (roots p whole) (length (roots p f) + 0) ≡ Some (last_root p whole) = member_right (roots p f) (last_root p whole ∷ []) 0 in
        inl (z, length (roots p f) + 0, r ∙ ap Some (ap (λ (k : ℕ). p + k) (sym here)))

-- ---- what the nodes say

abbrev pub parents_in : List Node → List ℕ
parents_in [] = []
parents_in (x ∷ xs) = x.parent ∷ parents_in xs

parents_append : (xs ys : List Node) → parents_in (xs ++ ys) ≡ parents_in xs ++ parents_in ys
parents_append [] ys = refl
parents_append (x ∷ xs) ys = ap (λ (l : List ℕ). x.parent ∷ l) (parents_append xs ys)

pub parents_said : (p q : ℕ) (f : Forest) → parents_in (post_order (under_parent p q f)) ≡ parents p q f
unfolding post_order
parents_said p q nil = refl
parents_said p q (snoc f x kids) =
    let f' = post_order (under_parent p q f) in
    let kids' = post_order (under_parent (p + nodes_in f) (last_root p (snoc f x kids)) kids) in
    parents_append f' (kids' ++ (with_parent x q ∷ []))
    ∙ ap₂ ◌++◌ (parents_said p q f) (parents_append kids' (with_parent x q ∷ []) ∙ ap (λ (l : List ℕ). l ++ (q ∷ [])) (parents_said (p + nodes_in f) (last_root p (snoc f x kids)) kids))

-- what holds a node goes by the counts, not by parents
holder_again : (m n d : ℕ) (xs : List Node) → holder n d (parented m xs) ≡ holder n d xs
unfolding holder parented
holder_again m n d [] = refl
holder_again m n d (x ∷ xs) = ap (cond (ltb d x.subtree) (Some n)) (holder_again (m + 1) (n + 1) (d + 1) xs)

-- nodes that have their parents get the same again
pub parented_again : (n : ℕ) (xs : List Node) → parented n (parented n xs) ≡ parented n xs
unfolding parented
parented_again n [] = refl
parented_again n (x ∷ xs) =
    ap₂ (λ (o : Option ℕ) (l : List Node). with_parent x (or_absent o) ∷ l) (holder_again (n + 1) (n + 1) 1 xs) (parented_again (n + 1) xs)
