-- The tree that events make of other nodes (N3; 02, (c)). Its outline goes by what the events do, whatever the nodes are; and the nodes stand in it
-- in the order of their completion, or some are lost. A forest is told by its outline and its post-order. So of a tree's nodes with their parents
-- the events make that tree with its parents, and it is as sound.
use mathlib.Core.Path.{◌≡◌, refl, sym, ap, ap₂, subst, ◌∙◌}
use mathlib.Core.Logic.{◌⊎◌, inl, inr}
use mathlib.Core.List.{List, [], ◌∷◌, ◌++◌, append_assoc, append-nil}
use Prim.Native.Nat.{ℕ, ◌+◌, ◌<◌}
use native.Mathlib.Omega.{arith}
use lib.ListN.{length, replicate, take, drop, length-append}
use lib.Seq.{take-append_seam, drop-append_seam}
use Rattle.records.specs.Record.{absent, zero_node}
use Rattle.records.specs.Parent.{parented}
use Rattle.records.specs.declared.record.Node.{Node}
use Rattle.records.specs.Forest.{Forest, nil, snoc, post_order, nodes_in, last_root, trees}
use Rattle.records.specs.Adopt.{Sized}
use Rattle.records.proofs.ParentLaws.{order_length, under_parent, parents_nodes, parents_trees, parented_behind}
use Rattle.node.specs.Growth.{Effect, opening, closing, leaf, faulty, with_tree, growth}
use Rattle.node.specs.Built.{SoundForest}

-- ---- the outline

-- the forest with all of its nodes the same
abbrev outline : Forest → Forest
outline nil = nil
outline (snoc f x kids) = snoc (outline f) zero_node (outline kids)

abbrev outlines : List Forest → List Forest
outlines [] = []
outlines (f ∷ fs) = outline f ∷ outlines fs

tree_outline : (x : Node) (kids : Forest) (fs : List Forest) → outlines (with_tree x kids fs) ≡ with_tree zero_node (outline kids) (outlines fs)
tree_outline x kids [] = refl
tree_outline x kids (f ∷ fs) = refl

growth_outline :
    (es : List Effect) (xs : List Node) (fs : List Forest) →
    outlines (growth es xs fs) ≡ growth es (replicate (length xs) zero_node) (outlines fs)
unfolding growth
growth_outline [] xs fs = refl
growth_outline (opening ∷ es) xs fs = growth_outline es xs (nil ∷ fs)
growth_outline (closing s ∷ es) [] fs = refl
growth_outline (closing s ∷ es) (x ∷ xs) [] = growth_outline es xs []
growth_outline (closing s ∷ es) (x ∷ xs) (kids ∷ fs) =
    growth_outline es xs (with_tree x kids fs) ∙ ap (growth es (replicate (length xs) zero_node)) (tree_outline x kids fs)
growth_outline (leaf s ∷ es) [] fs = refl
growth_outline (leaf s ∷ es) (x ∷ xs) fs =
    growth_outline es xs (with_tree x nil fs) ∙ ap (growth es (replicate (length xs) zero_node)) (tree_outline x nil fs)
growth_outline (faulty ∷ es) xs fs = refl

outline_nodes : (f : Forest) → nodes_in (outline f) ≡ nodes_in f
outline_nodes nil = refl
outline_nodes (snoc f x kids) =
    let a = outline_nodes f in
    let b = outline_nodes kids in
    let m = order_length (outline f) zero_node (outline kids) in
    let n = order_length f x kids in
    omega arith

same_nodes : (f g : Forest) → outline f ≡ outline g → nodes_in f ≡ nodes_in g
same_nodes f g o = sym (outline_nodes f) ∙ ap nodes_in o ∙ outline_nodes g

-- two lists of two parts, the first as long
same_parts : (xs ys zs ws : List Node) → length xs ≡ length zs → xs ++ ys ≡ zs ++ ws → (xs ≡ zs) × (ys ≡ ws)
same_parts xs ys zs ws n e = (
  sym (take-append_seam xs ys) ∙ ap₂ take n e ∙ take-append_seam zs ws,
  sym (drop-append_seam xs ys) ∙ ap₂ drop n e ∙ drop-append_seam zs ws,
)

-- a forest is told by its outline and its post-order
same_forest : (f g : Forest) → outline f ≡ outline g → post_order f ≡ post_order g → f ≡ g
unfolding post_order
same_forest nil nil o e = refl
same_forest nil (snoc g y others) o e = absurd (let z = ap trees o in omega arith)
same_forest (snoc f x kids) nil o e = absurd (let z = ap trees o in omega arith)
same_forest (snoc f x kids) (snoc g y others) o e =
    let of : outline f ≡ outline g = cc in
    let ok : outline kids ≡ outline others = cc in
    let s = same_parts (post_order f) _ (post_order g) _ (same_nodes f g of) e in
    let t = same_parts (post_order kids) (x ∷ []) (post_order others) (y ∷ []) (same_nodes kids others ok) s.1 in
    let a = same_forest f g of s.0 in
    let b = same_forest kids others ok t.0 in
    let c = t.1 in
    cc

-- ---- the order

-- the nodes of the trees, in the order of their completion
abbrev orders : List Forest → List Node
orders [] = []
orders (f ∷ fs) = orders fs ++ post_order f

-- the first are the second, or there are fewer of them
abbrev AllOrFewer : List Node → List Node → Type 0
AllOrFewer xs ys = (xs ≡ ys) ⊎ (length xs < length ys)

then_fewer : (xs ys zs : List Node) → AllOrFewer xs ys → AllOrFewer ys zs → AllOrFewer xs zs
then_fewer xs ys zs (inl e) h = subst (λ (l : List Node). AllOrFewer l zs) (sym e) h
then_fewer xs ys zs (inr l) (inl e) = inr (let n = ap length e in omega arith)
then_fewer xs ys zs (inr l) (inr m) = inr (omega arith)

not_fewer : (xs ys : List Node) → length xs ≡ length ys → AllOrFewer xs ys → xs ≡ ys
not_fewer xs ys n (inl e) = e
not_fewer xs ys n (inr l) = absurd (omega arith)

unused : (xs ys : List Node) → AllOrFewer xs (xs ++ ys)
unused xs [] = inl (sym (append-nil xs))
unused xs (y ∷ ys) = inr (simp length-append (omega arith))

-- a tree has its children's nodes, and is lost where there is no place for it
tree_order :
    (x : Node) (kids : Forest) (fs : List Forest) (xs : List Node) →
    AllOrFewer (orders (with_tree x kids fs) ++ xs) ((orders fs ++ post_order kids) ++ (x ∷ xs))
unfolding post_order
tree_order x kids [] xs = inr (simp length-append (omega arith))
tree_order x kids (f ∷ fs) xs = inl (simp append_assoc)

growth_order : (es : List Effect) (xs : List Node) (fs : List Forest) → AllOrFewer (orders (growth es xs fs)) (orders fs ++ xs)
unfolding growth post_order
growth_order [] xs fs = unused (orders fs) xs
growth_order (opening ∷ es) xs fs =
    subst (λ (l : List Node). AllOrFewer (orders (growth es xs (nil ∷ fs))) (l ++ xs)) (append-nil (orders fs)) (growth_order es xs (nil ∷ fs))
growth_order (closing s ∷ es) [] fs = unused (orders fs) []
growth_order (closing s ∷ es) (x ∷ xs) [] = then_fewer (orders (growth es xs [])) xs (x ∷ xs) (growth_order es xs []) (inr (omega arith))
growth_order (closing s ∷ es) (x ∷ xs) (kids ∷ fs) = then_fewer _ _ _ (growth_order es xs (with_tree x kids fs)) (tree_order x kids fs xs)
growth_order (leaf s ∷ es) [] fs = unused (orders fs) []
growth_order (leaf s ∷ es) (x ∷ xs) fs =
    then_fewer _ _ _ (growth_order es xs (with_tree x nil fs))
    (subst (λ (l : List Node). AllOrFewer (orders (with_tree x nil fs) ++ xs) (l ++ (x ∷ xs))) (append-nil (orders fs)) (tree_order x nil fs xs))
growth_order (faulty ∷ es) xs fs = unused (orders fs) xs

-- ---- other nodes

-- events that make a tree of its nodes make every tree of its outline of that tree's nodes
regrown :
    (es : List Effect) (f g : Forest) → outline f ≡ outline g → growth es (post_order f) (nil ∷ []) ≡ f ∷ [] →
    growth es (post_order g) (nil ∷ []) ≡ g ∷ []
unfolding post_order
regrown es f g o e = by (growth es (post_order g) (nil ∷ [])) same (growth_order es (post_order g) (nil ∷ []))
  where
    n : nodes_in g ≡ nodes_in f
    n = same_nodes g f (sym o)

    same : outlines (growth es (post_order g) (nil ∷ [])) ≡ outline g ∷ []
    same =
        growth_outline es (post_order g) (nil ∷ [])
        ∙ ap (λ (m : ℕ). growth es (replicate m zero_node) (nil ∷ [])) n
        ∙ sym (growth_outline es (post_order f) (nil ∷ []))
        ∙ ap outlines e
        ∙ ap (λ (h : Forest). h ∷ []) o

    by : (hs : List Forest) → outlines hs ≡ outline g ∷ [] → AllOrFewer (orders hs) (post_order g) → hs ≡ g ∷ []
    by [] q w = absurd (let z = ap length q in omega arith)
    by (h ∷ i ∷ hs) q w = absurd (let z = ap length q in omega arith)
    by (h ∷ []) q w =
        let p : outline h ≡ outline g = cc in
        ap (λ (z : Forest). z ∷ []) (same_forest h g p (not_fewer (post_order h) (post_order g) (same_nodes h g p) w))

-- ---- parents

outline_under : (p q : ℕ) (f : Forest) → outline f ≡ outline (under_parent p q f)
outline_under p q nil = refl
outline_under p q (snoc f x kids) =
    ap₂ (λ (g h : Forest). snoc g zero_node h) (outline_under p q f) (outline_under (p + nodes_in f) (last_root p (snoc f x kids)) kids)

sound_sized : (f : Forest) → SoundForest f → Sized f
unfolding SoundForest Sized
sound_sized nil s = tt
sound_sized (snoc f x kids) s = (sound_sized f s.0, sound_sized kids s.1, s.2.count)

pub sound_under : (p q : ℕ) (f : Forest) → SoundForest f → SoundForest (under_parent p q f)
unfolding SoundForest
sound_under p q nil s = tt
sound_under p q (snoc f x kids) s =
    let n = p + nodes_in f in
    let r = last_root p (snoc f x kids) in
    let t = s.2 in
    let nodes = parents_nodes n r kids in
    let roots = parents_trees n r kids in (
      sound_under p q f s.0,
      sound_under n r kids s.1,
      record {
        kind = t.kind;
        count = t.count ∙ ap (λ (m : ℕ). m + 1) (sym nodes);
        scalar = λ h. roots ∙ t.scalar h;
        array = λ h. t.array h ∙ sym roots;
        hash = λ h. t.hash h ∙ sym roots;
      },
    )

-- a forest's nodes with their parents are those of the forest with its parents
pub parented_nodes : (f : Forest) → SoundForest f → parented 0 (post_order f) ≡ post_order (under_parent 0 absent f)
unfolding parented
parented_nodes f s = parented_behind [] f (sound_sized f s)

-- and events that make a tree of its nodes make it of those
pub parented_tree :
    (es : List Effect) (f : Forest) → SoundForest f → growth es (post_order f) (nil ∷ []) ≡ f ∷ [] →
    growth es (parented 0 (post_order f)) (nil ∷ []) ≡ under_parent 0 absent f ∷ []
parented_tree es f s e =
    ap (λ (xs : List Node). growth es xs (nil ∷ [])) (parented_nodes f s)
    ∙ regrown es f (under_parent 0 absent f) (outline_under 0 absent f) e
