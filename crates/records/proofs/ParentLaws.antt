-- Parents in a forest whose nodes count their trees: those of a tree's children are its root.
use Rattle.std.specs.Prelude.{◌≡◌, refl, Option, Some, None, Bool, true, false, cond, List, [], ◌∷◌, ◌++◌, ℕ, suc, ◌+◌, ◌≤◌, ◌<◌, ltb, length}
use Rattle.std.proofs.Common.{sym, ap, ap₂, ◌∙◌, append_assoc, append-nil, zero-add, arith, lt-ltb, le-ltb, length-append}
use Rattle.std.specs.Option.{option_or}
use Rattle.records.specs.Record.{absent, with_parent}
use Rattle.records.specs.Parent.{holder, or_absent, parented}
use Rattle.records.specs.Forest.{Forest, nil, snoc, post_order, nodes_in, trees, last_root}
use Rattle.records.specs.Adopt.{Sized}
use Rattle.records.specs.declared.record.Node.{Node}

-- the forest with its parents, where p nodes come before it and its roots' parent is q
abbrev pub under_parent : ℕ → ℕ → Forest → Forest
under_parent p q nil = nil
under_parent p q (snoc f x kids) = snoc (under_parent p q f) (with_parent x q) (under_parent (p + nodes_in f) (last_root p (snoc f x kids)) kids)

pub order_length : (f : Forest) (x : Node) (kids : Forest) → nodes_in (snoc f x kids) ≡ nodes_in f + nodes_in kids + 1
unfolding post_order
order_length f x kids = simp length-append (omega arith)

pub parents_nodes : (p q : ℕ) (f : Forest) → nodes_in (under_parent p q f) ≡ nodes_in f
parents_nodes p q nil = refl
parents_nodes p q (snoc f x kids) =
    let a = parents_nodes p q f in
    let b = parents_nodes (p + nodes_in f) (last_root p (snoc f x kids)) kids in
    let m = order_length (under_parent p q f) (with_parent x q) (under_parent (p + nodes_in f) (last_root p (snoc f x kids)) kids) in
    let n = order_length f x kids in
    omega arith

pub parents_trees : (p q : ℕ) (f : Forest) → trees (under_parent p q f) ≡ trees f
parents_trees p q nil = refl
parents_trees p q (snoc f x kids) = ap suc (parents_trees p q f)

-- ---- no tree holds what comes before it

holder_append : (xs ys : List Node) (n d : ℕ) → holder n d (xs ++ ys) ≡ option_or (holder n d xs) (holder (n + length xs) (d + length xs) ys)
unfolding holder
holder_append [] ys n d = ap₂ (λ (a b : ℕ). holder a b ys) (omega arith) (omega arith)
holder_append (x ∷ xs) ys n d = by (ltb d x.subtree) (holder_append xs ys (n + 1) (d + 1))
  where
    by : (t : Bool) → holder (n + 1) (d + 1) (xs ++ ys) ≡ option_or (holder (n + 1) (d + 1) xs) (holder (n + 1 + length xs) (d + 1 + length xs) ys)
        → cond t (Some n) (holder (n + 1) (d + 1) (xs ++ ys)) ≡ option_or (cond t (Some n) (holder (n + 1) (d + 1) xs)) (holder (n + suc (length xs)) (d + suc (length xs)) ys)
    by true e = refl
    by false e =
        e ∙ ap₂ (λ (a b : ℕ). option_or (holder (n + 1) (d + 1) xs) (holder a b ys)) (omega arith) (omega arith)

-- a tree of fewer nodes does not
holder_past : (x : Node) (ys : List Node) (n d : ℕ) → x.subtree ≤ d → holder n d (x ∷ ys) ≡ holder (n + 1) (d + 1) ys
unfolding holder
holder_past x ys n d l = rw (le-ltb d x.subtree l)

holder_here : (x : Node) (ys : List Node) (n d : ℕ) → d < x.subtree → holder n d (x ∷ ys) ≡ Some n
unfolding holder
holder_here x ys n d l = rw (lt-ltb d x.subtree l)

-- the trees of a forest hold nothing before it, so what follows decides
holder_behind : (f : Forest) (ys : List Node) (n d : ℕ) → Sized f → 1 ≤ d → holder n d (post_order f ++ ys) ≡ holder (n + nodes_in f) (d + nodes_in f) ys
unfolding post_order Sized
holder_behind nil ys n d s l = ap₂ (λ (a b : ℕ). holder a b ys) (omega arith) (omega arith)
holder_behind (snoc f x kids) ys n d s l =
    let e : post_order (snoc f x kids) ++ ys ≡ post_order f ++ (post_order kids ++ (x ∷ ys)) = simp append_assoc in
    let m = order_length f x kids in
    let c = s.2 in
    rw e (
    holder_behind f (post_order kids ++ (x ∷ ys)) n d s.0 l
    ∙ holder_behind kids (x ∷ ys) (n + nodes_in f) (d + nodes_in f) s.1 (omega arith)
    ∙ holder_past x ys (n + nodes_in f + nodes_in kids) (d + nodes_in f + nodes_in kids) (omega arith)
    ∙ ap₂ (λ (a b : ℕ). holder a b ys) (omega arith) (omega arith))

-- ---- the nodes of a forest

-- all that stands d before the nodes ys, number n the first of them, is held by o
abbrev AllHeld : ℕ → ℕ → List Node → Option ℕ → Type 0
AllHeld n m ys o = (d : ℕ) → 1 ≤ d → d ≤ m → holder n d ys ≡ o

-- a forest and what follows it: each root's parent is what holds it there
pub parented_forest : (f : Forest) (ys : List Node) (p : ℕ) (o : Option ℕ) → Sized f → AllHeld (p + nodes_in f) (nodes_in f) ys o
    → parented p (post_order f ++ ys) ≡ post_order (under_parent p (or_absent o) f) ++ parented (p + nodes_in f) ys
unfolding post_order Sized parented
parented_forest nil ys p o s held = ap (λ (n : ℕ). parented n ys) (omega arith)
parented_forest (snoc f x kids) ys p o s held =
    let e : post_order (snoc f x kids) ++ ys ≡ post_order f ++ (post_order kids ++ (x ∷ ys)) = simp append_assoc in
    let m = order_length f x kids in
    let c = s.2 in
    let f' = under_parent p (or_absent o) f in
    let kids' = under_parent (p + nodes_in f) (last_root p (snoc f x kids)) kids in
    let n = p + nodes_in f + nodes_in kids in
    let number : or_absent (Some n) ≡ last_root p (snoc f x kids) = omega arith in
    let next : n + 1 ≡ p + nodes_in (snoc f x kids) = omega arith in
    let held-f : AllHeld (p + nodes_in f) (nodes_in f) (post_order kids ++ (x ∷ ys)) o =
    λ d l u.
    holder_behind kids (x ∷ ys) (p + nodes_in f) d s.1 l
    ∙ holder_past x ys n (d + nodes_in kids) (omega arith)
    ∙ ap (λ (a : ℕ). holder a (d + nodes_in kids + 1) ys) next
    ∙ held (d + nodes_in kids + 1) (omega arith) (omega arith) in
    let held-kids : AllHeld n (nodes_in kids) (x ∷ ys) (Some n) = λ d l u. holder_here x ys n d (omega arith) in
    let own : holder (n + 1) 1 ys ≡ o = ap (λ (a : ℕ). holder a 1 ys) next ∙ held 1 (omega arith) (omega arith) in
    ap (parented p) e
    ∙ parented_forest f (post_order kids ++ (x ∷ ys)) p o s.0 held-f
    ∙ ap (λ (l : List Node). post_order f' ++ l) (
    parented_forest kids (x ∷ ys) (p + nodes_in f) (Some n) s.1 held-kids
    ∙ ap (λ (q : ℕ). post_order (under_parent (p + nodes_in f) q kids) ++ parented n (x ∷ ys)) number
    ∙ ap₂ (λ (h : Option ℕ) (a : ℕ). post_order kids' ++ (with_parent x (or_absent h) ∷ parented a ys)) own next)
    ∙ simp append_assoc

holds_none : (m d : ℕ) → holder m d [] ≡ None
unfolding holder
holds_none m d = refl

no_nodes : (m : ℕ) → parented m [] ≡ []
unfolding parented
no_nodes m = refl

-- ---- nodes before it

-- what comes before nodes that hold nothing there keeps its parents
parented_front : (xs ys : List Node) (n : ℕ) → ((m d : ℕ) → 1 ≤ d → holder m d ys ≡ None) → parented n (xs ++ ys) ≡ parented n xs ++ parented (n + length xs) ys
unfolding parented
parented_front [] ys n h = ap (λ (m : ℕ). parented m ys) (omega arith)
parented_front (x ∷ xs) ys n h =
    let here : holder (n + 1) 1 (xs ++ ys) ≡ holder (n + 1) 1 xs =
    holder_append xs ys (n + 1) 1 ∙ ap (option_or (holder (n + 1) 1 xs)) (h (n + 1 + length xs) (1 + length xs) (omega arith)) ∙ or_none (holder (n + 1) 1 xs) in
    let on : n + 1 + length xs ≡ n + suc (length xs) = omega arith in
    ap₂ (λ (o : Option ℕ) (l : List Node). with_parent x (or_absent o) ∷ l) here (parented_front xs ys (n + 1) h)
    ∙ ap (λ (m : ℕ). with_parent x (or_absent (holder (n + 1) 1 xs)) ∷ (parented (n + 1) xs ++ parented m ys)) on
  where
    or_none : (o : Option ℕ) → option_or o None ≡ o
    or_none None = refl
    or_none (Some k) = refl

-- nodes, and then a forest: its roots have no parent, and what comes before it keeps its own
pub parented_behind : (outer : List Node) (f : Forest) → Sized f → parented 0 (outer ++ post_order f) ≡ parented 0 outer ++ post_order (under_parent (length outer) absent f)
parented_behind outer f s =
    parented_front outer (post_order f) 0 (λ m d l. ap (holder m d) (sym (append-nil (post_order f))) ∙ holder_behind f [] m d s l ∙ holds_none (m + nodes_in f) (d + nodes_in f))
    ∙ ap (λ (l : List Node). parented 0 outer ++ l) (
    ap₂ parented (zero-add (length outer)) (sym (append-nil (post_order f)))
    ∙ parented_forest f [] (length outer) None s (λ d l u. holds_none (length outer + nodes_in f) d)
    ∙ ap (λ (l : List Node). post_order (under_parent (length outer) absent f) ++ l) (no_nodes (length outer + nodes_in f))
    ∙ append-nil (post_order (under_parent (length outer) absent f)))

pub parented-length : (xs : List Node) (n : ℕ) → length (parented n xs) ≡ length xs
unfolding parented
parented-length [] n = refl
parented-length (x ∷ xs) n = ap suc (parented-length xs (n + 1))
