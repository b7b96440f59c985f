-- The children of a collection are the roots of the forest before it: they get their parent, and no other number changes.
use Rattle.std.specs.Prelude.{◌≡◌, ℕ, zero, suc, ◌+◌, ◌-◌, ◌*◌, ◌/◌, ◌≤◌, ◌<◌, set}
use Rattle.std.proofs.Math.Path.{refl, sym, ap, ap₂}
use Rattle.std.proofs.Common.{◌∙◌, length-append, length-set, get_or-drop, get_or-set_other}
use mathlib.Core.List.{List, [], ◌∷◌, ◌++◌, append_assoc, append-nil}
use native.Mathlib.Omega.{arith}
use Rattle.std.proofs.Math.ListN.{length}
use Rattle.records.specs.Record.{record_width, absent, at_parent, node_of, with_parent}
use Rattle.records.specs.Layout.{laid_nodes, stored, parent_stored, node_at}
use Rattle.records.specs.LayoutLaws.{nodes_more}
use Rattle.records.proofs.PlaceLaws.{node_laid, parent_laid}
use Rattle.records.specs.Forest.{Forest, nil, snoc, post_order, nodes_in, trees, last_root}
use Rattle.records.proofs.ParentLaws.{under_parent, order_length, parents_nodes, parented_behind, parented-length}
use Rattle.records.specs.Parent.{parented}
use Rattle.records.specs.Adopt.{adopted, Chain, Sized}
use Rattle.records.specs.declared.record.Node.{Node}

-- ---- a parent that is put changes no count and no length

pub parent_length : (b : List ℕ) (n p : ℕ) → length (parent_stored b n p) ≡ length b
unfolding parent_stored
parent_length b n p = length-set b (record_width * n + at_parent) p

parent_counts : (b : List ℕ) (n p m : ℕ) → (node_at (parent_stored b n p) m).subtree ≡ (node_at b m).subtree
unfolding parent_stored node_of
parent_counts b n p m =
    get_or-drop (record_width * m) (set b (record_width * n + at_parent) p) 7 0
    ∙ get_or-set_other b (record_width * n + at_parent) (record_width * m + 7) p 0 (λ e. omega arith)
    ∙ sym (get_or-drop (record_width * m) b 7 0)

pub parent_chain : (b : List ℕ) (n p k c : ℕ) → Chain b k c → Chain (parent_stored b n p) k c
parent_chain b n p zero c h = tt
parent_chain b n p (suc k) c h = rw (parent_counts b n p (c - 1), parent_length b n p) (h.0, h.1, h.2, parent_chain b n p k (c - (node_at b (c - 1)).subtree) h.3)

-- ---- one child more

pub adopt_done : (b : List ℕ) (p k c : ℕ) → k ≡ 0 → adopted b p k c ≡ b
unfolding adopted
adopt_done b p zero c e = refl
adopt_done b p (suc k) c e = absurd (omega arith)

pub adopt_one : (b : List ℕ) (p c k : ℕ) → 1 ≤ k → adopted (parent_stored b (c - 1) p) p (k - 1) (c - (node_at b (c - 1)).subtree) ≡ adopted b p k c
unfolding adopted
adopt_one b p c zero l = absurd (omega arith)
adopt_one b p c (suc k) l = let e : suc k - 1 ≡ k = omega arith in rw e

-- the first of k links
module _ (b : List ℕ) (c k : ℕ) where
  pub record Link : Type 0 where
    pub count : 1 ≤ (node_at b (c - 1)).subtree
    pub within : (node_at b (c - 1)).subtree ≤ c
    pub whole : c ≤ length b / record_width
    pub on : Chain b (k - 1) (c - (node_at b (c - 1)).subtree)

pub link : (b : List ℕ) (c k : ℕ) → 1 ≤ k → Chain b k c → Link b c k
link b c zero l h = absurd (omega arith)
link b c (suc k) l h = let e : suc k - 1 ≡ k = omega arith in record { count = h.0; within = h.1; whole = h.2; on = rw e h.3 }

-- so there is a record before number c
pub link_before : (b : List ℕ) (c k : ℕ) → 1 ≤ k → Chain b k c → (1 ≤ c) × (c - 1 < length b / record_width)
link_before b c k l h =
    let n = link b c k l h in
    let count = n.count in
    let within = n.within in
    let whole = n.whole in
    (omega arith, omega arith)

-- ---- the roots of a forest

-- the last root with what stands before and after it; the roots' parent is q, and p nodes are taken to come before the forest
module _ (p q : ℕ) (front rest : List Node) (f : Forest) (x : Node) (kids : Forest) where
  inside : List Node
  inside = post_order (under_parent (p + nodes_in f) (last_root p (snoc f x kids)) kids)

  before : List Node
  before = front ++ (post_order (under_parent p q f) ++ inside)

  regroup : (y : Node) → before ++ (y ∷ rest) ≡ front ++ (post_order (under_parent p q f) ++ (inside ++ (y ∷ rest)))
  unfolding before inside
  regroup y = simp append_assoc

  whole : front ++ (post_order (under_parent p q (snoc f x kids)) ++ rest) ≡ before ++ (with_parent x q ∷ rest)
  unfolding before inside post_order
  whole = simp append_assoc

  place : length front + nodes_in (snoc f x kids) - 1 ≡ length before
  unfolding before inside
  place =
      let m = order_length f x kids in
      let a = parents_nodes p q f in
      let b = parents_nodes (p + nodes_in f) (last_root p (snoc f x kids)) kids in
      rw (length-append, length-append) (omega arith)

  back : Sized (snoc f x kids) → length front + nodes_in (snoc f x kids) - x.subtree ≡ length front + nodes_in f
  unfolding Sized
  back s = let m = order_length f x kids in let c = s.2 in omega arith

module _ (size : ℕ) where
  pub adopted_laid : (f : Forest) (front rest : List Node) (p q r : ℕ) → Sized f
      → adopted (laid_nodes size (front ++ (post_order (under_parent p q f) ++ rest))) r (trees f) (length front + nodes_in f)
      ≡ laid_nodes size (front ++ (post_order (under_parent p r f) ++ rest))
  unfolding adopted Sized inside
  adopted_laid nil front rest p q r s = refl
  adopted_laid (snoc f x kids) front rest p q r s =
      let b = laid_nodes size (front ++ (post_order (under_parent p q (snoc f x kids)) ++ rest)) in
      let c = length front + nodes_in (snoc f x kids) in
      let is : b ≡ laid_nodes size (before p q front rest f x kids ++ (with_parent x q ∷ rest)) = ap (laid_nodes size) (whole p q front rest f x kids) in
      let node : node_at b (c - 1) ≡ with_parent x q =
      ap₂ node_at is (place p q front rest f x kids) ∙ node_laid size (before p q front rest f x kids) (with_parent x q) rest in
      let put : parent_stored b (c - 1) r ≡ laid_nodes size (front ++ (post_order (under_parent p q f) ++ (inside p q front rest f x kids ++ (with_parent x r ∷ rest)))) =
      ap₂ (λ (l : List ℕ) (n : ℕ). parent_stored l n r) is (place p q front rest f x kids)
      ∙ parent_laid size (before p q front rest f x kids) (with_parent x q) rest r
      ∙ ap (laid_nodes size) (regroup p q front rest f x kids (with_parent x r)) in
      let next : c - (node_at b (c - 1)).subtree ≡ length front + nodes_in f = ap (λ (y : Node). c - y.subtree) node ∙ back p q front rest f x kids s in
      ap₂ (λ (l : List ℕ) (n : ℕ). adopted l r (trees f) n) put next
      ∙ adopted_laid f front (inside p q front rest f x kids ++ (with_parent x r ∷ rest)) p q r s.0
      ∙ ap (laid_nodes size) (sym (regroup p r front rest f x kids (with_parent x r)) ∙ sym (whole p r front rest f x kids))

  chain_laid : (f : Forest) (front rest : List Node) (p q : ℕ) → Sized f → (b : List ℕ)
      → b ≡ laid_nodes size (front ++ (post_order (under_parent p q f) ++ rest)) → record_width * (length front + nodes_in f) ≤ length b
      → Chain b (trees f) (length front + nodes_in f)
  unfolding Sized
  chain_laid nil front rest p q s b is l = tt
  chain_laid (snoc f x kids) front rest p q s b is l =
      let c = length front + nodes_in (snoc f x kids) in
      let on : b ≡ laid_nodes size (before p q front rest f x kids ++ (with_parent x q ∷ rest)) = is ∙ ap (laid_nodes size) (whole p q front rest f x kids) in
      let node : (node_at b (c - 1)).subtree ≡ x.subtree =
      ap (λ (y : Node). y.subtree) (ap₂ node_at on (place p q front rest f x kids) ∙ node_laid size (before p q front rest f x kids) (with_parent x q) rest) in
      let m = order_length f x kids in
      let t = s.2 in
      let next = back p q front rest f x kids s in
      let again = chain_laid f front (inside p q front rest f x kids ++ (with_parent x q ∷ rest)) p q s.0 b
      (on ∙ ap (laid_nodes size) (regroup p q front rest f x kids (with_parent x q))) (omega arith) in
      rw (node, next) (omega arith, omega arith, omega arith, again)

-- ---- a collection is complete

-- nodes, and then a forest that nothing holds yet, in a buffer
laid_behind : (size : ℕ) (outer : List Node) (kids : Forest) → Sized kids
    → laid_nodes size (parented 0 (outer ++ post_order kids)) ≡ laid_nodes size (parented 0 outer ++ (post_order (under_parent (length outer) absent kids) ++ []))
laid_behind size outer kids s =
    ap (laid_nodes size) (parented_behind outer kids s ∙ ap (λ (l : List Node). parented 0 outer ++ l) (sym (append-nil (post_order (under_parent (length outer) absent kids)))))

module _ (size : ℕ) (outer : List Node) (kids : Forest) (s : Sized kids) (n k : ℕ) (is-n : n ≡ length outer + nodes_in kids) (is-k : k ≡ trees kids) where
  place_is : n ≡ length (parented 0 outer) + nodes_in kids
  place_is = is-n ∙ ap (λ (m : ℕ). m + nodes_in kids) (sym (parented-length outer 0))

  -- its children's counts lead from one to the next
  pub chain_behind : (b : List ℕ) → b ≡ laid_nodes size (parented 0 (outer ++ post_order kids)) → record_width * n ≤ length b → Chain b k n
  chain_behind b is l =
      rw (is-k, place_is)
      (chain_laid size kids (parented 0 outer) [] (length outer) absent s b (is ∙ laid_behind size outer kids s) (let e = place_is in omega arith))

  -- they get its number, and its record is put
  pub completed_laid : (x : Node) → x.subtree ≡ nodes_in kids + 1 → x.parent ≡ absent → record_width * n + record_width ≤ size
      → stored (adopted (laid_nodes size (parented 0 (outer ++ post_order kids))) n k n) n x ≡ laid_nodes size (parented 0 ((outer ++ post_order kids) ++ (x ∷ [])))
  unfolding post_order Sized
  completed_laid x count root fits =
      let front = parented 0 outer in
      let p = length outer in
      let under : (p q : ℕ) → List Node = λ p q. post_order (under_parent p q kids) in
      let given : adopted (laid_nodes size (parented 0 (outer ++ post_order kids))) n k n ≡ laid_nodes size (front ++ under p n) =
      ap (λ (b : List ℕ). adopted b n k n) (laid_behind size outer kids s)
      ∙ ap₂ (λ (j m : ℕ). adopted (laid_nodes size (front ++ (under p absent ++ []))) n j m) is-k place_is
      ∙ adopted_laid size kids front [] p absent n s
      ∙ ap (λ (l : List Node). laid_nodes size (front ++ l)) (append-nil (under p n)) in
      let long : n ≡ length (front ++ under p n) =
      place_is ∙ sym (length-append front (under p n) ∙ ap (λ (m : ℕ). length front + m) (parents_nodes p n kids)) in
      let itself : with_parent x absent ≡ x = ap (with_parent x) (sym root) in
      let z : p + 0 ≡ p = omega arith in
      let q : p + (0 + nodes_in kids) ≡ n = let e = is-n in omega arith in
      let all : parented 0 ((outer ++ post_order kids) ++ (x ∷ [])) ≡ front ++ (under p n ++ (x ∷ [])) =
      ap (parented 0) (append_assoc outer (post_order kids) (x ∷ []))
      ∙ parented_behind outer (snoc nil x kids) (tt, s, count)
      ∙ ap₂ (λ (a b : ℕ). front ++ (under a b ++ (with_parent x absent ∷ []))) z q
      ∙ ap (λ (y : Node). front ++ (under p n ++ (y ∷ []))) itself in
      ap (λ (b : List ℕ). stored b n x) given
      ∙ nodes_more size (front ++ under p n) n x long fits
      ∙ ap (laid_nodes size) (append_assoc front (under p n) (x ∷ []) ∙ sym all)
