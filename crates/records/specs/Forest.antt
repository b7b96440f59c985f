-- Nodes as a forest, written from its last tree back, as records are (N2, N3). A forest's post-order is the order in which its nodes are
-- completed, so a node's number is how many come before it.
use Rattle.std.specs.Prelude.{List, [], ◌∷◌, ◌++◌, ℕ, suc, ◌+◌, length}
use Rattle.records.specs.declared.record.Node.{Node}

-- `snoc f x kids` is f and then the tree of x, whose children are the trees of kids
pub data Forest : Type 0 where
  nil : Forest
  snoc : Forest → Node → Forest → Forest

unfoldable pub post_order : Forest → List Node
post_order nil = []
post_order (snoc f x kids) = post_order f ++ (post_order kids ++ (x ∷ []))

abbrev pub nodes_in : Forest → ℕ
nodes_in f = length (post_order f)

abbrev pub trees : Forest → ℕ
trees nil = 0
trees (snoc f x kids) = suc (trees f)

-- the number of the last tree's root, where p nodes come before the forest
abbrev pub last_root : ℕ → Forest → ℕ
last_root p nil = p
last_root p (snoc f x kids) = p + (nodes_in f + nodes_in kids)
