-- The parent of a node (02, (c)): the first node after it whose tree holds it; the root has none. A node's tree is the nodes that it counts, itself
-- the last (E2).
use Rattle.std.specs.Prelude.{ℕ, ◌+◌, cond, List, [], ◌∷◌, ltb, Option, Some, None}
use Rattle.records.specs.Record.{absent, with_parent}
use Rattle.records.specs.declared.record.Node.{Node}

-- of the nodes from number n on, the first whose tree holds the node that stands d before number n
unfoldable pub holder : ℕ → ℕ → List Node → Option ℕ
holder n d [] = None
holder n d (x ∷ xs) = cond (ltb d x.subtree) (Some n) (holder (n + 1) (d + 1) xs)

-- a number, or what stands for none
abbrev pub or_absent : Option ℕ → ℕ
or_absent None = absent
or_absent (Some n) = n

-- each of the nodes from number n on with its parent
unfoldable pub parented : ℕ → List Node → List Node
parented n [] = []
parented n (x ∷ xs) = with_parent x (or_absent (holder (n + 1) 1 xs)) ∷ parented (n + 1) xs
