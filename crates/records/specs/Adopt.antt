-- How a collection's children get their parent once it is complete: from the last to the first, by their subtree counts; and forests in
-- which each node counts its tree. Cited by inner calls' contracts only.
use Rattle.std.specs.Prelude.{◌≡◌, ℕ, zero, suc, ◌+◌, ◌-◌, ◌/◌, ◌≤◌, List, length}
use Rattle.records.specs.Record.{record_width}
use Rattle.records.specs.Layout.{parent_stored, node_at}
use Rattle.records.specs.Forest.{Forest, nil, snoc, nodes_in}

-- a buffer after the k children before number c got the parent p
unfoldable pub adopted : List ℕ → ℕ → ℕ → ℕ → List ℕ
adopted b p zero c = b
adopted b p (suc k) c = adopted (parent_stored b (c - 1) p) p k (c - (node_at b (c - 1)).subtree)

-- k trees end before number c, one before the other, by their roots' counts, and their roots lie in the buffer
abbrev pub Chain : List ℕ → ℕ → ℕ → Type 0
Chain b zero c = Unit {0}
Chain b (suc k) c =
    (1 ≤ (node_at b (c - 1)).subtree) × ((node_at b (c - 1)).subtree ≤ c) × (c ≤ length b / record_width) × Chain b k (c - (node_at b (c - 1)).subtree)

-- each node of a forest counts the nodes of its tree, itself among them (E2)
unfoldable pub Sized : Forest → Type 0
Sized nil = Unit {0}
Sized (snoc f x kids) = Sized f × Sized kids × (x.subtree ≡ nodes_in kids + 1)
