-- The trees of a forest by number (N2, N3), where p nodes come before it.
use Rattle.std.specs.Prelude.{◌≡◌, ◌⊎◌, List, [], ◌∷◌, ◌++◌, ℕ, ◌+◌}
use Rattle.records.specs.Forest.{Forest, nil, snoc, nodes_in, last_root}
use Rattle.records.specs.declared.record.Node.{Node}
use Rattle.node.specs.Entry.{entry}
use Rattle.node.specs.declared.entry.YamlHashEntry.{YamlHashEntry}

-- the numbers of all roots, in order
abbrev pub roots : ℕ → Forest → List ℕ
roots p nil = []
roots p (snoc f x kids) = roots p f ++ (last_root p (snoc f x kids) ∷ [])

-- the roots two by two, as the pairs of a hash
abbrev pub pairs_of : ℕ → Forest → List YamlHashEntry
pairs_of p nil = []
pairs_of p (snoc nil x kids) = []
pairs_of p (snoc (snoc f y others) x kids) = pairs_of p f ++ (entry (last_root p (snoc f y others)) y (last_root p (snoc (snoc f y others) x kids)) x ∷ [])

-- the forest has the tree of x, s nodes come before it, and its children are the trees of kids; x is number s + nodes_in kids
unfoldable pub Has : Forest → ℕ → ℕ → Node → Forest → Type 0
Has nil p s x kids = ⊥
Has (snoc f y others) p s x kids =
    Has f p s x kids ⊎ Has others (p + nodes_in f) s x kids ⊎ ((s ≡ p + nodes_in f) × (x ≡ y) × (kids ≡ others))
