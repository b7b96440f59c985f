-- What is shown of the nodes that a call builds (N2, N3), apart from the accessors: they are the tree of the events, written in post-order; each
-- record says how many nodes its tree has and how many children, or pairs; and each has the shape of the event that completes it. Proved as
-- `built_tree` (proofs/GrowthLaws.antt).
use Rattle.std.specs.Prelude.{◌≡◌, true, List, [], ◌∷◌, ℕ, ◌+◌, ◌*◌, ◌<◌}
use Rattle.provenance.specs.Reading.{Piece}
use Rattle.parser.specs.Machine.{built}
use Rattle.parser.specs.Call.{building}
use Rattle.records.specs.declared.record.Node.{Node}
use Rattle.node.specs.Record.{is_kind}
use Rattle.records.specs.Forest.{Forest, nil, snoc, post_order, nodes_in, trees}
use Rattle.node.specs.Growth.{Shape, tree_of, completions, HasShape}

-- a node's record over its children
pub record Tree (x : Node) (kids : Forest) : Type 0 where
  pub kind : is_kind x.kind ≡ true
  pub count : x.subtree ≡ nodes_in kids + 1
  pub scalar : x.kind < 7 → trees kids ≡ 0
  pub array : x.kind ≡ 7 → x.payload.first ≡ trees kids
  pub hash : x.kind ≡ 8 → 2 * x.payload.first ≡ trees kids

unfoldable pub SoundForest : Forest → Type 0
SoundForest nil = Unit {0}
SoundForest (snoc f x kids) = SoundForest f × SoundForest kids × Tree x kids

-- the nodes have these shapes, one by one
abbrev pub Shaped : List Shape → List Node → Type 0
Shaped [] [] = Unit {0}
Shaped [] (x ∷ xs) = ⊥
Shaped (s ∷ ss) [] = ⊥
Shaped (s ∷ ss) (x ∷ xs) = HasShape s x × Shaped ss xs

pub record BuiltTree (events : List ℕ) (xs : List Node) : Type 0 where
  pub root : Node
  pub kids : Forest
  pub tree : tree_of events xs ≡ snoc nil root kids ∷ []
  pub order : xs ≡ post_order (snoc nil root kids)
  pub sound : SoundForest (snoc nil root kids)
  pub shaped : Shaped (completions events) xs

abbrev pub EveryBuiltTree : Type 0
EveryBuiltTree =
    (text events : List ℕ) (size piece_size : ℕ) (xs : List Node) (ps : List Piece) →
    building text events size piece_size ≡ built xs ps → BuiltTree events xs
