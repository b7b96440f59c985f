-- What the accessors give back of a tree (N2, N3; 02, (c)): its items, its pairs, equal keys included, the value of a key, how many they are, the
-- last child and the one before each, of each record but the root exactly one collection whose child it is, and that collection as its parent.
-- Told by the accessors' own answers. That they do, on every buffer that `build` filled, is `read_back` (proofs/ReadBackLaws.antt).
use Rattle.std.specs.Prelude.{◌≡◌, ◌⊎◌, List, [], ◌∷◌, ℕ, suc, ◌+◌, ◌-◌, ◌<◌, length, Some, None, slice_get}
use Rattle.provenance.specs.Reading.{Piece}
use Rattle.records.specs.Record.{absent}
use Rattle.records.specs.Layout.{laid_nodes}
use Rattle.parser.specs.Machine.{built}
use Rattle.parser.specs.Call.{building}
use Rattle.records.specs.declared.record.Node.{Node}
use Rattle.node.specs.Record.{record_at}
use Rattle.node.specs.Kind.{len_at}
use Rattle.node.specs.Child.{record_before, last_child, child_before, array_item, parent_at}
use Rattle.node.specs.Entry.{hash_entry}
use Rattle.node.specs.Search.{key_is, first_with, hash_value}
use Rattle.node.specs.declared.entry.YamlHashEntry.{YamlHashEntry}
use Rattle.records.specs.Forest.{Forest, nil, snoc, nodes_in}
use Rattle.node.specs.Forest.{roots, pairs_of, Has}
use Rattle.node.specs.Source.{is_measured_at}
use Rattle.node.specs.Growth.{Shape, scalar, tree_of, completions, HasShape}

-- record c is an item of n, or a key or a value of one of its pairs
abbrev pub IsChild : List ℕ → ℕ → ℕ → Type 0
IsChild b n c =
    ((i : ℕ) × (array_item b n i ≡ Some c))
    ⊎ ((i : ℕ) × (e : YamlHashEntry) × (hash_entry b n i ≡ Some e) × ((e.key ≡ c) ⊎ (e.value ≡ c)))

-- of a node y whose own children are `kids` and before whose tree come s nodes: its number is n, and those of its children are `roots s kids`
pub record NodeReadBack (b events : List ℕ) (s n : ℕ) (y : Node) (kids : Forest) : Type 0 where
  pub itself : record_at b n ≡ Some y
  pub no_children : y.kind < 7 → (len_at b n ≡ Some 0) × (roots s kids ≡ [])
  pub item_count : y.kind ≡ 7 → len_at b n ≡ Some (length (roots s kids))
  pub items : y.kind ≡ 7 → (i : ℕ) → array_item b n i ≡ slice_get (roots s kids) i
  pub pair_count : y.kind ≡ 8 → len_at b n ≡ Some (length (pairs_of s kids))
  pub pairs : y.kind ≡ 8 → (i : ℕ) → hash_entry b n i ≡ slice_get (pairs_of s kids) i
  pub values : y.kind ≡ 8 → (key : List ℕ) → hash_value b events n key ≡ first_with (key_is b events key) (pairs_of s kids) None
  -- none where there are no children
  pub last_child_is : last_child b n ≡ slice_get (roots s kids) (length (roots s kids) - 1)
  -- the child before another; from the first one, the record before the collection's whole tree, which is none of its children
  pub child_before_is : (i c : ℕ) → slice_get (roots s kids) (suc i) ≡ Some c → child_before b c ≡ slice_get (roots s kids) i
  pub before_first : (c : ℕ) → slice_get (roots s kids) 0 ≡ Some c → child_before b c ≡ record_before b s

-- of the buffer b, in which n nodes were built from these event bytes, the tree of x with its children
pub record ReadBack (b events : List ℕ) (n : ℕ) (x : Node) (kids : Forest) : Type 0 where
  pub root : (record_before b n ≡ Some (nodes_in kids)) × (n ≡ nodes_in kids + 1)
  pub nodes : (s : ℕ) (y : Node) (others : Forest) → Has (snoc nil x kids) 0 s y others → NodeReadBack b events s (s + nodes_in others) y others
  -- as many records as the events complete nodes, and record j is an array, a hash, an alias or a scalar as the j-th event that completes one says
  pub count : length (completions events) ≡ n
  pub kinds : (j : ℕ) (s : Shape) → slice_get (completions events) j ≡ Some s → (y : Node) × (record_at b j ≡ Some y) × HasShape s y
  -- by the accessor, the span of a record that no scalar's event completes counts as measured
  pub flags : (j : ℕ) (s : Shape) → slice_get (completions events) j ≡ Some s → (s ≡ scalar) ⊎ (is_measured_at b j ≡ Some 1)
  pub one_parent : (c : ℕ) → c < nodes_in kids → (p : ℕ) × IsChild b p c × ((m : ℕ) → IsChild b m c → m ≡ p)
  pub root_no_child : (m : ℕ) → IsChild b m (nodes_in kids) → ⊥
  -- going up and going down agree: the collection whose child a record is is its parent, and has a higher number; the root alone has none
  pub up : (p c : ℕ) → IsChild b p c → parent_at b c ≡ Some p
  pub down : (p c : ℕ) → parent_at b c ≡ Some p → (p ≡ absent) ⊎ IsChild b p c
  pub above : (p c : ℕ) → IsChild b p c → c < p
  pub root_none : parent_at b (nodes_in kids) ≡ Some absent
  pub root_alone : (c : ℕ) → parent_at b c ≡ Some absent → c ≡ nodes_in kids

-- of the nodes xs, laid out in `size` numbers
pub record TreeReadBack (events : List ℕ) (size : ℕ) (xs : List Node) : Type 0 where
  pub root : Node
  pub kids : Forest
  pub tree : tree_of events xs ≡ snoc nil root kids ∷ []
  pub read : ReadBack (laid_nodes size xs) events (length xs) root kids

-- the theorem on trees
abbrev pub EveryTreeReadBack : Type 0
EveryTreeReadBack =
    (text events : List ℕ) (size piece_size : ℕ) (xs : List Node) (ps : List Piece) →
    building text events size piece_size ≡ built xs ps → TreeReadBack events size xs
