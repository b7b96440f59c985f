-- The layout of a record: what is laid out is read back, and every list given to a record is the one found there.
use Rattle.std.specs.Prelude.{◌≡◌, refl, ℕ, zero, suc, ◌+◌, List, [], ◌∷◌, ◌++◌, length, get_or, drop, replicate}
use Rattle.std.proofs.Common.{◌∙◌, get_or-drop}
use Rattle.schema.specs.Record.{two_numbers}
use Rattle.records.specs.Record.{record_width, node_numbers, node_of, extent, piece_list, with_list, zero_node}
use Rattle.records.specs.declared.record.Node.{Node}

pub node_wide : (x : Node) → length (node_numbers x) ≡ record_width
unfolding node_numbers
node_wide x = refl

-- the numbers of a node, whatever follows, are read as that node
pub read_laid : (x : Node) (rest : List ℕ) → node_of (node_numbers x ++ rest) ≡ x
unfolding node_of node_numbers
read_laid x rest = refl

-- the order, spelt with the numbers of the places
pub in_order : node_of (1 ∷ 2 ∷ 3 ∷ 4 ∷ 5 ∷ 6 ∷ 7 ∷ 8 ∷ 9 ∷ 10 ∷ 11 ∷ 12 ∷ 13 ∷ 14 ∷ [])
    ≡ record {
      kind = 1;
      extent = extent 2 3;
      tag = record { start = 4; end = 5; suffix = 6; len = 7 };
      subtree = 8;
      list = piece_list 9 10;
      payload = two_numbers 11 12;
      parent = 13;
      measured = 14;
    }
unfolding node_of
in_order = refl

zero_at : (m i : ℕ) → ◌≡◌ {A = ℕ} (get_or (replicate m 0) i 0) 0
zero_at zero i = refl
zero_at (suc m) zero = refl
zero_at (suc m) (suc i) = zero_at m i

-- zeros are read as zeros
pub read_zeros : (m n : ℕ) → node_of (drop n (replicate m 0)) ≡ zero_node
unfolding node_of
read_zeros m n = rw (none 0, none 1, none 2, none 3, none 4, none 5, none 6, none 7, none 8, none 9, none 10, none 11, none 12, none 13)
  where
    none : (i : ℕ) → ◌≡◌ {A = ℕ} (get_or (drop n (replicate m 0)) i 0) 0
    none i = get_or-drop {A = ℕ} n (replicate m 0) i 0 ∙ zero_at m (n + i)

-- the list that a record is given is the one that stands in it
pub list_laid : (x : Node) (first count : ℕ) (rest : List ℕ)
    → (node_of (node_numbers (with_list x first count) ++ rest)).list ≡ record { first = first; count = count }
unfolding node_of node_numbers
list_laid x first count rest = refl
