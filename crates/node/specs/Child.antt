-- Children and the parent by their records' numbers (N3; 02, (c)). The last child of n is n − 1, the child before c is c less c's subtree count; a hash's children
-- are its keys and values in turn. A child counts from the first: item i of k is reached from the last by k − 1 − i steps back.
--
-- What document 01 leaves open: a collection of no children has no last child. A count that leads below record 0 gives none. A count that
-- leads to a record outside the collection is followed, since the number of children alone says where the first one is.
use Rattle.std.specs.Prelude.{ℕ, zero, suc, ◌-◌, ◌&&◌, if◌then◌else◌, List, ltb, leb, Option, Some, None, option_map}
use Rattle.records.specs.declared.record.Node.{Node}
use Rattle.node.specs.Chain.{◌>>=◌}
use Rattle.node.specs.Record.{record_at}
use Rattle.node.specs.Kind.{is_array, children, len_at}

-- a number, if its record exists
unfoldable pub place_at : List ℕ → ℕ → Option ℕ
place_at b n = do
  _ ← record_at b n
  Some n

-- the record before number n: of n nodes the root, of a collection n its last child
unfoldable pub record_before : List ℕ → ℕ → Option ℕ
record_before b n = if ltb 0 n then place_at b (n - 1) else None

unfoldable pub last_child : List ℕ → ℕ → Option ℕ
last_child b n = do
  k ← len_at b n
  if ltb 0 k then record_before b n else None

-- c less a subtree count
abbrev pub less_count : List ℕ → ℕ → ℕ → Option ℕ
less_count b c s = if ltb 0 s && leb s c then place_at b (c - s) else None

unfoldable pub child_before : List ℕ → ℕ → Option ℕ
child_before b c = do
  x ← record_at b c
  less_count b c x.subtree

unfoldable pub steps_back : List ℕ → ℕ → ℕ → Option ℕ
steps_back b zero c = Some c
steps_back b (suc k) c = child_before b c >>= steps_back b k

-- the child k before the last one of n, if it has more than k
unfoldable pub child_from_last : List ℕ → ℕ → ℕ → Option ℕ
child_from_last b n k = do
  x ← record_at b n
  if ltb k (children x) then record_before b n >>= steps_back b k else None

unfoldable pub array_item : List ℕ → ℕ → ℕ → Option ℕ
array_item b n i = do
  x ← record_at b n
  if is_array x && ltb i x.payload.first then child_from_last b n (x.payload.first - 1 - i) else None

-- the parent, as the record says; the number that stands for none is told as it is
unfoldable pub parent_at : List ℕ → ℕ → Option ℕ
parent_at b n = option_map (λ (x : Node). x.parent) (record_at b n)
