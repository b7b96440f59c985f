-- When a record exists (N3): it lies whole in the buffer, and its kind is 1 to 8. Its numbers are read by `node_of` (E2).
use Rattle.std.specs.Prelude.{ℕ, Bool, ◌&&◌, if◌then◌else◌, List, ltb, leb, length, Option, Some, None}
use Rattle.records.specs.Layout.{node_at, record_room}
use Rattle.records.specs.declared.record.Node.{Node}

abbrev pub is_kind : ℕ → Bool
is_kind k = leb 1 k && leb k 8

-- a node, if its kind is one
unfoldable pub existing : Node → Option Node
existing x = if is_kind x.kind then Some x else None

-- record n of a buffer
unfoldable pub record_at : List ℕ → ℕ → Option Node
record_at b n = if ltb n (record_room (length b)) then existing (node_at b n) else None
