-- Spans and whether they were measured, tags, piece lists (E2, N1, N3; 02, (c)). A record that is not laid out here may hold anything: it has no tag exactly where all four numbers
-- say so, and no list where the first piece says so, or where it is a collection, whatever its numbers say.
use Rattle.std.specs.Prelude.{ℕ, Bool, ◌&&◌, not, if◌then◌else◌, List, eqb, Option, Some, None, option_map}
use Rattle.records.specs.Record.{absent}
use Rattle.records.specs.declared.record.Node.{Node}
use Rattle.records.specs.declared.record.Extent.{Extent}
use Rattle.records.specs.declared.record.TagInfo.{TagInfo}
use Rattle.records.specs.declared.record.PieceList.{PieceList}
use Rattle.node.specs.Chain.{◌>>=◌}
use Rattle.node.specs.Record.{record_at}
use Rattle.node.specs.Kind.{is_scalar}

unfoldable pub span_at : List ℕ → ℕ → Option Extent
span_at b n = option_map (λ (x : Node). x.extent) (record_at b n)

-- whether the span was measured, as the record says: 1, 0, or any number in a record that is not laid out here
unfoldable pub is_measured_at : List ℕ → ℕ → Option ℕ
is_measured_at b n = option_map (λ (x : Node). x.measured) (record_at b n)

unfoldable pub is_absent : TagInfo → Bool
is_absent t = eqb t.start absent && (eqb t.end absent && (eqb t.suffix absent && eqb t.len absent))

unfoldable pub tag_of : List ℕ → ℕ → Option TagInfo
tag_of b n = do
  x ← record_at b n
  if not (is_absent x.tag) then Some x.tag else None

unfoldable pub piece_list_at : List ℕ → ℕ → Option PieceList
piece_list_at b n = do
  x ← record_at b n
  if is_scalar x && not (eqb x.list.first absent) then Some x.list else None
